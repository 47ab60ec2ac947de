use Rattle.std.proofs.Common.{◌∙◌, ap, refl}
use Rattle.sdl_system.specs.Route.{target_in}
use Rattle.sdl_system.specs.declared.route.Source.TheVariants as from
use Rattle.view_text.proofs.Going.{sending-same}
use Rattle.view_text.proofs.course.Course.sending.Goals as goal

pub returns : goal.returns
returns c = λ records told left now.
    let system = c.args.system.now in
    let signal = c.args.signal.now in
    sending-same system records told left c.args.self.now c.args.at signal now c.get.result c.args.self.now.place
    c.route-target.result c.is_there.result c.get.ensures refl
    (c.route-target.ensures ∙ ap (target_in system.routes signal.item.name from.Env signal.to) c.deref.ensures.value)
    c.is_there.ensures
