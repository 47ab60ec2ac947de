use Rattle.std.proofs.Common.{◌∙◌, ap}
use Rattle.build_states.specs.Turned.{turns_of}
use Rattle.build_states.proofs.ShareLemmas.{turns-kept, turns_kept}
use Rattle.build_states.proofs.outline.Turns.get.Goals as goal

pub returns-in-None : goal.returns-in-None
returns-in-None c =
    ap turns_kept c.in-None.ensures.value
    ∙ turns-kept c.self.inside.by_name.entries c.args.text.now
    ∙ ap (λ table. turns_of table c.args.text.now) c.self.view_is

pub returns-in-Some : goal.returns-in-Some
returns-in-Some c =
    c.deref.ensures.value
    ∙ ap turns_kept c.in-Some.ensures.value
    ∙ turns-kept c.self.inside.by_name.entries c.args.text.now
    ∙ ap (λ table. turns_of table c.args.text.now) c.self.view_is
