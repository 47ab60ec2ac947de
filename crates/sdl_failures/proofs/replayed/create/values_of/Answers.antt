-- The values of the create, by all events of the creator.
use Rattle.std.proofs.Common.{◌∙◌, ap, slice_get}
use Rattle.std.proofs.lemmas.Option.{IfSome_then, same_Some}
use Rattle.std.proofs.lemmas.Result.{IfOk-weaker}
use Rattle.sdl_system.specs.declared.id.ProcessId.{ProcessId}
use Rattle.sdl_failures.proofs.FollowLemmas.{creates_there, follows-then}
use Rattle.sdl_failures.specs.Stands.{identity_of}
use Rattle.sdl_failures.proofs.replayed.create.values_of.Goals as goal

pub returns : goal.returns
returns c =
    let system = c.args.system.now in
    let parent = c.args.parent.now in
    let r = c.in_ok-replay.replay in
    let n = c.walk.new.self in
    IfOk-weaker c.created.result _ _ (λ found all. IfSome_then found all (λ values creates maker is.
    creates_there r n system maker (identity_of parent) c.args.variables parent.events c.args.created c.args.number
    values c.in_ok-replay.ensures.system
    (c.in_ok-replay.ensures.process
    ∙ same_Some c.in-Some.maker.now maker (c.in-Some.ensures
    ∙ ap (λ (id : ProcessId). slice_get system.processes id.0) c.process-own.ensures ∙ is))
    c.in_ok-replay.ensures.who c.in_ok-replay.ensures.came
    (follows-then r c.enter.new.self n
    (follows-then r c.tell_all.new.self c.enter.new.self
    (c.in_ok-told.ensures c.if-not-told.false) (c.in_ok-entered.ensures c.if-not-entered.false))
    (c.in_ok-fits.ensures c.if-not-fits.false))
    creates)) c.created.ensures
