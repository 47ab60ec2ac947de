-- Each event is told after those before it.
use Rattle.sdl_failures.proofs.FollowLemmas.{follows-still, follows-then}
use Rattle.sdl_failures.proofs.replayed.replay.Replay.tell_all.Goals as goal

pub loop-event-init : goal.loop-event-init
loop-event-init c = follows-still c.args.self.now

pub loop-event-preserved : goal.loop-event-preserved
loop-event-preserved c =
    follows-then c.args.self.now c.loop-event.self c.tell.new.self c.loop-event.invariant
    (c.in_ok-told.ensures c.if-not-told.false)
