-- Each step goes on from those before it.
use Rattle.std.proofs.Common.{subst, sym}
use Rattle.sdl_failures.proofs.FollowLemmas.{follows-still, follows-then}
use Rattle.sdl_failures.specs.Replay.{Follows}
use Rattle.sdl_failures.specs.declared.replayed.replay.Replay.{Replay}
use Rattle.sdl_failures.proofs.replayed.replay.Replay.walk.Goals as goal

pub loop-step-init : goal.loop-step-init
loop-step-init c = follows-still c.args.self.now

pub loop-step-preserved : goal.loop-step-preserved
loop-step-preserved c =
    follows-then c.args.self.now c.loop-step.self c.step.new.self c.loop-step.invariant
    (c.in_ok-step.ensures.on c.in-On.is)

pub returns-in-End : goal.returns-in-End
returns-in-End c = λ fits.
    subst (λ (x : Replay). Follows c.args.self.now x) (sym (c.in_ok-step.ensures.same c.in-End.is))
    c.loop-step.invariant
