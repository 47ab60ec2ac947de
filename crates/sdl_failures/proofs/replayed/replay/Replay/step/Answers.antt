-- A part is done, or the statement is left.
use Rattle.std.proofs.Common.{◌∙◌, subst}
use Rattle.sdl_failures.specs.Replay.{Follows}
use Rattle.sdl_failures.specs.declared.replayed.replay.Replay.{Replay}
use Rattle.sdl_failures.proofs.replayed.replay.Replay.step.Goals as goal

pub returns-in-End-clause-on : goal.returns-in-End-clause-on
returns-in-End-clause-on c = λ on.
    subst (λ (x : Replay). Follows x c.leave.new.self) (c.in_ok-step.ensures.same c.in-End.is) (c.leave.ensures.on on)

pub returns-in-End-clause-same : goal.returns-in-End-clause-same
returns-in-End-clause-same c = λ end. c.leave.ensures.same end ∙ c.in_ok-step.ensures.same c.in-End.is
