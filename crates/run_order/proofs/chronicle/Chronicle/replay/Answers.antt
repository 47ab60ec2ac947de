use Rattle.std.proofs.Common.{◌≡◌, refl, subst}
use Rattle.run_order.proofs.chronicle.Chronicle.replay.Goals as goal
use Rattle.run_order.specs.Chronicle.{ChronicleState, replay_of}

pub returns : goal.returns
returns c = subst (λ (s : ChronicleState). c.self.inside.replay ≡ replay_of s) c.self.view_is refl
