-- What an inbox over a shared port does, before its stop and after it.
use Rattle.std.specs.Prelude.{◌≡◌, [], true, false, All, Result, MatchResult}
use Rattle.port_model.specs.declared.error.PortError.TheVariants.{Memory}
use Rattle.port_model.specs.declared.refused.Refused.{Refused}
use Rattle.input_port.specs.QueueEnds.{FinishedState, SenderState}
use Rattle.input_port.specs.Ends.{HeldState}
use Rattle.port_model.specs.Calls.{ComesBack, HasDrawn}
use Rattle.port_model.specs.Ends.{OwnerState}
use Rattle.port_model.specs.Put.{IsTimely}
use Rattle.input_port.specs.QueueCalls.{Gathers}
use Rattle.input_port.specs.Calls.{Finishes, FinishesSince, GathersSince, HasDrawnSince}

-- No expiry that was drawn came before its due time. Once stopped, no timer is set.
pub record IsKept (owner : OwnerState) : Type 0 where
  pub timely : All IsTimely owner.drawn
  pub over : owner.state.alive ≡ false → owner.state.timers ≡ []

-- It leaves what waits in the port of an owner that was not stopped, or the entries drawn since the stop.
pub record Leaves (old : HeldState) (end : FinishedState) : Type 0 where
  pub living : old.owner.state.alive ≡ true → Finishes old.owner end
  pub stopped : old.owner.state.alive ≡ false → FinishesSince old.owner old.since end

-- It drew some entries, or none.
pub record HasDrawnHere (old new : HeldState) : Type 0 where
  pub living : old.owner.state.alive ≡ true → HasDrawn old.owner new.owner × (new.since ≡ old.since)
  pub stopped : old.owner.state.alive ≡ false → HasDrawnSince old.owner new.owner old.since new.since

-- It gathers a sender.
pub record GathersHere (old new : HeldState) (sender : SenderState) : Type 0 where
  pub living : old.owner.state.alive ≡ true → Gathers old.owner new.owner sender × (new.since ≡ old.since)
  pub stopped : old.owner.state.alive ≡ false → GathersSince old.owner new.owner old.since new.since sender

-- the answer to a gathering
abbrev pub GatherHereIs : HeldState → HeldState → SenderState → Result (Unit {0}) (Refused SenderState) → Type 0
GatherHereIs old new sender result =
    MatchResult result (λ _. GathersHere old new sender) (λ back. ComesBack back sender × (new ≡ old))

-- what it leaves; for lack of memory it comes back, and has drawn some entries
abbrev pub LeaveIs : HeldState → Result FinishedState (Refused HeldState) → Type 0
LeaveIs old result = MatchResult result (λ end. Leaves old end) (λ back. (back.error ≡ Memory) × HasDrawnHere old back.value)
