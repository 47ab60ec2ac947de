-- Steps of a replay, one after the other.
use Rattle.std.proofs.Common.{◌≡◌, ◌∙◌, ℕ, List, refl, subst}
use Rattle.port_model.specs.declared.values.value.Value.{Value}
use Rattle.run_record.specs.Variables.{VariableList}
use Rattle.run_record.specs.declared.evaluation.identity.Identity.{Identity}
use Rattle.run_record.specs.Event.{Event}
use Rattle.run_record.specs.declared.failure.Failure.{Failure}
use Rattle.sdl_system.specs.System.{SystemValue}
use Rattle.sdl_system.specs.declared.id.ProcessId.{ProcessId}
use Rattle.sdl_system.specs.declared.process.Process.{Process}
use Rattle.sdl_failures.specs.Stands.{ComesAt, Creates}
use Rattle.sdl_failures.specs.declared.replayed.halt.Halt.{Halt}
use Rattle.sdl_failures.specs.Replay.{Follows, HasCome, IsSame, StopsAsOf}
use Rattle.sdl_failures.specs.declared.replayed.replay.Replay.{Replay}

-- no step at all
pub follows-still : (r : Replay) → Follows r r
follows-still r = record {
  same = record { system = refl; process = refl; who = refl };
  comes = λ variables all came. came;
}

-- some steps, and then some more
pub follows-then : (r s t : Replay) → Follows r s → Follows s t → Follows r t
follows-then r s t first second = record {
  same = record {
    system = second.same.system ∙ first.same.system;
    process = second.same.process ∙ first.same.process;
    who = second.same.who ∙ first.same.who;
  };
  comes = λ variables all came. second.comes variables all (first.comes variables all came);
}

-- What holds of the instance that a replay is of, by another name.
pub as_of : (P : SystemValue → Process → Identity → Type 0) (r n : Replay) (system : SystemValue) (process : Process)
    (who : Identity) → IsSame r n → r.system.now ≡ system → r.process.now ≡ process → r.who ≡ who
    → P n.system.now n.process.now n.who → P system process who
as_of P r n system process who same s p w holds =
    subst (λ (x : SystemValue). P x process who) (same.system ∙ s)
    (subst (λ (x : Process). P n.system.now x who) (same.process ∙ p)
    (subst (λ (x : Identity). P n.system.now n.process.now x) (same.who ∙ w) holds))

-- where it stops by all of its events
pub stops_there : (r n : Replay) (system : SystemValue) (process : Process) (who : Identity) (variables : VariableList)
    (all : List Event) (halt : Halt) (why : Failure) → r.system.now ≡ system → r.process.now ≡ process → r.who ≡ who
    → HasCome variables all r → StopsAsOf r n halt why → ComesAt system process who variables all halt n.known why
stops_there r n system process who variables all halt why s p w came stops =
    as_of (λ x y z. ComesAt x y z variables all halt n.known why) r n system process who stops.follows.same s p w
    (stops.stops variables all (stops.follows.comes variables all came))

-- and where it creates
pub creates_there : (r n : Replay) (system : SystemValue) (process : Process) (who : Identity)
    (variables : VariableList) (all : List Event) (created : ProcessId) (number : ℕ) (values : List Value)
    → r.system.now ≡ system → r.process.now ≡ process → r.who ≡ who → HasCome variables all r → Follows r n
    → ((vs : VariableList) (es : List Event) → HasCome vs es n
    → Creates n.system.now n.process.now n.who vs es created number values)
    → Creates system process who variables all created number values
creates_there r n system process who variables all created number values s p w came follows creates =
    as_of (λ x y z. Creates x y z variables all created number values) r n system process who follows.same s p w
    (creates variables all (follows.comes variables all came))
