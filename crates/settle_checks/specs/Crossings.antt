-- Signals on their way, counted (Z.102: input, output).
use Rattle.std.specs.Prelude.{◌≡◌, ◌==◌, ◌&&◌, ◌+◌, ◌≤◌, ℕ, Bool, List, [], ◌∷◌, if◌then◌else◌, nat_le}
use Rattle.std.specs.List.{sum_by}
use Rattle.port_model.specs.Same.{same_pid}
use Rattle.port_model.specs.declared.values.item.SignalId.{SignalId}
use Rattle.port_model.specs.declared.values.pid.Pid.{Pid}
use Rattle.port_model.specs.declared.values.pid.Pid.TheVariants.{Of}
use Rattle.settle_checks.specs.declared.summing.crossings.Crossing.{Crossing}
use Rattle.settle_checks.specs.declared.summing.crossings.Way.{Way}
use Rattle.settle_checks.specs.declared.summing.flows.Flow.{Flow}

-- ---- by flows

-- what a sender sends to a peer, if that is an instance
abbrev pub out_to : Pid → Flow → Pid → List Crossing
out_to from flow (Of to) =
    record {
      way = record { to = to; from = from; name = flow.pass.name; at = flow.pass.at };
      count = flow.count;
    } ∷ []
out_to from flow peer = []

abbrev pub crossing_out : Pid → Flow → List Crossing
crossing_out from flow = out_to from flow flow.pass.peer

-- what an instance takes from a peer
abbrev pub crossing_in : ℕ → Flow → Crossing
crossing_in to flow = record {
  way = record { to = to; from = flow.pass.peer; name = flow.pass.name; at = flow.pass.at };
  count = flow.count;
}

-- ---- counts

-- how many of the signals pass a test
abbrev pub crossed : (Way → Bool) → List Crossing → ℕ
crossed P all = sum_by (λ (one : Crossing). if P one.way then one.count else 0) all

-- the signal has this sender, this receiver and this name, and was sent or taken by this time
abbrev pub is_on : Pid → ℕ → SignalId → ℕ → Way → Bool
is_on from to name until way =
    same_pid way.from from && ((way.to == to) && ((way.name.0 == name.0) && nat_le way.at until))

-- by each time as many were sent as were taken, or more, between each two of each name
abbrev pub Covers : List Crossing → List Crossing → Type 0
Covers sent taken =
    (from : Pid) (to : ℕ) (name : SignalId) (until : ℕ)
    → crossed (is_on from to name until) taken ≤ crossed (is_on from to name until) sent

-- the signal that was taken may be the one that was sent
pub record CanUse (sent taken : Way) : Type 0 where
  pub from : sent.from ≡ taken.from
  pub to : sent.to ≡ taken.to
  pub name : sent.name.0 ≡ taken.name.0
  pub before : sent.at ≤ taken.at

-- so many signals of this kind are used up of those that are left
abbrev pub Uses : Way → ℕ → List Crossing → List Crossing → Type 0
Uses taken count old new =
    (from : Pid) (to : ℕ) (name : SignalId) (until : ℕ)
    → (if is_on from to name until taken then count else 0) + crossed (is_on from to name until) new
    ≤ crossed (is_on from to name until) old
