-- What flows from a source, and to whom paths lead.
use Rattle.std.proofs.Common.{◌≡◌, ℕ, zero, suc, ◌<◌, ◌-◌, ◌^◌, ◌/◌, ◌%◌, ◌↔◌, Bool, List, [], ◌∷◌, Option, None, Some, refl, sym, subst}
use Rattle.port_model.specs.declared.values.item.SignalId.{SignalId}
use Rattle.sdl_system.specs.declared.id.ProcessId.{ProcessId}
use Rattle.std.proofs.lemmas.Nat.Bits.{bit_at_ones}
use Rattle.build_routes.specs.Graph.{Flows, Leads}
use Rattle.build_routes.specs.Mask.{Has, Lets}
use Rattle.build_routes.specs.Nodes.{number}
use Rattle.build_routes.specs.Paths.{IsSource, Path}
use Rattle.build_routes.specs.Reached.{AreFlags, Passes}
use Rattle.build_routes.specs.SignalLists.{HasSignal, StandsFor, column_of}
use Rattle.build_routes.specs.Steps.{AllSteps}
use Rattle.build_routes.specs.declared.network.signal_sets.SignalSets.{SignalSets}
use Rattle.build_routes.specs.declared.network.graph.Row.{Row}
use Rattle.build_routes.specs.declared.network.graph.Step.{Step}
use Rattle.build_routes.specs.declared.network.list.ListId.{ListId}
use Rattle.build_routes.specs.declared.network.joined.End.TheVariants as at
use Rattle.build_routes.specs.declared.network.joined.Network.{Network}
use Rattle.build_routes.specs.declared.network.joined.Source.{Source}
use Rattle.build_routes.specs.declared.graph.node.Node.TheVariants as nodes
use Rattle.build_routes.proofs.Bits.{no_bit}
use Rattle.build_routes.proofs.Complete.{HasSteps, env_complete, process_complete}
use Rattle.build_routes.proofs.Sound.{flow_sound}

flows_on : (network : Network) (signal : SignalId) (source : Source) (flags : List Bool) (rows : List Row) (column start : List ℕ) (k : ℕ)
    → ((n : ℕ) (step : Step) → AllSteps network flags source n step → Leads rows n step)
    → ((only : Option ListId) → Passes network signal only → Lets column only k) → Has start 0 k
    → HasSteps network signal source flags (λ m. Flows rows column start k (number m))
flows_on network signal source flags rows column start k made opens begins = record {
  begins = Flows.begins begins;
  goes = λ m m' only flows step passes. Flows.goes_on (record { to = number m'; only = only }) flows
      (made (number m) (record { to = number m'; only = only }) step) (opens only passes) refl;
}

pub process_reached : (network : Network) (signal : SignalId) (source : Source) (flags : List Bool) (rows : List Row) (column start reached : List ℕ) (k : ℕ)
    → IsSource network source → AreFlags network flags → ((n : ℕ) (step : Step) → Leads rows n step ↔ AllSteps network flags source n step)
    → ((only : Option ListId) → Lets column only k ↔ Passes network signal only) → ((n : ℕ) → Has start n k → n ≡ 0) → Has start 0 k
    → ((n k : ℕ) → Has reached n k ↔ Flows rows column start k n)
    → (p : ProcessId) → Has reached (number (nodes.Process p)) k ↔ Path network signal source (at.Process p)
process_reached network signal source flags rows column start reached k is are leads lets starts begins flow p = (
  λ has. flow_sound network signal source flags rows column start k is are (λ n step. (leads n step).0) (λ only. (lets only).0) starts
      ((flow (number (nodes.Process p)) k).0 has) (nodes.Process p) refl,
  λ path. (flow (number (nodes.Process p)) k).1
      (process_complete network signal source flags (λ m. Flows rows column start k (number m))
      (flows_on network signal source flags rows column start k (λ n step. (leads n step).1) (λ only. (lets only).1) begins) is are p path),
)

pub env_reached : (network : Network) (signal : SignalId) (source : Source) (flags : List Bool) (rows : List Row) (column start reached : List ℕ) (k : ℕ)
    → IsSource network source → AreFlags network flags → ((n : ℕ) (step : Step) → Leads rows n step ↔ AllSteps network flags source n step)
    → ((only : Option ListId) → Lets column only k ↔ Passes network signal only) → ((n : ℕ) → Has start n k → n ≡ 0) → Has start 0 k
    → ((n k : ℕ) → Has reached n k ↔ Flows rows column start k n)
    → Has reached (number nodes.Env) k ↔ Path network signal source at.Env
env_reached network signal source flags rows column start reached k is are leads lets starts begins flow = (
  λ has. flow_sound network signal source flags rows column start k is are (λ n step. (leads n step).0) (λ only. (lets only).0) starts
      ((flow (number nodes.Env) k).0 has) nodes.Env refl,
  λ path. (flow (number nodes.Env) k).1
      (env_complete network signal source flags (λ m. Flows rows column start k (number m))
      (flows_on network signal source flags rows column start k (λ n step. (leads n step).1) (λ only. (lets only).1) begins) is are path),
)

-- all signals at the source alone
pub starts_at_source : (n k : ℕ) → Has ((2 ^ 64 - 1) ∷ []) n k → n ≡ 0
starts_at_source zero k has = refl
starts_at_source (suc n) k has = absurd (no_bit k has)

pub starts_with_all : (k : ℕ) → k < 64 → Has ((2 ^ 64 - 1) ∷ []) 0 k
starts_with_all k small = bit_at_ones 64 k small

pub starts_at : (start : List ℕ) → start ≡ (2 ^ 64 - 1) ∷ [] → (k n : ℕ) → Has start n k → n ≡ 0
starts_at start is k n has = starts_at_source n k (subst (λ x. Has x n k) is has)

pub starts_with : (start : List ℕ) → start ≡ (2 ^ 64 - 1) ∷ [] → (k : ℕ) → k < 64 → Has start 0 k
starts_with start is k small = subst (λ x. Has x 0 k) (sym is) (starts_with_all k small)

-- the sets tell what may pass
pub opens : (network : Network) (signal : SignalId) (sets : SignalSets) (masks : List ℕ) → masks ≡ column_of sets (signal.0 / 64)
    → ((list : ListId) → HasSignal sets list signal ↔ StandsFor network.lists.items signal list)
    → (only : Option ListId) → Lets masks only (signal.0 % 64) ↔ Passes network signal only
opens network signal sets masks is each None = (λ x. tt, λ x. tt)
opens network signal sets masks is each (Some list) = (
  λ has. (each list).0 (subst (λ x. Has x list.0 (signal.0 % 64)) is has),
  λ stands. subst (λ x. Has x list.0 (signal.0 % 64)) (sym is) ((each list).1 stands),
)
