-- Sound systems.
use Rattle.std.proofs.Common.{◌≡◌, ◌<◌, ℕ, All, List, [], ◌∷◌, Option, Some, get_or, length, slice_get, subst, sym, arith}
use Rattle.std.proofs.lemmas.Option.{slice_get-get_or}
use Rattle.sdl_system.specs.Process.{table_in, table_of}
use Rattle.sdl_system.specs.Soundness.{IsSoundProcess, IsSoundTable, IsState}
use Rattle.sdl_system.specs.System.{SystemValue}
use Rattle.sdl_system.specs.declared.id.StateId.{StateId}
use Rattle.sdl_system.specs.declared.process.Process.{Process}
use Rattle.sdl_system.specs.declared.process.State as declared
use Rattle.sdl_system.specs.declared.state.StateTable.{StateTable}

-- what holds of all holds of the one at a place
pub at : {X : Type 0} (P : X → Type 0) (xs : List X) (k : ℕ) → k < length xs → All P xs → (x : X) ×
    (slice_get xs k ≡ Some x) × P x
at P [] k within all = absurd (omega arith)
at P (x ∷ xs) k within all = (get_or (x ∷ xs) k x, slice_get-get_or (x ∷ xs) k x within, all k x within)

pub states_have_tables : (system : SystemValue) (process : Process) → IsSoundProcess system process →
    (number : StateId) → IsState process number
    → (table : StateTable) × (table_of process number ≡ Some table) × IsSoundTable system process table
states_have_tables system process sound number within =
    let state =
    at (λ (state : declared.State). state.table.0 < length process.tables.items) process.states.items number.0 within sound.states in
    let table = at (IsSoundTable system process) process.tables.items state.0.table.0 state.2 sound.tables in
    (table.0, subst (λ (s : Option declared.State). table_in process s ≡ Some table.0) (sym state.1) table.1, table.2)
