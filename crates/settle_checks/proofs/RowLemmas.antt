-- Rows of counts, of what the senders of a place have put.
use Rattle.std.proofs.Common.{◌≡◌, ◌∙◌, ◌<◌, ◌≤◌, ◌+◌, ap, arith, get_or, length, subst, sym, ⊎_elim, ℕ, List, [], ◌∷◌, ◌++◌, All}
use Rattle.std.proofs.lemmas.Bool.{cases_eq}
use Rattle.std.proofs.lemmas.List.{get_or_append_left, get_or_push, length_push}
use Rattle.run_record.specs.Record.{RecordValue}
use Rattle.run_semantics.specs.World.{most_instances}
use Rattle.settle_checks.specs.Account.{IsAllHeard, IsAllPut}
use Rattle.settle_checks.specs.Outputs.{IsEnough, IsEnoughHeard}
use Rattle.settle_meaning.specs.Puts.{Heard, IsNamed}
use Rattle.threads_ports.specs.Peers.{PeersState, put_to}

-- the row has at each of so many numbers how many signals were put into the port of that number
abbrev pub IsRowTo : PeersState → ℕ → List ℕ → Type 0
IsRowTo peers count row =
    (length row ≡ count) × ((number : ℕ) → number < count → get_or row number 0 ≡ length (put_to peers number))

pub row_none : (peers : PeersState) (row : List ℕ) → row ≡ [] → IsRowTo peers 0 row
row_none peers row none = (ap length none, λ number below. let wrong : ⊥ = omega (arith, below) in absurd wrong)

pub row_more : (peers : PeersState) (count sent : ℕ) (row new : List ℕ) → IsRowTo peers count row
    → sent ≡ length (put_to peers count) → new ≡ row ++ sent ∷ [] → IsRowTo peers (count + 1) new
row_more peers count sent row new is counts pushed =
    subst (IsRowTo peers (count + 1)) (sym pushed) (
      length_push row sent ∙ ap (λ n. n + 1) is.0,
      λ number below.
          ⊎_elim
          (λ (same : number ≡ count).
          subst (λ n. get_or (row ++ sent ∷ []) n 0 ≡ length (put_to peers n)) (sym same)
          (get_or_push row sent 0 count is.0 ∙ counts))
          (λ (apart : number ≡ count → ⊥).
          let less : number < count = grind (arith, below, apart) in
          let within : number < length row = omega (arith, less, is.0) in
          get_or_append_left row (sent ∷ []) 0 number within ∙ is.1 number less)
          (cases_eq number count),
    )

abbrev pub IsRow : PeersState → List ℕ → Type 0
IsRow peers row = (number : ℕ) → number ≤ most_instances → get_or row number 0 ≡ length (put_to peers number)

module _ (heard : List Heard) (records : List RecordValue) (peers : PeersState) (row : List ℕ) (is : IsRow peers row)
    (within : All (λ (trace : RecordValue). trace.pid ≤ most_instances) records) where
  pub put_by_row : (from : RecordValue)
      → All (λ (to : RecordValue). IsEnough (IsNamed heard) from to (get_or row to.pid 0)) records
      → IsAllPut heard records from peers
  put_by_row from all k d below =
      let to : RecordValue = get_or records k d in
      subst (λ n. IsEnough (IsNamed heard) from to n) (is to.pid (within k d below)) (all k d below)

  pub heard_by_row :
      All (λ (to : RecordValue). IsEnoughHeard (IsNamed heard) heard to (get_or row to.pid 0)) records
      → IsAllHeard heard records peers
  heard_by_row all k d below =
      let to : RecordValue = get_or records k d in
      subst (λ n. IsEnoughHeard (IsNamed heard) heard to n) (is to.pid (within k d below)) (all k d below)
