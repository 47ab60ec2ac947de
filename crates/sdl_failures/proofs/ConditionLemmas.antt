-- Conditions of a state, of which so many are known.
use Rattle.std.proofs.Common.{◌≡◌, ◌∙◌, ◌⊎◌, ⊎_elim, ap, arith, inl, inr, subst, sym, ℕ, ◌+◌, ◌<◌, ◌≤◌, Bool, Some, List, Ok, Err, length, map, option_map, slice_get}
use Rattle.std.proofs.lemmas.List.{length-map}
use Rattle.std.proofs.lemmas.Option.{same_Some, slice_get-get_or, slice_get-map}
use Rattle.std.specs.Borrow.{Bor}
use Rattle.std.specs.Slice.{IsItemAt}
use Rattle.run_record.specs.Environment.{Environment}
use Rattle.run_record.specs.declared.failure.Failure.{Failure}
use Rattle.sdl_system.specs.declared.id.ConditionId.{ConditionId}
use Rattle.sdl_system.specs.declared.process.Process.{Process}
use Rattle.sdl_system.specs.declared.state.StateTable.{StateTable}
use Rattle.sdl_failures.specs.Fails.{ComesTo, EachBefore, HasTruth, IsFalse, IsStop, StopsAt, StopsContinuous, StopsEnabling, StopsIn, continuous_of, enabling_of}
use Rattle.sdl_failures.specs.declared.replayed.condition.Stopped.{Stopped}
use Rattle.sdl_failures.specs.declared.replayed.condition.Stopped.TheVariants.{At, Otherwise}

-- before the first of them
pub before_none : (Holds : ConditionId → Type 0) (numbers : List ConditionId) → EachBefore Holds numbers 0
before_none Holds numbers = λ index number below is. absurd (omega arith)

below_next : (index count : ℕ) → index < count + 1 → (index < count) ⊎ (index ≡ count)
below_next index count below = grind arith

-- and one more
pub before_more : (Holds : ConditionId → Type 0) (numbers : List ConditionId) (count : ℕ) (one : ConditionId)
    → EachBefore Holds numbers count → slice_get numbers count ≡ Some one → Holds one
    → EachBefore Holds numbers (count + 1)
before_more Holds numbers count one before listed holds = λ index number below is.
    ⊎_elim (λ earlier. before index number earlier is)
    (λ last. subst (λ (n : ConditionId). Holds n)
    (same_Some one number (sym listed ∙ ap (λ (i : ℕ). slice_get numbers i) (sym last) ∙ is)) holds)
    (below_next index count below)

-- all of them
pub before_all : {A : Type 0} (Holds : ConditionId → Type 0) (number_of : A → ConditionId) (list : List A) (count : ℕ)
    → EachBefore Holds (map number_of list) count → length list ≤ count
    → EachBefore Holds (map number_of list) (length (map number_of list))
before_all Holds number_of list count before past = λ index number below is.
    before index number (omega (arith, length-map list number_of)) is

-- the number of the condition of a part of a list
pub number_at : {A : Type 0} (number_of : A → ConditionId) (list : List A) (index : ℕ) (one : A)
    → slice_get list index ≡ Some one → slice_get (map number_of list) index ≡ Some (number_of one)
number_at number_of list index one listed =
    slice_get-map number_of list index ∙ ap (λ o. option_map number_of o) listed

-- what a read of a list gave stands at its index
pub item_read : {X : Type 0} (xs : List X) (i : ℕ) (x : Bor X) → IsItemAt xs i (Some x) → slice_get xs i ≡ Some x.now
item_read xs i x read = slice_get-get_or xs i x.now read.3.0 ∙ ap Some (sym (read.4 (omega arith) x.now))

-- ---- where trials end

module _ (process : Process) (here : Environment) (why : Failure) where
  pub has_truth : (number : ConditionId) (truth : Bool) → ComesTo process here number (Ok truth)
      → HasTruth process here number
  has_truth number truth comes = (truth, comes)

  -- at the condition that was found to fail
  pub stops_as : (number : ConditionId) (found : Failure) (stopped : Stopped) → IsStop number found why stopped
      → (found ≡ why → ComesTo process here number (Err why)) → StopsAt process here number why stopped
  stops_as number found (At at) is comes = (is.0, comes is.1)
  stops_as number found Otherwise is comes = tt

  module _ (table : StateTable) (number : ConditionId) (index : ℕ) where
    -- at an enabling one, behind those that have a truth
    pub stops_enabling : (stopped : Stopped) → slice_get (enabling_of table) index ≡ Some number
        → EachBefore (HasTruth process here) (enabling_of table) index → StopsAt process here number why stopped
        → StopsEnabling process here table why stopped
    stops_enabling (At at) listed first stops = record {
      index = index;
      is = listed ∙ ap Some (sym stops.0);
      fails = subst (λ (n : ConditionId). ComesTo process here n (Err why)) (sym stops.0) stops.1;
      first = first;
    }
    stops_enabling Otherwise listed first stops = tt

    -- at that of a continuous signal, behind those that are false
    pub stops_continuous : (stopped : Stopped) → slice_get (continuous_of table) index ≡ Some number
        → EachBefore (IsFalse process here) (continuous_of table) index → StopsAt process here number why stopped
        → StopsContinuous process here table why stopped
    stops_continuous (At at) listed first stops = record {
      index = index;
      is = listed ∙ ap Some (sym stops.0);
      fails = subst (λ (n : ConditionId). ComesTo process here n (Err why)) (sym stops.0) stops.1;
      first = first;
    }
    stops_continuous Otherwise listed first stops = tt

  -- at either
  pub stops_first : (table : StateTable) (stopped : Stopped) → StopsEnabling process here table why stopped
      → StopsIn process here table why stopped
  stops_first table (At at) stops = inl stops
  stops_first table Otherwise stops = tt

  pub stops_later : (table : StateTable)
      → EachBefore (HasTruth process here) (enabling_of table) (length (enabling_of table)) → (stopped : Stopped)
      → StopsContinuous process here table why stopped → StopsIn process here table why stopped
  stops_later table before (At at) stops = inr (record { enabling = before; fails = stops })
  stops_later table before Otherwise stops = tt
