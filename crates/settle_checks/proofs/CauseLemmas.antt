-- Each create of null has a cause, by summaries.
use Rattle.std.proofs.Common.{◌≡◌, refl, subst, sym, List, [], ◌∷◌, ◌++◌, All, None, Option, Some}
use Rattle.std.specs.Prelude.{Contains, option_to_list}
use Rattle.std.specs.List.{flat_map, list_any}
use Rattle.std.proofs.lemmas.List.Elements.{All-cons, All-contains, All-contains_itself, All-head, All-nil, All-weaker, Contains-append_left, Contains-append_right}
use Rattle.run_record.specs.Event.{Event}
use Rattle.run_record.specs.Record.{RecordValue}
use Rattle.sdl_system.specs.System.{SystemValue}
use Rattle.sdl_system.specs.declared.id.ProcessId.{ProcessId}
use Rattle.settle_checks.specs.Events.{refused_in}
use Rattle.settle_meaning.specs.Identities.{HasCause, HasNoNumber, fails_by_memory}
use Rattle.settle_checks.proofs.CreatingLemmas.{refusals}
use Rattle.settle_checks.proofs.NullLemmas.{cause_of, refused_has}
use Rattle.settle_checks.proofs.Zips.{zip_all, zip_any}
use Rattle.settle_checks.specs.Summary.{AreSummaries, IsSummary}
use Rattle.settle_checks.specs.declared.summing.summary.Summary.{Summary}

module _ (system : SystemValue) (records : List RecordValue) where
  abbrev Full : ProcessId → Type 0
  Full process = HasNoNumber system records process

  -- what is so of all of two lists is so of each
  left_of : {X : Type 0} (P : X → Type 0) (xs ys : List X) → All P (xs ++ ys) → All P xs
  left_of P xs ys all =
      All-weaker (Contains xs) P
      (λ x there. All-contains P (xs ++ ys) x all (Contains-append_left xs ys x there)) xs (All-contains_itself xs)

  right_of : {X : Type 0} (P : X → Type 0) (xs ys : List X) → All P (xs ++ ys) → All P ys
  right_of P xs ys all =
      All-weaker (Contains ys) P
      (λ x there. All-contains P (xs ++ ys) x all (Contains-append_right xs ys x there)) ys (All-contains_itself ys)

  cause_by : (happened : Event) (refused : Option ProcessId) → refused_in happened ≡ refused
      → All Full (option_to_list refused) → HasCause system records happened
  cause_by happened None is all = refused_has system records happened is
  cause_by happened (Some process) is all =
      cause_of system records happened process is (All-head Full process [] all)

  causes_in : (events : List Event) → All Full (flat_map refusals events) → All (HasCause system records) events
  causes_in [] all = All-nil (HasCause system records)
  causes_in (e ∷ es) all =
      All-cons (HasCause system records) e es
      (cause_by e (refused_in e) refl (left_of Full (refusals e) (flat_map refusals es) all))
      (causes_in es (right_of Full (refusals e) (flat_map refusals es) all))

  pub record_caused : (trace : RecordValue) (sum : Summary) → IsSummary trace sum
      → All Full sum.creating.refused.items → All (HasCause system records) trace.events
  record_caused trace sum is all =
      causes_in trace.events (subst (λ (l : List ProcessId). All Full l) is.creating.refused all)

-- each create has a cause if the processes of all that are refused are full
pub all_caused : (system : SystemValue) (records : List RecordValue) (sums : List Summary) → AreSummaries records sums
    → All (λ (sum : Summary). All (λ (process : ProcessId). HasNoNumber system records process)
    sum.creating.refused.items) sums
    → All (λ (trace : RecordValue). All (HasCause system records) trace.events) records
all_caused system records sums are all =
    zip_all IsSummary
    (λ (sum : Summary). All (λ (process : ProcessId). HasNoNumber system records process) sum.creating.refused.items)
    (λ (trace : RecordValue). All (HasCause system records) trace.events) (record_caused system records) records sums
    are all

-- ---- memory

pub memory_is : (records : List RecordValue) (sums : List Summary) → AreSummaries records sums
    → list_any fails_by_memory records ≡ list_any (λ (sum : Summary). sum.fate.lacks_memory) sums
memory_is records sums are =
    zip_any IsSummary fails_by_memory (λ (sum : Summary). sum.fate.lacks_memory)
    (λ trace sum is. sym is.fate.lacks_memory) records sums are
