-- Transitions that states begin, and signals that they name.
use Rattle.std.proofs.Common.{◌≡◌, ◌∙◌, ◌==◌, ◌<◌, ◌≤◌, ℕ, zero, suc, Bool, true, false, cond, All, IfSome, List, [], ◌∷◌, Option, None, Some, arith, length, map, option_map, refl, ap, slice_get, subst}
use Rattle.std.proofs.lemmas.List.Elements.{All-contains, All-cons, All-head, All-nil, All-tail}
use Rattle.port_model.specs.declared.values.item.SignalId.{SignalId}
use Rattle.laws_complete.proofs.MentionedLemmas.{Begins, Bounds, BeginsNumbered, IsTable, IsSaid, found-begins, tried-each}
use Rattle.laws_complete.proofs.ReadLemmas.{bounds_of, process-table}
use Rattle.laws_complete.specs.Ranges.{EntriesReach, IsBelow, SignalsWithin}
use Rattle.build_flow.specs.Beginnings.{beginnings}
use Rattle.build_process.specs.Meant.{NamesSignals}
use Rattle.build_names.specs.FaultLaws.{Each}
use Rattle.build_names.specs.States.{different}
use Rattle.build_states.specs.States.{Numbered, Table, named_in, names_in, state_of, states_of, table_named}
use Rattle.build_states.specs.Mentions.{Response, input, priority_input, save}
use Rattle.build_states.specs.Reading.{Part, process_read}
use Rattle.build_states.specs.declared.stimuli.transition.TransitionId.{TransitionId}
use Rattle.sdl_system.specs.State.{same_signal}
use Rattle.sdl_system.specs.declared.id.NodeId.{NodeId}
use Rattle.build_tables.specs.Linked.{Lacks, continuous_linked, entry_of, in_order, linked, of_continuous, of_rest, of_signal}
use Rattle.sdl_tree.specs.Words.{Spot}

-- ---- lists

each-all : {A : Type 0} (P : A → Type 0) (xs : List A) → Each P xs → All P xs
each-all P [] each = All-nil P
each-all P (x ∷ xs) each = All-cons P x xs each.0 (each-all P xs each.1)

all-each : {A : Type 0} (P : A → Type 0) (xs : List A) → All P xs → Each P xs
all-each P [] all = tt
all-each P (x ∷ xs) all = (All-head P x xs all, all-each P xs (All-tail P x xs all))

is-there : {A : Type 0} (xs : List A) (k : ℕ) → k < length xs → slice_get xs k ≡ None → ⊥
is-there [] k below none = omega (arith, below)
is-there (x ∷ xs) zero below none = cc
is-there (x ∷ xs) (suc k) below none = is-there xs k (omega (arith, below)) none

none-mapped : {A B : Type 0} (f : A → B) (found : Option A) → option_map f found ≡ None → found ≡ None
none-mapped f None none = refl
none-mapped f (Some x) none = cc

-- ---- entries

abbrev of_entries : List NodeId → ℕ → Bounds
of_entries entries conditions = record { transitions = length entries; conditions = conditions }

module _ (entries : List NodeId) (conditions : ℕ) where
  abbrev n : Bounds
  n = of_entries entries conditions

  has-entry : {B : Type 0} (f : NodeId → B) (transition : TransitionId) → transition.0 < length entries →
      option_map f (entry_of entries transition) ≡ None → ⊥
  has-entry f transition below none =
      is-there entries transition.0 below (none-mapped f (entry_of entries transition) none)

  is-linked : (response : Response) → Begins n response → linked entries response ≡ None → ⊥
  is-linked (input variables condition begin) begins none = has-entry _ begin begins.0 none
  is-linked (priority_input variables begin) begins none = has-entry _ begin begins none
  is-linked save begins none = cc

  is-linked-some : (said : Option Response) (response : Response) → IfSome said (Begins n) →
      said ≡ Some response → linked entries response ≡ None → ⊥
  is-linked-some said response begins is none =
      is-linked response (subst (λ found. IfSome found (Begins n)) is begins) none

  continuous-is-linked : (one : Numbered) → BeginsNumbered n one → continuous_linked entries one ≡ None → ⊥
  continuous-is-linked one begins none = has-entry _ one.signal.begin begins.0 none

  table-lacks : (Q : SignalId → Type 0) (table : Table) → IsTable n Q table → Lacks entries table → ⊥
  table-lacks Q table is (of_signal some) =
      is-linked-some (named_in table.answers.named some.signal) some.unlinked.response
      (found-begins n Q table.answers.named some.signal is.answers.named) some.unlinked.is some.unlinked.no_entry
  table-lacks Q table is (of_rest unlinked) =
      is-linked-some table.answers.rest unlinked.response is.answers.rest unlinked.is unlinked.no_entry
  table-lacks Q table is (of_continuous some) =
      continuous-is-linked some.one
      (All-contains (BeginsNumbered n) (in_order table) some.one
      (each-all (BeginsNumbered n) (in_order table) (tried-each n table.continuous is.continuous)) some.listed)
      some.no_entry

abbrev pub anything : SignalId → Type 0
anything signal = Unit {0}

pub each-anything : (signals : List SignalId) → Each anything signals
each-anything [] = tt
each-anything (signal ∷ signals) = (tt, each-anything signals)

pub entries-reach : EntriesReach
entries-reach context process name entries long lacks =
    table-lacks entries (length (process_read context process).numbering.conditions) anything
    (table_named (process_read context process).parts name)
    (process-table anything context process (length entries) long (λ text meaning is. tt)
    (λ text list is. each-anything list) name) lacks

-- ---- signals

other-signal : (one count two : ℕ) (same : Bool) → (one == two) ≡ same → two < count → count ≤ one → same ≡ false
other-signal one count two true is below past = absurd (never one count two is below past)
  where
    never : (one count two : ℕ) → (one == two) ≡ true → two < count → count ≤ one → ⊥
    never one count two is below past = grind (arith, is, below, past)
other-signal one count two false is below past = refl

none-past : (count : ℕ) (n : Bounds) (named : List (SignalId × Response)) (signal : SignalId) →
    Each (IsSaid n (IsBelow count)) named → count ≤ signal.0 → named_in named signal ≡ None
none-past count n [] signal each past = refl
none-past count n (said ∷ named) signal each past =
    ap (λ same. cond same (Some said.1) (named_in named signal))
    (other-signal signal.0 count said.0.0 (same_signal signal said.0) refl each.0.0 past)
    ∙ none-past count n named signal each.1 past

module _ (count : ℕ) (n : Bounds) (parts : List Part) where
  states-within : (names : List Spot) →
      ((name : Spot) → IsTable n (IsBelow count) (table_named parts name)) →
      Each (NamesSignals count) (map (state_of parts) names)
  states-within [] tables = tt
  states-within (name ∷ names) tables = (
    (λ signal past. none-past count n (table_named parts name).answers.named signal (tables name).answers.named past),
    states-within names tables,
  )

pub signals-within : SignalsWithin
signals-within count context process below =
    let transitions = length (beginnings process) in
    each-all (NamesSignals count) (states_of context process.body)
    (states-within count (bounds_of transitions context process) (process_read context process).parts
    (different (names_in process.body))
    (process-table (IsBelow count) context process transitions refl below.signals
    (λ text list is. all-each (IsBelow count) list (below.lists text list is))))
