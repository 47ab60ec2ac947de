-- What tables say of the signals of the system alone.
use Rattle.std.proofs.Common.{◌≡◌, ◌∙◌, ◌==◌, ◌<◌, ◌≤◌, ◌⊎◌, inl, inr, ℕ, zero, suc, Bool, true, false, cond, All, List, [], ◌∷◌, Option, None, Some, ap, arith, map, nat_lt, option_map, refl, slice_get, subst, sym}
use Rattle.std.specs.List.{AllZip}
use Rattle.std.proofs.lemmas.List.Elements.{All-head, All-tail}
use Rattle.port_model.specs.declared.values.item.SignalId.{SignalId}
use Rattle.build_states.specs.Mentions.{Response}
use Rattle.build_states.specs.States.{StateMeaning, Table, meaning_of, named_in}
use Rattle.build_states.specs.Tabled.{meaning_at, meanings_at}
use Rattle.build_states.proofs.ShareLemmas.{part-mapped}
use Rattle.sdl_system.specs.State.{named_reaction, same_signal}
use Rattle.sdl_system.specs.declared.id.NodeId.{NodeId}
use Rattle.sdl_system.specs.declared.id.TableId.{TableId}
use Rattle.sdl_system.specs.declared.state.StateTable.{StateTable}
use Rattle.build_tables.specs.Linked.{IsLinked, IsTable}
use Rattle.build_tables.specs.Meant.{NamesWithin, tables_at}
use Rattle.build_tables.proofs.MeaningLemmas.{below-or-not, head-same, some-same, tail-same}
use Rattle.sdl_tree.specs.Words.{Spot}
use Rattle.build_process.specs.Meant.{NamesSignals}

-- what is said of so many signals
abbrev pub said_within : ℕ → List (SignalId × Response) → List (SignalId × Response)
said_within count [] = []
said_within count (entry ∷ named) =
    cond (nat_lt entry.0.0 count) (entry ∷ said_within count named) (said_within count named)

abbrev pub table_within : ℕ → Table → Table
table_within count table = record {
  answers = record { named = said_within count table.answers.named; rest = table.answers.rest };
  enabling = table.enabling;
  continuous = table.continuous;
}

past-within : (count : ℕ) (named : List (SignalId × Response)) (signal : SignalId) → count ≤ signal.0 →
    named_in (said_within count named) signal ≡ None
past-within count [] signal past = refl
past-within count (entry ∷ named) signal past =
    by (nat_lt entry.0.0 count) refl (same_signal signal entry.0) refl (past-within count named signal past)
  where
    by : (b : Bool) → nat_lt entry.0.0 count ≡ b → (e : Bool) → same_signal signal entry.0 ≡ e →
        named_in (said_within count named) signal ≡ None →
        named_in (cond b (entry ∷ said_within count named) (said_within count named)) signal ≡ None
    by false apart e is rest = rest
    by true less false is rest =
        ap (λ e. cond e (Some entry.1) (named_in (said_within count named) signal)) is ∙ rest
    by true less true is rest = absurd (never signal.0 entry.0.0 less is past)
      where
        never : (n m : ℕ) → nat_lt m count ≡ true → (n == m) ≡ true → count ≤ n → ⊥
        never n m less is past = grind (arith, less, is, past)

below-within : (count : ℕ) (named : List (SignalId × Response)) (signal : SignalId) → signal.0 < count →
    named_in (said_within count named) signal ≡ named_in named signal
below-within count [] signal below = refl
below-within count (entry ∷ named) signal below =
    by (nat_lt entry.0.0 count) refl (same_signal signal entry.0) refl (below-within count named signal below)
  where
    by : (b : Bool) → nat_lt entry.0.0 count ≡ b → (e : Bool) → same_signal signal entry.0 ≡ e →
        named_in (said_within count named) signal ≡ named_in named signal →
        named_in (cond b (entry ∷ said_within count named) (said_within count named)) signal
        ≡ named_in (entry ∷ named) signal
    by true less e is rest = ap (cond (same_signal signal entry.0) (Some entry.1)) rest
    by false apart false is rest =
        rest ∙ ap (λ e. cond e (Some entry.1) (named_in named signal)) (sym is)
    by false apart true is rest = absurd (never signal.0 entry.0.0 apart is below)
      where
        never : (n m : ℕ) → nat_lt m count ≡ false → (n == m) ≡ true → n < count → ⊥
        never n m apart is less = grind (arith, apart, is, less)

-- ---- tables

table-within : (entries : List NodeId) (valid : List Bool) (count : ℕ) (said : Table) (table : StateTable) →
    IsTable entries valid count said table → IsTable entries valid count (table_within count said) table
table-within entries valid count said table is = record {
  named = record {
    within = λ signal below.
        subst (IsLinked entries (named_reaction table.reactions signal))
        (sym (below-within count said.answers.named signal below)) (is.named.within signal below);
    past = is.named.past;
  };
  rest = is.rest;
  classes = is.classes;
  conditions = is.conditions;
  continuous = is.continuous;
}

pub tables-within : (entries : List NodeId) (valid : List Bool) (count : ℕ) (said : List Table)
    (tables : List StateTable) → AllZip (IsTable entries valid count) said tables →
    AllZip (IsTable entries valid count) (map (table_within count) said) tables
tables-within entries valid count [] [] are = are
tables-within entries valid count [] (table ∷ tables) are = are
tables-within entries valid count (one ∷ said) [] are = are
tables-within entries valid count (one ∷ said) (table ∷ tables) are =
    (table-within entries valid count one table are.0, tables-within entries valid count said tables are.1)

pub names-within : (count : ℕ) (said : List Table) → All (NamesWithin count) (map (table_within count) said)
names-within count [] k d less = absurd (omega (arith, less))
names-within count (one ∷ said) zero d less = past-within count one.answers.named
names-within count (one ∷ said) (suc k) d less = names-within count said k d (omega (arith, less))

-- ---- meanings

same-named : (count : ℕ) (named : List (SignalId × Response)) →
    ((signal : SignalId) → count ≤ signal.0 → named_in named signal ≡ None) → (signal : SignalId) →
    named_in (said_within count named) signal ≡ named_in named signal
same-named count named none signal = by (below-or-not signal.0 count)
  where
    by : (signal.0 < count) ⊎ (count ≤ signal.0) → named_in (said_within count named) signal ≡ named_in named signal
    by (inl below) = below-within count named signal below
    by (inr past) = past-within count named signal past ∙ sym (none signal past)

same-meaning : (count : ℕ) (name : List ℕ) (table : Table) →
    ((signal : SignalId) → count ≤ signal.0 → named_in table.answers.named signal ≡ None) →
    meaning_of name (table_within count table) ≡ meaning_of name table
same-meaning count name table none =
    ap (λ (named : SignalId → Option Response). rest named) (λ j signal. same-named count table.answers.named none signal j)
  where
    rest : (SignalId → Option Response) → StateMeaning
    rest named = record {
      name = name;
      named = named;
      rest = table.answers.rest;
      enabling = table.enabling;
      continuous = (meaning_of name table).continuous;
    }

one-within : (count : ℕ) (name : Spot) (found : Option Table) (say : StateMeaning) →
    meaning_at name found ≡ Some say → NamesSignals count say →
    meaning_at name (option_map (table_within count) found) ≡ Some say
one-within count name None say is within = is
one-within count name (Some table) say is within =
    ap (λ meaning. Some meaning) (same-meaning count name.text table (λ signal past.
    ap (λ meaning. meaning.named signal) (some-same (meaning_of name.text table) say is) ∙ within signal past)) ∙ is

abbrev is_empty : {A : Type 0} → List A → Bool
is_empty [] = true
is_empty (x ∷ xs) = false

-- where states name signals of the system alone, they mean what is said of those
pub meanings-within : (count : ℕ) (names : List Spot) (tables : List Table) (numbers : List TableId)
    (says : List StateMeaning) → meanings_at names (tables_at tables numbers) ≡ map Some says →
    All (NamesSignals count) says →
    meanings_at names (tables_at (map (table_within count) tables) numbers) ≡ map Some says
meanings-within count [] tables numbers says are within = are
meanings-within count (name ∷ names) tables [] says are within = are
meanings-within count (name ∷ names) tables (number ∷ numbers) [] are within =
    let never : false ≡ true = ap is_empty are in cc
meanings-within count (name ∷ names) tables (number ∷ numbers) (say ∷ says) are within =
    ap (λ one. one ∷ meanings_at names (tables_at (map (table_within count) tables) numbers))
    (ap (meaning_at name) (part-mapped (table_within count) tables number.0)
    ∙ one-within count name (slice_get tables number.0) say (head-same _ _ _ _ are) (All-head (NamesSignals count) say says within))
    ∙ ap (λ rest. Some say ∷ rest)
    (meanings-within count names tables numbers says (tail-same _ _ _ _ are) (All-tail (NamesSignals count) say says within))
