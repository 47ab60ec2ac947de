-- What an enabling condition that is false saves, and what a state selects then.
use Rattle.std.proofs.Common.{◌≡◌, ◌⊎◌, ◌∙◌, ⊎_elim, inl, inr, sym, ap, subst, refl, ℕ, ◌+◌, ◌<◌, ◌≤◌, lt_of_lt_of_le, min, Bool, true, false, List, [], ◌∷◌, ◌++◌, Option, None, Some, Result, Ok, All, Contains, arith, MatchOption, IsSomeAnd, get_or, get_or-set_other, get_or-set_same, is_some, length, length-set, map, not, option_copied, set, slice_get, take}
use Rattle.std.specs.Borrow.{Bor}
use Rattle.std.proofs.lemmas.Bool.{cases_lt}
use Rattle.std.proofs.lemmas.List.{get_or_past, take_more}
use Rattle.std.proofs.lemmas.List.Elements.{Contains-append_left, Contains-push, Contains-push_cases}
use Rattle.std.proofs.lemmas.Option.{get_or_from_slice_get, same_Some, slice_get-get_or, slice_get_within}
use Rattle.std.proofs.lemmas.Slice.Zip.{AllZip-left}
use Rattle.port_model.specs.History.{Stop}
use Rattle.port_model.specs.Selection as selection
use Rattle.port_model.specs.declared.values.item.SignalId.{SignalId}
use Rattle.port_model.specs.declared.selection.Class.{Class}
use Rattle.port_model.specs.declared.selection.Class.TheVariants as class
use Rattle.run_record.specs.Environment.{Environment, environment}
use Rattle.run_record.specs.Value.{truth_at}
use Rattle.run_record.specs.Knowledge.{KnowledgeValue, environment_of}
use Rattle.sdl_interp.proofs.ConditionLemmas.{condition_at, none_fails, none_to_fail, truth_of_place}
use Rattle.sdl_interp.specs.Condition.{are_conditions}
use Rattle.sdl_interp.specs.Selected.{AreShut, IsShut, SelectsBy, SelectsNone}
use Rattle.run_record.specs.declared.failure.Failure.{Failure}
use Rattle.run_record.specs.declared.failure.Failure.TheVariants.{Memory}
use Rattle.run_semantics.specs.Fails.{FailsIn, of_condition, of_take}
use Rattle.run_semantics.specs.ControlPoint.{Definition}
use Rattle.run_semantics.specs.Selection.{Selects, class_by, enabled, first_failure}
use Rattle.sdl_interp.specs.Work.{IsOf}
use Rattle.sdl_system.proofs.BehaviourLemmas.{reacts_as_meant}
use Rattle.sdl_system.specs.Behaviour.{Means, MeansResponse, MeansState, MeansTable, Response, StateMeaning, condition_in, input, priority_input, response_to, save}
use Rattle.sdl_system.specs.Process.{choice_in, reaction_by, table_in, table_of}
use Rattle.sdl_system.specs.Soundness.{IsEnabled, Keeps, WaitsFor}
use Rattle.sdl_system.specs.State.{choice_of}
use Rattle.sdl_system.specs.System.{SystemValue}
use Rattle.sdl_system.specs.Term.{Term}
use Rattle.sdl_system.specs.declared.id.ConditionId.{ConditionId}
use Rattle.sdl_system.specs.declared.id.NodeId.{NodeId}
use Rattle.sdl_system.specs.declared.id.StateId.{StateId}
use Rattle.sdl_system.specs.declared.process.Process.{Process}
use Rattle.sdl_system.specs.declared.process.State as declared
use Rattle.sdl_system.specs.declared.state.Enabled.TheVariants.{Rest}
use Rattle.sdl_system.specs.declared.state.Enabling.{Enabling}
use Rattle.sdl_system.specs.declared.state.Reaction.{Reaction}
use Rattle.sdl_system.specs.declared.state.Reaction.TheVariants as react
use Rattle.sdl_system.specs.declared.state.StateTable.{StateTable}

false_not_true : (o : Option Bool) → o ≡ Some false → o ≡ Some true → ⊥
false_not_true o one other = cc

pub none_listed : {X : Type 0} (xs : List X) → length xs ≡ 0 → xs ≡ []
none_listed [] none = refl
none_listed (x ∷ xs) none = absurd cc

-- ---- signals that are saved

-- the classes once the signals that are so are saved
pub record Saves (old new : List Class) (IsSo : SignalId → Type 0) : Type 0 where
  pub size : length new ≡ length old
  pub saved : (signal : SignalId) → signal.0 < length old → IsSo signal
      → selection.class_of new signal ≡ class.Saved
  pub kept : (signal : SignalId) → (IsSo signal → ⊥)
      → selection.class_of new signal ≡ selection.class_of old signal

-- a class of which it can't be that it isn't Saved
stable : (c : Class) → ((c ≡ class.Saved → ⊥) → ⊥) → c ≡ class.Saved
stable class.Saved never = refl
stable class.Priority never = absurd (never (λ is. cc))
stable class.Input never = absurd (never (λ is. cc))
stable class.Discard never = absurd (never (λ is. cc))

pub saves_none : (classes : List Class) (IsSo : SignalId → Type 0) → ((signal : SignalId) → IsSo signal → ⊥)
    → Saves classes classes IsSo
saves_none classes IsSo none = record {
  size = refl;
  saved = λ signal within is. absurd (none signal is);
  kept = λ signal not. refl;
}

-- the same signals, told in other words
pub saves_same : (old new : List Class) (Before After : SignalId → Type 0) → Saves old new Before
    → ((signal : SignalId) → signal.0 < length old → After signal → Before signal)
    → ((signal : SignalId) → Before signal → After signal) → Saves old new After
saves_same old new Before After saves back on = record {
  size = saves.size;
  saved = λ signal within is. saves.saved signal within (back signal within is);
  kept = λ signal not. saves.kept signal (λ is. not (on signal is));
}

pub saves_more : (old mid new : List Class) (Before Now After : SignalId → Type 0) → Saves old mid Before
    → Saves mid new Now → ((signal : SignalId) → After signal → Before signal ⊎ Now signal)
    → ((signal : SignalId) → Before signal → After signal) → ((signal : SignalId) → Now signal → After signal)
    → Saves old new After
saves_more old mid new Before Now After first then either before now = record {
  size = then.size ∙ first.size;
  saved = λ signal within is. stable (selection.class_of new signal) (λ never.
      let inside : signal.0 < length mid = subst (λ (n : ℕ). signal.0 < n) (sym first.size) within in
      let none : Now signal → ⊥ = λ holds. never (then.saved signal inside holds) in
      ⊎_elim (λ holds. never (then.kept signal none ∙ first.saved signal within holds)) none (either signal is));
  kept = λ signal not.
      then.kept signal (λ holds. not (now signal holds)) ∙ first.kept signal (λ holds. not (before signal holds));
}

-- one signal is saved
pub saves_one : (classes new : List Class) (one : SignalId) → new ≡ set classes one.0 class.Saved
    → Saves classes new (λ (signal : SignalId). signal ≡ one)
saves_one classes new one is = record {
  size = ap (λ (cs : List Class). length cs) is ∙ length-set classes one.0 class.Saved;
  saved = λ signal within same.
      let at : signal.0 ≡ one.0 = ap (λ (s : SignalId). s.0) same in
      let inside : one.0 < length classes = subst (λ (n : ℕ). n < length classes) at within in
      ap (λ (cs : List Class). get_or cs signal.0 class.Discard) is
      ∙ ap (λ (n : ℕ). get_or (set classes one.0 class.Saved) n class.Discard) at
      ∙ get_or-set_same classes one.0 class.Saved class.Discard inside;
  kept = λ signal not.
      let other : signal.0 ≡ one.0 → ⊥ = λ at. not (ap (λ (n : ℕ). let s : SignalId = record { 0 = n } in s) at) in
      ap (λ (cs : List Class). get_or cs signal.0 class.Discard) is
      ∙ get_or-set_other classes one.0 signal.0 class.Saved class.Discard other;
}

-- ---- the signals of an enabling condition

-- those that it names, one after the other
pub saves_listed : (old mid new : List Class) (items : List SignalId) (i : ℕ) (none : SignalId) → i < length items
    → Saves old mid (λ (signal : SignalId). Contains (take i items) signal)
    → new ≡ set mid (get_or items i none).0 class.Saved
    → Saves old new (λ (signal : SignalId). Contains (take (i + 1) items) signal)
saves_listed old mid new items i none within before is =
    let one : SignalId = get_or items i none in
    let more : take (i + 1) items ≡ take i items ++ one ∷ [] = take_more items i none within in
    saves_more old mid new (λ (signal : SignalId). Contains (take i items) signal) (λ (signal : SignalId). signal ≡ one)
    (λ (signal : SignalId). Contains (take (i + 1) items) signal) before (saves_one mid new one is)
    (λ signal there. ⊎_elim (λ in_front. inl in_front) (λ same. inr (sym same))
    (Contains-push_cases (take i items) one signal
    (subst (λ (xs : List SignalId). Contains xs signal) more there)))
    (λ signal there. subst (λ (xs : List SignalId). Contains xs signal) (sym more)
    (Contains-append_left (take i items) (one ∷ []) signal there))
    (λ signal same. subst (λ (s : SignalId). Contains (take (i + 1) items) s) (sym same)
    (subst (λ (xs : List SignalId). Contains xs one) (sym more) (Contains-push (take i items) one)))

-- those that a state doesn't name, up to a number
abbrev pub IsRest : Process → StateTable → ℕ → SignalId → Type 0
IsRest process table number signal = (signal.0 < number) × IsEnabled process table Rest signal

rest_cases : (process : Process) (table : StateTable) (number : ℕ) (signal : SignalId)
    → IsRest process table (number + 1) signal
    → IsRest process table number signal ⊎ ((signal.0 ≡ number) × IsEnabled process table Rest signal)
rest_cases process table number signal rest =
    ⊎_elim (λ below. inl (below, rest.1))
    (λ past.
    let at : signal.0 ≡ number = omega (arith, rest.0, past) in
    inr (at, rest.1))
    (cases_lt signal.0 number)

rest_on : (process : Process) (table : StateTable) (number : ℕ) (signal : SignalId)
    → IsRest process table number signal → IsRest process table (number + 1) signal
rest_on process table number signal rest = (omega (arith, rest.0), rest.1)

same_id : (signal : SignalId) (number : ℕ) → signal.0 ≡ number
    → signal ≡ (let s : SignalId = record { 0 = number } in s)
same_id signal number at = ap (λ (n : ℕ). let s : SignalId = record { 0 = n } in s) at

-- the signal of this number is one of them, and is saved
pub saves_rest : (process : Process) (table : StateTable) (number : ℕ) (one : SignalId) (old mid new : List Class)
    → one.0 ≡ number → IsEnabled process table Rest one → Saves old mid (IsRest process table number)
    → new ≡ set mid one.0 class.Saved → Saves old new (IsRest process table (number + 1))
saves_rest process table number one old mid new at enabled before is =
    saves_more old mid new (IsRest process table number) (λ (signal : SignalId). signal ≡ one)
    (IsRest process table (number + 1)) before (saves_one mid new one is)
    (λ signal rest. ⊎_elim (λ below. inl below)
    (λ here. inr (same_id signal number here.0 ∙ sym (same_id one number at)))
    (rest_cases process table number signal rest))
    (rest_on process table number)
    (λ signal same. subst (λ (s : SignalId). IsRest process table (number + 1) s) (sym same)
    (subst (λ (n : ℕ). n < number + 1) (sym at) (omega arith), enabled))

-- or it is none of them
pub passes_rest : (process : Process) (table : StateTable) (number : ℕ) (one : SignalId) (old mid new : List Class)
    → one.0 ≡ number → (IsEnabled process table Rest one → ⊥) → Saves old mid (IsRest process table number)
    → new ≡ mid → Saves old new (IsRest process table (number + 1))
passes_rest process table number one old mid new at other before is =
    subst (λ (cs : List Class). Saves old cs (IsRest process table (number + 1))) (sym is)
    (saves_same old mid (IsRest process table number) (IsRest process table (number + 1)) before
    (λ signal within rest. ⊎_elim (λ below. below)
    (λ here. absurd (other (subst (λ (s : SignalId). IsEnabled process table Rest s)
    (same_id signal number here.0 ∙ sym (same_id one number at)) here.1)))
    (rest_cases process table number signal rest))
    (rest_on process table number))

-- all of them, up to the number behind the last
pub all_rest : (process : Process) (table : StateTable) (number : ℕ) (old new : List Class)
    → length old ≤ number → Saves old new (IsRest process table number)
    → Saves old new (IsEnabled process table Rest)
all_rest process table number old new past saves =
    saves_same old new (IsRest process table number) (IsEnabled process table Rest) saves
    (λ signal within enabled. (lt_of_lt_of_le within past, enabled)) (λ signal rest. rest.1)

-- what a state says of a signal by name, by the answer of the test whether it says nothing
pub named_none : (o : Option (Bor Reaction)) (r : Option Reaction) (none : Bool) → option_copied o ≡ r
    → is_some o ≡ not none → none ≡ true → r ≡ None
named_none None r none is some so = sym is
named_none (Some x) r true is some so = absurd cc
named_none (Some x) r false is some so = absurd cc

pub named_some : (o : Option (Bor Reaction)) (r : Option Reaction) (none : Bool) → option_copied o ≡ r
    → is_some o ≡ not none → none ≡ false → r ≡ None → ⊥
named_some None r true is some so empty = cc
named_some None r false is some so empty = cc
named_some (Some x) r none is some so empty = cc

-- ---- enabling conditions, of which so many were looked at

module _ (process : Process) (table : StateTable) (truths : List Bool) where
  abbrev pub ShutBy : ℕ → SignalId → Type 0
  ShutBy n signal = IsShut process table table.conditions.items truths n signal

  shut_on : (n m : ℕ) (signal : SignalId) → n ≤ m → ShutBy n signal → ShutBy m signal
  shut_on n m signal below shut = record {
    place = shut.place;
    within = lt_of_lt_of_le shut.within below;
    enabling = shut.enabling;
    listed = shut.listed;
    is_false = shut.is_false;
    enables = shut.enables;
  }

  shut_within : (n : ℕ) (signal : SignalId) (shut : ShutBy (n + 1) signal) → shut.place < n → ShutBy n signal
  shut_within n signal shut within = record {
    place = shut.place;
    within = within;
    enabling = shut.enabling;
    listed = shut.listed;
    is_false = shut.is_false;
    enables = shut.enables;
  }

  shut_cases : (n : ℕ) (signal : SignalId) (shut : ShutBy (n + 1) signal)
      → ShutBy n signal ⊎ (shut.place ≡ n)
  shut_cases n signal shut =
      ⊎_elim (λ below. inl (shut_within n signal shut below))
      (λ past.
      let at : shut.place ≡ n = omega (arith, shut.within, past) in
      inr at)
      (cases_lt shut.place n)

  -- the next one is false, and shuts its signals
  pub shut_more : (base mid new : List Class) (n : ℕ) (enabling : Enabling)
      → slice_get table.conditions.items n ≡ Some enabling → slice_get truths n ≡ Some false
      → Saves base mid (ShutBy n) → Saves mid new (IsEnabled process table enabling.signals)
      → Saves base new (ShutBy (n + 1))
  shut_more base mid new n enabling listed is_false before then =
      saves_more base mid new (ShutBy n) (IsEnabled process table enabling.signals) (ShutBy (n + 1)) before then
      (λ signal shut. ⊎_elim (λ below. inl below)
      (λ at.
      let same : shut.enabling ≡ enabling =
      same_Some shut.enabling enabling
      (sym shut.listed ∙ ap (λ (k : ℕ). slice_get table.conditions.items k) at ∙ listed) in
      inr (subst (λ (e : Enabling). IsEnabled process table e.signals signal) same shut.enables))
      (shut_cases n signal shut))
      (λ signal shut. shut_on n (n + 1) signal (omega arith) shut)
      (λ signal enables. record {
        place = n;
        within = omega arith;
        enabling = enabling;
        listed = listed;
        is_false = is_false;
        enables = enables;
      })

  -- the next one is true
  pub open_more : (base mid : List Class) (n : ℕ) → slice_get truths n ≡ Some true → Saves base mid (ShutBy n)
      → Saves base mid (ShutBy (n + 1))
  open_more base mid n is_true before =
      saves_same base mid (ShutBy n) (ShutBy (n + 1)) before
      (λ signal within shut. ⊎_elim (λ below. below)
      (λ at. absurd (false_not_true (slice_get truths n)
      (ap (λ (k : ℕ). slice_get truths k) (sym at) ∙ shut.is_false) is_true))
      (shut_cases n signal shut))
      (λ signal shut. shut_on n (n + 1) signal (omega arith) shut)

  all_looked : (n : ℕ) (signal : SignalId) → n ≡ min (length table.conditions.items) (length truths)
      → ShutBy (length truths) signal → ShutBy n signal
  all_looked n signal all shut =
      let listed : shut.place < length table.conditions.items =
      slice_get_within table.conditions.items shut.place shut.enabling shut.listed in
      let told : shut.place < length truths = shut.within in
      record {
        place = shut.place;
        within = omega arith;
        enabling = shut.enabling;
        listed = shut.listed;
        is_false = shut.is_false;
        enables = shut.enables;
      }

  -- in the end all were looked at
  pub shut_made : (base made : List Class) (count n : ℕ) → length base ≡ count
      → ((k : ℕ) → k < count → get_or base k class.Discard ≡ get_or table.selection k class.Discard)
      → n ≡ min (length table.conditions.items) (length truths) → Saves base made (ShutBy n)
      → AreShut process table truths count made
  shut_made base made count n size same all saves = record {
    shut = λ signal within shut. saves.saved signal (subst (λ (k : ℕ). signal.0 < k) (sym size) within)
        (all_looked n signal all shut);
    kept = λ signal within not.
        saves.kept signal (λ shut. not (shut_on n (length truths) signal (omega arith) shut))
        ∙ same signal.0 within;
    past = λ signal past.
        get_or_past made signal.0 class.Discard (subst (λ (k : ℕ). k ≤ signal.0) (sym (saves.size ∙ size)) past);
  }

-- ---- the table of a state

All-listed : {X : Type 0} (P : X → Type 0) (xs : List X) (k : ℕ) (x : X) → All P xs → slice_get xs k ≡ Some x → P x
All-listed P xs k x all found =
    subst P (get_or_from_slice_get xs k x x found) (all k x (slice_get_within xs k x found))

listed_there : {X : Type 0} (xs : List X) (k : ℕ) (x : X) → slice_get xs k ≡ Some x → Contains xs x
listed_there xs k x found = (k, slice_get_within xs k x found, get_or_from_slice_get xs k x x found)

place_of : {X : Type 0} (xs : List X) (x : X) → Contains xs x → (k : ℕ) × (slice_get xs k ≡ Some x)
place_of xs x there = (there.0, slice_get-get_or xs there.0 x there.1 ∙ ap Some there.2)

-- the state of this number, with what its table says of each signal
pub record HasTable (d : Definition) (system : SystemValue) (process : Process) (table : StateTable) (n : StateId)
    (entries : List NodeId) : Type 0 where
  pub state : StateMeaning
  pub is : slice_get d.behaviour.states n.0 ≡ Some state
  pub does : MeansTable process entries table state
  pub keeps : Keeps (length system.signals) process table
  pub reacts : (signal : SignalId)
      → MeansResponse process entries (reaction_by process (Some table) signal) (response_to d.behaviour state signal)

state_by : (process : Process) (entries : List NodeId) (table : StateTable) (o : Option declared.State)
    (m : Option StateMeaning) → table_in process o ≡ Some table
    → MatchOption o (Unit {0}) (λ one. IsSomeAnd m (MeansState process entries one))
    → (state : StateMeaning) × (m ≡ Some state) × MeansTable process entries table state
state_by process entries table None m is means = absurd cc
state_by process entries table (Some one) None is means = absurd means
state_by process entries table (Some one) (Some state) is means = (
  state,
  refl,
  subst (λ (t : StateTable). MeansTable process entries t state) (same_Some means.table table (sym means.listed ∙ is))
      means.does,
)

listed_by : (process : Process) (table : StateTable) (o : Option declared.State) → table_in process o ≡ Some table
    → (k : ℕ) × (slice_get process.tables.items k ≡ Some table)
listed_by process table None is = absurd cc
listed_by process table (Some one) is = (one.table.0, is)

pub has_table : (system : SystemValue) (process : Process) (d : Definition) (is : IsOf system process d)
    (table : StateTable) (n : StateId) → table_of process n ≡ Some table
    → HasTable d system process table n is.behaves.means.entries
has_table system process d is table n at =
    let means : Means process d.behaviour = is.behaves.means in
    let found : (state : StateMeaning) × (slice_get d.behaviour.states n.0 ≡ Some state)
    × MeansTable process means.entries table state =
    state_by process means.entries table (slice_get process.states.items n.0) (slice_get d.behaviour.states n.0) at
    (AllZip-left (MeansState process means.entries) process.states.items d.behaviour.states means.states_are n.0) in
    let place : (k : ℕ) × (slice_get process.tables.items k ≡ Some table) =
    listed_by process table (slice_get process.states.items n.0) at in
    record {
      state = found.0;
      is = found.1;
      does = found.2;
      keeps = All-listed (Keeps (length system.signals) process) process.tables.items place.0 table is.behaves.keeps
          place.1;
      reacts = λ signal. subst (λ (t : Option StateTable).
          MeansResponse process means.entries (reaction_by process t signal) (response_to d.behaviour found.0 signal))
          at
          (reacts_as_meant process d.behaviour means n found.0 found.1 signal);
    }

-- ---- the class of a signal

-- a signal without a condition has the class of its table, and one with a condition that by its truth
by_reaction : (process : Process) (entries : List NodeId) (here : Environment) (reaction : Option Reaction)
    (response : Option Response) (c : Class) → MeansResponse process entries reaction response
    → ((choice_of reaction).condition ≡ None → c ≡ (choice_of reaction).class)
    → ((number : ConditionId) → (choice_of reaction).condition ≡ Some number → (term : Term)
    → condition_in process number ≡ Some term → c ≡ enabled (truth_at here term))
    → c ≡ class_by here response
by_reaction process entries here None None c means free bound = free refl
by_reaction process entries here None (Some response) c means free bound = absurd means
by_reaction process entries here (Some (react.Input reception condition)) None c means free bound = absurd means
by_reaction process entries here (Some (react.Input reception None)) (Some (input variables None body)) c means
    free bound = free refl
by_reaction process entries here (Some (react.Input reception None)) (Some (input variables (Some term) body)) c means
    free bound = absurd means.1
by_reaction process entries here (Some (react.Input reception (Some number))) (Some (input variables None body)) c means
    free bound = absurd means.1
by_reaction process entries here (Some (react.Input reception (Some number))) (Some (input variables (Some term) body))
    c means free bound = bound number refl term means.1
by_reaction process entries here (Some (react.Input reception condition)) (Some (priority_input variables body)) c means
    free bound = absurd means
by_reaction process entries here (Some (react.Input reception condition)) (Some save) c means free bound = absurd means
by_reaction process entries here (Some (react.Priority reception)) None c means free bound = absurd means
by_reaction process entries here (Some (react.Priority reception)) (Some (input variables term body)) c means free
    bound = absurd means
by_reaction process entries here (Some (react.Priority reception)) (Some (priority_input variables body)) c means free
    bound = free refl
by_reaction process entries here (Some (react.Priority reception)) (Some save) c means free bound = absurd means
by_reaction process entries here (Some react.Save) None c means free bound = absurd means
by_reaction process entries here (Some react.Save) (Some (input variables term body)) c means free bound = absurd means
by_reaction process entries here (Some react.Save) (Some (priority_input variables body)) c means free bound =
    absurd means
by_reaction process entries here (Some react.Save) (Some save) c means free bound = free refl

-- a signal with a condition is an input
bound_is_input : (reaction : Option Reaction) (number : ConditionId) → (choice_of reaction).condition ≡ Some number
    → (choice_of reaction).class ≡ class.Input
bound_is_input None number is = absurd cc
bound_is_input (Some (react.Input reception condition)) number is = refl
bound_is_input (Some (react.Priority reception)) number is = absurd cc
bound_is_input (Some react.Save) number is = absurd cc

by_truth : (r : Result Bool Failure) (truth : Bool) (c : Class) → r ≡ Ok truth → (truth ≡ false → c ≡ class.Saved)
    → (truth ≡ true → c ≡ class.Input) → c ≡ enabled r
by_truth r true c is shut through = through refl ∙ sym (ap enabled is)
by_truth r false c is shut through = shut refl ∙ sym (ap enabled is)

true_not_false : (r : Result Bool Failure) → r ≡ Ok true → r ≡ Ok false → ⊥
true_not_false r one other = cc

some_not_none : (o : Option ConditionId) (number : ConditionId) → o ≡ Some number → o ≡ None → ⊥
some_not_none o number one other = cc

input_not_discard : (c : Class) → c ≡ class.Input → c ≡ class.Discard → ⊥
input_not_discard c one other = cc

-- ---- what a state selects

module _ (d : Definition) (system : SystemValue) (process : Process) (table : StateTable) (n : StateId)
    (entries : List NodeId) (here : Environment) (has : HasTable d system process table n entries) where
  waits_for : (signal : SignalId) (k : ℕ) (enabling : Enabling) → slice_get table.conditions.items k ≡ Some enabling
      → IsEnabled process table enabling.signals signal
      → (choice_in process table signal).condition ≡ Some enabling.condition
  waits_for signal k enabling found enables =
      (has.keeps.waits signal enabling.condition).1 (record {
        enabling = enabling;
        listed = listed_there table.conditions.items k enabling found;
        is = refl;
        enables = enables;
      })

  -- where no condition stands in it, what its table does
  pub selects_plain : table.conditions.items ≡ [] → Selects d.behaviour has.state here table.selection
  selects_plain empty = record {
    none_fails = none_to_fail here has.state.enabling
        (sym (ap (are_conditions process) empty) ∙ has.does.enabling_is);
    selects = λ signal.
        by_reaction process entries here (reaction_by process (Some table) signal)
        (response_to d.behaviour has.state signal) (selection.class_of table.selection signal) (has.reacts signal)
        (λ none. has.keeps.selects signal)
        (λ number is term meant.
        let waits : WaitsFor process table signal number = (has.keeps.waits signal number).0 is in
        let within : waits.listed.0 < length table.conditions.items = waits.listed.1 in
        let nowhere : waits.listed.0 < 0 =
        subst (λ (xs : List Enabling). waits.listed.0 < length xs) empty within in
        absurd (omega (arith, nowhere)));
  }

  module _ (truths : List Bool) (made : List Class)
      (are : AreShut process table truths (length system.signals) made)
      (known : map (truth_at here) has.state.enabling ≡ map Ok truths) where
    -- how the condition of a place came out
    record Came (k : ℕ) (enabling : Enabling) : Type 0 where
      term : Term
      is : condition_in process enabling.condition ≡ Some term
      truth : Bool
      listed : slice_get truths k ≡ Some truth
      came : truth_at here term ≡ Ok truth

    came_there : (k : ℕ) (enabling : Enabling) → slice_get table.conditions.items k ≡ Some enabling → Came k enabling
    came_there k enabling found =
        let meant : (term : Term) × (slice_get has.state.enabling k ≡ Some term)
        × (condition_in process enabling.condition ≡ Some term) =
        condition_at process table.conditions.items has.state.enabling k enabling has.does.enabling_is found in
        let told : (truth : Bool) × (slice_get truths k ≡ Some truth) × (truth_at here meant.0 ≡ Ok truth) =
        truth_of_place here has.state.enabling truths k meant.0 known meant.1 in
        record { term = meant.0; is = meant.2; truth = told.0; listed = told.1; came = told.2 }

    abbrev Shut : SignalId → Type 0
    Shut signal = IsShut process table table.conditions.items truths (length truths) signal

    -- what shuts a signal is its own condition, and that is false
    shut_is_false : (signal : SignalId) (number : ConditionId) (term : Term)
        → (choice_in process table signal).condition ≡ Some number → condition_in process number ≡ Some term
        → Shut signal → truth_at here term ≡ Ok false
    shut_is_false signal number term is meant shut =
        let came : Came shut.place shut.enabling = came_there shut.place shut.enabling shut.listed in
        let same : shut.enabling.condition ≡ number =
        same_Some shut.enabling.condition number
        (sym (waits_for signal shut.place shut.enabling shut.listed shut.enables) ∙ is) in
        let one : came.term ≡ term =
        same_Some came.term term (sym came.is ∙ ap (condition_in process) same ∙ meant) in
        let false_then : came.truth ≡ false = same_Some came.truth false (sym came.listed ∙ shut.is_false) in
        sym (ap (truth_at here) one) ∙ came.came ∙ ap (λ (b : Bool). Ok b) false_then

    class_bound : (signal : SignalId) → signal.0 < length system.signals → (number : ConditionId)
        → (choice_in process table signal).condition ≡ Some number → (term : Term)
        → condition_in process number ≡ Some term → selection.class_of made signal ≡ enabled (truth_at here term)
    class_bound signal within number is term meant =
        let waits : WaitsFor process table signal number = (has.keeps.waits signal number).0 is in
        let place : (k : ℕ) × (slice_get table.conditions.items k ≡ Some waits.enabling) =
        place_of table.conditions.items waits.enabling waits.listed in
        let came : Came place.0 waits.enabling = came_there place.0 waits.enabling place.1 in
        let one : came.term ≡ term =
        same_Some came.term term (sym came.is ∙ ap (condition_in process) waits.is ∙ meant) in
        let told : truth_at here term ≡ Ok came.truth = sym (ap (truth_at here) one) ∙ came.came in
        by_truth (truth_at here term) came.truth (selection.class_of made signal) told
        (λ closed. are.shut signal within (record {
          place = place.0;
          within = slice_get_within truths place.0 came.truth came.listed;
          enabling = waits.enabling;
          listed = place.1;
          is_false = came.listed ∙ ap (λ (b : Bool). Some b) closed;
          enables = waits.enables;
        }))
        (λ open_now. are.kept signal within (λ shut.
        let not_true : truth_at here term ≡ Ok false = shut_is_false signal number term is meant shut in
        true_not_false (truth_at here term) (told ∙ ap (λ (b : Bool). Ok b) open_now) not_true)
        ∙ has.keeps.selects signal
        ∙ bound_is_input (reaction_by process (Some table) signal) number is)

    class_within : (signal : SignalId) → signal.0 < length system.signals
        → selection.class_of made signal ≡ class_by here (response_to d.behaviour has.state signal)
    class_within signal within =
        by_reaction process entries here (reaction_by process (Some table) signal)
        (response_to d.behaviour has.state signal) (selection.class_of made signal) (has.reacts signal)
        (λ none. are.kept signal within (λ shut.
        some_not_none (choice_in process table signal).condition shut.enabling.condition
        (waits_for signal shut.place shut.enabling shut.listed shut.enables) none)
        ∙ has.keeps.selects signal)
        (λ number is term meant. class_bound signal within number is term meant)

    class_past : (signal : SignalId) → length system.signals ≤ signal.0
        → selection.class_of made signal ≡ class_by here (response_to d.behaviour has.state signal)
    class_past signal past =
        by_reaction process entries here (reaction_by process (Some table) signal)
        (response_to d.behaviour has.state signal) (selection.class_of made signal) (has.reacts signal)
        (λ none. are.past signal past ∙ sym (has.keeps.past signal past))
        (λ number is term meant. absurd (input_not_discard (choice_in process table signal).class
        (bound_is_input (reaction_by process (Some table) signal) number is) (has.keeps.past signal past)))

    -- where all conditions are known, what they say
    pub selects_made : Selects d.behaviour has.state here made
    selects_made = record {
      none_fails = none_fails here has.state.enabling truths known;
      selects = λ signal. ⊎_elim (class_within signal) (class_past signal)
          (cases_lt signal.0 (length system.signals));
    }

-- ---- what a selection says, whatever the process means

module _ (process : Process) (table : StateTable) (known : KnowledgeValue) where
  pub plain_selects : table.conditions.items ≡ [] → SelectsBy process table known table.selection
  plain_selects empty = λ d is n at.
      let has : HasTable d known.system process table n is.behaves.means.entries =
      has_table known.system process d is table n at in
      record {
        state = has.state;
        is = has.is;
        selects = selects_plain d known.system process table n is.behaves.means.entries
            (environment d.system known.who known.store known.port) has empty;
      }

  pub made_selects : (truths : List Bool) (made : List Class) (count : ℕ) → count ≡ length known.system.signals
      → AreShut process table truths count made
      → ((terms : List Term) → are_conditions process table.conditions.items ≡ map Some terms
      → map (truth_at (environment_of known)) terms ≡ map Ok truths)
      → SelectsBy process table known made
  made_selects truths made count size are truths_are = λ d is n at.
      let has : HasTable d known.system process table n is.behaves.means.entries =
      has_table known.system process d is table n at in
      record {
        state = has.state;
        is = has.is;
        selects = selects_made d known.system process table n is.behaves.means.entries
            (environment d.system known.who known.store known.port) has
            truths made (subst (λ (k : ℕ). AreShut process table truths k made) size are)
            (subst (λ (x : SystemValue).
            map (truth_at (environment x known.who known.store known.port)) has.state.enabling ≡ map Ok truths)
            (sym is.system_is)
            (truths_are has.state.enabling has.does.enabling_is));
      }

  pub cannot_by_condition : (why : Failure)
      → ((terms : List Term) → are_conditions process table.conditions.items ≡ map Some terms
      → (why ≡ Memory) ⊎ (first_failure (environment_of known) terms ≡ Some why))
      → SelectsNone process table known why
  cannot_by_condition why failed = λ d is n at.
      let has : HasTable d known.system process table n is.behaves.means.entries =
      has_table known.system process d is table n at in
      record {
        state = has.state;
        is = has.is;
        fails = ⊎_elim
            (λ refused. subst (λ (x : Failure).
            FailsIn d.behaviour has.state (environment d.system known.who known.store known.port) (Stop ∷ []) x)
            (sym refused) of_take)
            (λ told. of_condition why
            (subst (λ (x : SystemValue). first_failure (environment x known.who known.store known.port)
            has.state.enabling ≡ Some why)
            (sym is.system_is) told))
            (failed has.state.enabling has.does.enabling_is);
      }

  pub cannot_for_memory : (why : Failure) → why ≡ Memory → SelectsNone process table known why
  cannot_for_memory why refused = cannot_by_condition why (λ terms are. inl refused)
