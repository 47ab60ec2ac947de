-- A system that is what a specification says is sound.
use Rattle.std.proofs.Common.{◌≡◌, ◌∙◌, ◌⊎◌, ◌+◌, ◌++◌, ◌<◌, ◌==◌, ℕ, ℤ, Bool, true, false, suc, inl, inr, All, IfSome, List, [], ◌∷◌, Option, None, Some, ap, arith, cond, length, map, refl, slice_get, slice_index_or, subst, sym}
use Rattle.std.proofs.lemmas.Bool.{eqb-false, eqb-true}
use Rattle.std.proofs.lemmas.List.{length-map}
use Rattle.std.proofs.lemmas.List.Elements.{All-cons, All-nil, Contains-get_or}
use Rattle.std.proofs.lemmas.Option.{slice_get_within}
use Rattle.std.proofs.lemmas.Slice.Zip.{AllZip-long}
use Rattle.std.specs.Str.{bytes_eq}
use Rattle.port_model.specs.declared.values.item.SignalId.{SignalId}
use Rattle.sdl_build.proofs.MadeLemmas.{same-one}
use Rattle.sdl_build.proofs.WholeLemmas.{faultless, told-none}
use Rattle.sdl_build.specs.Built.{IsBuilt, IsSystem, named_processes, own_from}
use Rattle.sdl_build.specs.Faulty.{NotesBodies}
use Rattle.sdl_build.specs.Faulty as notes
use Rattle.sdl_build.specs.Headings.{IsInitial, IsMaximum, variables_in}
use Rattle.sdl_build.specs.Laws.{CanRun}
use Rattle.sdl_build.specs.Signals.{signal_of, signals_from, timer_at, timer_of}
use Rattle.sdl_build.specs.Signals as made
use Rattle.sdl_build.specs.ProcessScope.{numbered_states, process_scope}
use Rattle.sdl_build.specs.Context.{Context}
use Rattle.laws_complete.proofs.SortLemmas.{sorts-given}
use Rattle.laws_complete.proofs.NameLemmas.{EachMeans}
use Rattle.laws_complete.specs.Complete.{IsThere}
use Rattle.laws_complete.specs.Names.{rows_of_tree}
use Rattle.build_definitions.specs.Parts.{parts_in}
use Rattle.build_definitions.specs.Rows.{OrdinarySignal, OrdinaryTimer, ProcessRow, SignalKind, SignalRow, ValueRow}
use Rattle.build_definitions.specs.Definitions.{Rows}
use Rattle.build_flow.specs.Beginnings.{beginnings}
use Rattle.build_flow.specs.Reach.{AreReached}
use Rattle.build_constants.specs.ConstantTable.{all_durations, all_initials, counts_at, duration_at, initial_at, sort_of_entry}
use Rattle.build_constants.specs.Scopes.{scope_in}
use Rattle.build_definitions.specs.declared.symbols.symbol_table.SymbolTable.{SymbolTable}
use Rattle.build_process.specs.Faulty.{body_faults}
use Rattle.build_process.specs.ProcessScope.{for_stimuli}
use Rattle.build_names.specs.FaultLaws.{Each}
use Rattle.build_names.specs.Faults.{Diagnostic}
use Rattle.build_names.specs.States.{different, state_names}
use Rattle.build_names.specs.Names.{first_of}
use Rattle.build_expressions.specs.declared.scope.Constant.{Constant}
use Rattle.laws_sound_system.proofs.AgentLemmas.{meant-sorts}
use Rattle.laws_sound_system.proofs.ScopeLemmas.{IsOfRows, counted, scope-sound}
use Rattle.laws_sound_system.proofs.VariableLemmas.{begins-with, heading-variables, sort_meant}
use Rattle.laws_sound_system.proofs.WalkLemmas.{IsTimed, IsTimedRow, the_process, tree-walk, walk-timed}
use Rattle.laws_sound_system.specs.Laws.{BuiltProcessesAreSound, BuiltRunsLeadToStates, NamesAreSound, NamesAreThere, ReceiversAreThere, TimersBelong}
use Rattle.laws_sound_runs.proofs.CauseLemmas.{undefined-is-unassigned}
use Rattle.laws_sound_processes.proofs.BehaviourLemmas.{behaviours-are-sound}
use Rattle.laws_sound_runs.specs.Scopes.{IsSoundScope}
use Rattle.build_names.specs.Spaces.{entry_if, is_same_scope}
use Rattle.build_names.specs.declared.scopes.scope.ScopeId.{ScopeId}
use Rattle.build_names.specs.declared.scopes.scope.ScopeId.TheVariants as scope
use Rattle.build_network.specs.Numbered.{numbered}
use Rattle.build_states.specs.States.{names_in, state_of}
use Rattle.build_states.specs.Reading.{process_read}
use Rattle.sdl_system.specs.Behaviour.{MeansState, variable_meaning}
use Rattle.sdl_system.specs.Route.{receivers}
use Rattle.sdl_system.specs.Soundness.{IsProcess}
use Rattle.sdl_system.specs.System.{SystemValue}
use Rattle.sdl_system.specs.declared.id.ProcessId.{ProcessId}
use Rattle.sdl_system.specs.declared.id.StateId.{StateId}
use Rattle.sdl_system.specs.declared.process.Process.{Process}
use Rattle.sdl_system.specs.declared.signal.Signal.{Signal}
use Rattle.build_tables.specs.Meant.{IsMeaning}
use Rattle.sdl_tree.specs.Tree.{Tree}
use Rattle.sdl_tree.specs.Words.{Spot}

-- ---- no rule is broken in a process

record IsUnbroken (context : Context) (number : ℕ) (row : ProcessRow) : Type 0 where
  names : List (List ℕ)
  reached : AreReached (beginnings row.definition) names
  none : body_faults (process_scope context (the_process number) row.definition) row.definition names ≡ []

below-or-last : (n count : ℕ) → n < suc count → (n < count) ⊎ (n ≡ count)
below-or-last n count below = by (n == count) refl
  where
    by : (same : Bool) → (n == count) ≡ same → (n < count) ⊎ (n ≡ count)
    by true is = inr (eqb-true n count is)
    by false is = inl (omega (arith, below, eqb-false n count is))

unbroken-at : (context : Context) (old : Option Diagnostic) (count : ℕ) (new : Option Diagnostic) →
    NotesBodies context old count new →
    new ≡ None → (number : ℕ) (row : ProcessRow) → number < count →
    slice_get context.rows.processes number ≡ Some row → IsUnbroken context number row
unbroken-at context old count new notes.none is number row below listed = absurd (omega (arith, below))
unbroken-at context old count new (notes.more before mid last other stands there body) is number row below listed =
    let both = told-none mid (body_faults (process_scope context (the_process before) other.definition)
    other.definition body.names) (sym body.noted ∙ is) in
    elim (below-or-last number before below) [
      | inl less ↦ unbroken-at context old before mid stands both.0 number row less listed
      | inr same ↦
          let rows : other ≡ row =
          same-one other row (sym there ∙ ap (slice_get context.rows.processes) (sym same) ∙ listed) in
          subst (IsUnbroken context number) rows
          (subst (λ n. IsUnbroken context n other) (sym same)
          (record { names = body.names; reached = body.are_reached; none = both.1 }))
    ]

unbroken : (context : Context) (mid : Option Diagnostic) →
    NotesBodies context mid (length context.rows.processes) None →
    (number : ℕ) (row : ProcessRow) → slice_get context.rows.processes number ≡ Some row → IsUnbroken context number row
unbroken context mid bodies number row listed =
    unbroken-at context mid (length context.rows.processes) None bodies refl number row
    (slice_get_within context.rows.processes number row listed) listed

-- ---- what is known of a system, by its rows

pub record HasHeading (symbols : SymbolTable) (constants : List Constant) (rows : Rows) (number : ℕ) (row : ProcessRow)
    (process : Process) : Type 0 where
  pub parameters : process.parameters ≡ length row.sorts
  pub variables : map variable_meaning process.variables.items
      ≡ variables_in (the_process number) rows.values (all_initials rows symbols constants)
  pub initial : IsInitial (counts_at rows symbols constants row) process.initial
  pub maximum : IsMaximum (counts_at rows symbols constants row) process.maximum

pub record IsKnown (symbols : SymbolTable) (constants : List Constant) (system : SystemValue) (rows : Rows) :
    Type 0 where
  pub signals : map signal_of system.signals ≡ signals_from rows.signals (all_durations rows symbols constants)
  pub size : length system.processes ≡ length rows.processes
  pub each : (number : ℕ) (row : ProcessRow) (process : Process) → slice_get rows.processes number ≡ Some row
      → slice_get system.processes number ≡ Some process → HasHeading symbols constants rows number row process

pub known : (context : Context) (system : SystemValue) → IsSystem context system →
    IsKnown context.symbols context.constants system context.rows
known context system is = record {
  signals = is.signals;
  size = is.processes.size;
  each = λ number row process listed at.
      let own = is.processes.each (the_process number) row process listed at in
      record {
        parameters = own.headed.parameters ∙ own.said.parameters;
        variables = ap (λ v. map variable_meaning v.items) own.headed.variables ∙ own.said.variables;
        initial = subst (IsInitial (counts_at context.rows context.symbols context.constants row))
            (sym own.headed.initial) own.said.initial;
        maximum = subst (IsMaximum (counts_at context.rows context.symbols context.constants row))
            (sym own.headed.maximum) own.said.maximum;
      };
}

of-rows : (tree : Tree) (symbols : SymbolTable) (constants : List Constant) (system : SystemValue) →
    Each (λ (row : ValueRow). IsThere (sort_of_entry row.entry)) (rows_of_tree tree).values →
    IsKnown symbols constants system (rows_of_tree tree) →
    IsOfRows tree symbols constants system (rows_of_tree tree)
of-rows tree symbols constants system there is = record {
  signals = is.signals;
  processes = record {
    size = is.size;
    each = λ number row process listed at.
        let own = is.each number row process listed at in
        record {
          parameters = own.parameters;
          variables = sym (meant-sorts process.variables.items) ∙ ap (map sort_meant) own.variables
              ∙ heading-variables number (initial_at (rows_of_tree tree) symbols constants) (parts_in tree) there;
        };
    begins = λ number row listed. begins-with (parts_in tree) (tree-walk tree) number row listed;
  };
}

-- ---- lists

pub each-all : {A : Type 0} (P : A → Type 0) (xs : List A) → Each P xs → All P xs
each-all P [] each = All-nil P
each-all P (x ∷ xs) each = All-cons P x xs each.0 (each-all P xs each.1)

pub unmapped : {A B : Type 0} (f : A → B) (P : B → Type 0) (xs : List A) → Each P (map f xs) → Each (λ x. P (f x)) xs
unmapped f P [] each = tt
unmapped f P (x ∷ xs) each = (each.0, unmapped f P xs each.1)

found-by : {A : Type 0} (P : A → Type 0) (b : Bool) (what : A) (later : Option A) → P what → IfSome later P →
    IfSome (cond b (Some what) later) P
found-by P true what later here there = here
found-by P false what later here there = there

found-in : {A : Type 0} (P : A → Type 0) (names : List (List ℕ × A)) (text : List ℕ) → EachMeans P names →
    IfSome (first_of names text) P
found-in P [] text each = tt
found-in P (name ∷ names) text each =
    found-by P (bytes_eq text name.0) name.1 (first_of names text) each.0 (found-in P names text each.1)

-- ---- states by their names

abbrev IsBelow : ℕ → StateId → Type 0
IsBelow count state = state.0 < count

states-below : (count number : ℕ) (names : List Spot) → number + length names ≡ count →
    EachMeans (IsBelow count) (numbered_states number names)
states-below count number [] many = tt
states-below count number (name ∷ names) many =
    (omega (arith, many), states-below count (number + 1) names (omega (arith, many)))

state-found : (names : List Spot) (text : List ℕ) (state : StateId) →
    first_of (numbered_states 0 names) text ≡ Some state → state.0 < length names
state-found names text state found =
    subst (λ o. IfSome o (IsBelow (length names))) found
    (found-in (IsBelow (length names)) (numbered_states 0 names) text
    (states-below (length names) 0 names (let e : 0 + length names ≡ length names = omega arith in e)))

-- ---- how many signals there are

length-from : (rows : List SignalRow) (durations : List (Option ℤ)) → length durations ≡ length rows →
    length (signals_from rows durations) ≡ length rows
length-from [] durations same = refl
length-from (row ∷ rows) [] same = absurd (omega (arith, same))
length-from (row ∷ rows) (duration ∷ durations) same = ap suc (length-from rows durations (omega (arith, same)))

signals-many : (context : Context) (system : SystemValue) → IsSystem context system →
    length context.rows.signals ≡ length system.signals
signals-many context system is =
    let many = length-from context.rows.signals (all_durations context.rows context.symbols context.constants)
    (length-map context.rows.signals (duration_at context.rows context.symbols context.constants)) in
    sym (sym (length-map system.signals signal_of) ∙ ap length is.signals ∙ many)

-- ---- processes

module _ (tree : Tree) (system : SystemValue) (built : IsBuilt tree system) where
  abbrev context : Context
  context = built.context

  pub rows-known : IsOfRows tree context.symbols context.constants system (rows_of_tree tree)
  rows-known =
      of-rows tree context.symbols context.constants system
      (sorts-given tree (faultless tree context built.defined built.unbroken).sorts).values
      (subst (IsKnown context.symbols context.constants system) built.defined.rows (known context system built.built))

  scope-there : (number : ProcessId) (row : ProcessRow) (process : Process) →
      slice_get context.rows.processes number.0 ≡ Some row → slice_get system.processes number.0 ≡ Some process →
      IsSoundScope system process (scope_in context.rows context.symbols context.constants (scope.Process number))
  scope-there number row process listed at =
      subst (λ rows. IsSoundScope system process
      (scope_in rows context.symbols context.constants (scope.Process number))) (sym built.defined.rows)
      (scope-sound tree context.symbols context.constants (faultless tree context built.defined built.unbroken) system
      rows-known number.0 row process
      (subst (λ (rows : Rows). slice_get rows.processes number.0 ≡ Some row) built.defined.rows listed) at)

  states-many : (number : ProcessId) (process : Process) (can : CanRun context system number process) →
      length (different (state_names can.row.definition)) ≡ length process.states.items
  states-many number process can =
      let stimuli = for_stimuli (process_scope context number can.row.definition) in
      let read = process_read stimuli can.row.definition in
      let means = can.means can.behaviour can.is in
      sym (AllZip-long (IsMeaning read.numbering.conditions)
      (map (state_of read.parts) (different (names_in can.row.definition.body))) can.behaviour.states can.is.states
      ∙ length-map (different (names_in can.row.definition.body)) (state_of read.parts))
      ∙ AllZip-long (MeansState process means.entries) process.states.items can.behaviour.states means.states_are

pub names-are-sound : NamesAreSound
names-are-sound tree system built number process can at = record {
  scope = scope-there tree system built number can.row process can.listed at;
  states = λ text state found.
      subst (λ n. state.0 < n) (states-many tree system built number process can)
      (state-found (different (state_names can.row.definition)) text state found);
  signals = signals-many built.context system built.built;
}

pub built-processes-are-sound : BuiltProcessesAreSound
built-processes-are-sound tree system built number process can at behaviour is =
    let own = unbroken built.context built.unbroken.of_rest.mid built.unbroken.of_rest.bodies number.0 can.row
    can.listed
    in
    behaviours-are-sound system process (process_scope built.context number can.row.definition) can.row.definition
    can.heading behaviour own.names (names-are-sound tree system built number process can at) is
    (can.means behaviour is) own.reached own.none

pub built-runs-lead-to-states : BuiltRunsLeadToStates
built-runs-lead-to-states tree system built number process can at d is who place s t q r deeds history runs has =
    undefined-is-unassigned d who place s t q r deeds history
    (built-processes-are-sound tree system built number process can at d.behaviour is).leads runs has

-- ---- timers

abbrev HasOwner : ℕ → made.Signal → Type 0
HasOwner count signal = IfSome signal.timer (λ timer. timer.process.0 < count)

timer-owned : (count : ℕ) (place : ScopeId) (kind : SignalKind) (duration : Option ℤ) → IsTimed count place kind →
    IfSome (timer_of place kind duration) (λ timer. timer.process.0 < count)
timer-owned count place OrdinarySignal duration timed = tt
timer-owned count place (OrdinaryTimer default) duration timed =
    subst (λ (s : ScopeId). IfSome (timer_at s duration) (λ timer. timer.process.0 < count)) (sym timed.1) timed.2

signals-owned : (count : ℕ) (rows : List SignalRow) (durations : List (Option ℤ)) → Each (IsTimedRow count) rows →
    Each (HasOwner count) (signals_from rows durations)
signals-owned count [] durations timed = tt
signals-owned count (row ∷ rows) [] timed = tt
signals-owned count (row ∷ rows) (duration ∷ durations) timed =
    (timer-owned count row.scope row.kind duration timed.0, signals-owned count rows durations timed.1)

pub timers-belong : TimersBelong
timers-belong tree system built =
    let context = built.context in
    let rows = rows_of_tree tree in
    let is = faultless tree context built.defined built.unbroken in
    let of = rows-known tree system built in
    let many = of.processes.size in
    let owned = subst (λ n. Each (HasOwner n) (map signal_of system.signals)) (sym many)
    (subst (Each (HasOwner (length rows.processes))) (sym of.signals)
    (signals-owned (length rows.processes) rows.signals (all_durations rows context.symbols context.constants)
    (walk-timed (tree-walk tree) (length rows.processes)
    (counted tree context.symbols context.constants is system of)))) in
    each-all (λ (signal : Signal). IfSome signal.timer (λ timer. IsProcess system timer.process)) system.signals
    (unmapped signal_of (HasOwner (length system.processes)) system.signals owned)

-- ---- names

own-if : (count : ℕ) (b : Bool) (text : List ℕ) (n : ℕ) (rest : List (List ℕ × SignalId)) → n < count →
    EachMeans (λ (number : SignalId). number.0 < count) rest →
    EachMeans (λ (number : SignalId). number.0 < count) (entry_if b text (record { 0 = n }) ++ rest)
own-if count true text n rest below each = (below, each)
own-if count false text n rest below each = each

own-below : (count number : ℕ) (rows : List SignalRow) → number + length rows ≡ count →
    EachMeans (λ (signal : SignalId). signal.0 < count) (own_from number rows)
own-below count number [] many = tt
own-below count number (row ∷ rows) many =
    own-if count (is_same_scope row.scope scope.System) row.name.text number (own_from (number + 1) rows)
    (omega (arith, many)) (own-below count (number + 1) rows (omega (arith, many)))

named-below : (count number : ℕ) (rows : List ProcessRow) → number + length rows ≡ count →
    EachMeans (λ (process : ProcessId). process.0 < count) (named_processes number rows)
named-below count number [] many = tt
named-below count number (row ∷ rows) many =
    (omega (arith, many), named-below count (number + 1) rows (omega (arith, many)))

pub names-are-there : NamesAreThere
names-are-there tree system built text =
    let context = built.context in
    let is = built.built in
    let signals = signals-many context system is in
    let processes = is.processes.size in
    record {
      signal = subst (λ o. IfSome o (λ number. number.0 < length system.signals)) (sym (is.own_signals text))
          (found-in (λ (number : SignalId). number.0 < length system.signals) (own_from 0 context.rows.signals) text
          (own-below (length system.signals) 0 context.rows.signals (omega (arith, signals))));
      process = subst (λ o. IfSome o (IsProcess system)) (sym (is.process_names text))
          (found-in (λ (number : ProcessId). number.0 < length system.processes)
          (named_processes 0 context.rows.processes) text
          (named-below (length system.processes) 0 context.rows.processes (omega (arith, processes))));
    }

-- ---- receivers

numbered-many : {A B : Type 0} (f : ℕ → A → B) (number : ℕ) (xs : List A) →
    length (numbered f number xs) ≡ length xs
numbered-many f number [] = refl
numbered-many f number (x ∷ xs) = ap suc (numbered-many f (number + 1) xs)

pub receivers-are-there : ReceiversAreThere
receivers-are-there tree system built from source signal sends below = λ k d within.
    let context = built.context in
    let signals = signals-many context system built.built in
    let known = built.connections.network.signals in
    let processes = built.built.processes.size in
    let many : length context.network.processes.items ≡ length context.rows.processes =
    ap length built.connections.network.processes ∙ numbered-many _ 0 context.rows.processes in
    let list = receivers context.routes from signal in
    let are = built.connections.routes.processes from source signal sends (omega (arith, below, signals, known)) in
    subst (λ routes. All (IsProcess system) (receivers routes from signal)) (sym built.built.routes)
    (λ j e less.
    let reached = ((are.reached (slice_index_or list j e)).0 (Contains-get_or list j e less)).0 in
    omega (arith, reached, many, processes)) k d within
