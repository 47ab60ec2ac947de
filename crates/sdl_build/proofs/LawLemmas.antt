-- Each process of a system can be run.
use Rattle.std.proofs.Common.{◌≡◌, ◌∙◌, ◌<◌, ℕ, ℤ, Bool, true, false, All, List, [], ◌∷◌, Option, None, Some, ap, arith, if◌then◌else◌, length, refl, slice_get, suc, subst, sym, unwrap_or}
use Rattle.std.specs.Str.{bytes_eq}
use Rattle.std.proofs.lemmas.List.{length-map}
use Rattle.std.proofs.lemmas.List.Elements.{All-nil, Contains-get_or}
use Rattle.port_model.specs.declared.values.item.SignalId.{SignalId}
use Rattle.sdl_build.specs.Built.{IsSystem, IsTold}
use Rattle.sdl_build.specs.Laws.{ProcessesCanRun}
use Rattle.sdl_build.specs.Signals.{signal_of, signals_from}
use Rattle.sdl_build.specs.Lists.{AreMembers}
use Rattle.sdl_build.specs.ProcessScope.{process_scope}
use Rattle.sdl_build.specs.Context.{IsResolved, AreConnections, Context, resolved_of}
use Rattle.sdl_build.proofs.MadeLemmas.{get-below, same-one}
use Rattle.sdl_build.proofs.WholeLemmas.{faultless, is-given}
use Rattle.build_routes.specs.declared.network.joined.Network.{Network}
use Rattle.laws_complete.proofs.ProcessLemmas.{behaviour-given}
use Rattle.laws_complete.proofs.SeenLemmas.{signals-below}
use Rattle.laws_complete.specs.Names.{number_of_signal}
use Rattle.laws_complete.specs.Ranges.{AreBelow, IsBelow}
use Rattle.build_definitions.specs.Definitions.{Rows}
use Rattle.build_definitions.specs.declared.entries.SignalListId.{SignalListId}
use Rattle.build_definitions.specs.Rows.{SignalRow}
use Rattle.build_constants.specs.ConstantTable.{all_durations, duration_at}
use Rattle.build_constants.specs.Scopes.{scope_in}
use Rattle.build_process.specs.ProcessScope.{for_stimuli}
use Rattle.build_names.specs.Names.{first_of}
use Rattle.build_expressions.specs.Scope.{SignalMeaning, meaning, signal, signal_in, timer}
use Rattle.build_names.specs.declared.scopes.scope.ScopeId.TheVariants as scope
use Rattle.build_states.specs.Context.{members_of}
use Rattle.build_states.specs.Mentions.{number_of}
use Rattle.sdl_system.specs.Soundness.{Keeps}
use Rattle.sdl_system.specs.System.{SystemValue}
use Rattle.sdl_tree.specs.Tree.{ProcessDefinition, Tree}

-- a signal for each row
length-from : (rows : List SignalRow) (durations : List (Option ℤ)) → length durations ≡ length rows →
    length (signals_from rows durations) ≡ length rows
length-from [] durations same = refl
length-from (row ∷ rows) [] same = absurd (omega (arith, same))
length-from (row ∷ rows) (duration ∷ durations) same = ap suc (length-from rows durations (omega (arith, same)))

signals-many : (context : Context) (system : SystemValue) → IsSystem context system →
    length context.rows.signals ≡ length system.signals
signals-many context system is =
    let many = length-from context.rows.signals (all_durations context.rows context.symbols context.constants)
    (length-map context.rows.signals (duration_at context.rows context.symbols context.constants)) in
    sym (sym (length-map system.signals signal_of) ∙ ap length is.signals ∙ many)

-- ---- names around a process stand for signals of the system

first-meaning : {A B : Type 0} (f : A → B) (names : List (List ℕ × A)) (text : List ℕ) (found : B) →
    first_of (meaning f names) text ≡ Some found → (own : A) × (f own ≡ found)
first-meaning f [] text found is = cc
first-meaning f (entry ∷ names) text found is =
    by (bytes_eq text entry.0) is (first-meaning f names text found)
  where
    by : (b : Bool) → (if b then Some (f entry.1) else first_of (meaning f names) text) ≡ Some found →
        (first_of (meaning f names) text ≡ Some found → (own : _) × (f own ≡ found)) → (own : _) × (f own ≡ found)
    by true is rest = (entry.1, same-one (f entry.1) found is)
    by false is rest = rest is

-- the signals that a list stands for
members-below : (network : Network) (count : ℕ) (members : List (List SignalId)) → AreMembers network count members →
    (list : SignalListId) → All (IsBelow network.signals) (members_of members list)
members-below network count members are list = by (slice_get members list.0) refl
  where
    by : (found : Option (List SignalId)) → slice_get members list.0 ≡ found →
        All (IsBelow network.signals) (unwrap_or found [])
    by None is = All-nil (IsBelow network.signals)
    by (Some signals) is =
        λ k d less. ((are.each (record { 0 = list.0 }) signals is _).0 (Contains-get_or signals k d less)).0

module _ (tree : Tree) (context : Context) (defined : IsResolved tree (resolved_of context))
    (unbroken : IsTold tree context None) where
  signals-seen : (number : ℕ) (text : List ℕ) (found : SignalMeaning) →
      signal_in (scope_in context.rows context.symbols context.constants (scope.Process (record { 0 = number }))) text
      ≡ Some found → (number_of found).0 < length context.rows.signals
  signals-seen number =
      subst (λ (rows : Rows). (text : List ℕ) (found : SignalMeaning) →
      signal_in (scope_in rows context.symbols context.constants (scope.Process (record { 0 = number }))) text
      ≡ Some found → (number_of found).0 < length rows.signals) (sym defined.rows)
      (λ text found at. same _ found (signals-below tree context.symbols context.constants
      (faultless tree context defined unbroken) (scope.Process (record { 0 = number })) text found at))
    where
      same : (count : ℕ) (found : SignalMeaning) → (number_of_signal found).0 < count → (number_of found).0 < count
      same count (signal number sorts) below = below
      same count (timer number sorts has_default) below = below

  names-below : AreConnections context → (number : ℕ) (definition : ProcessDefinition) →
      AreBelow (length context.rows.signals) (for_stimuli (process_scope context (record { 0 = number }) definition))
  names-below connections number definition = record {
    signals = signals-seen number;
    lists = λ text signals found.
        let own = first-meaning (members_of context.members) _ text signals found in
        subst (All (IsBelow (length context.rows.signals))) own.1
        (subst (λ count. All (IsBelow count) (members_of context.members own.0)) connections.network.signals
        (members-below context.network (length context.rows.lists) context.members connections.members own.0));
  }

-- ---- the law

pub processes-can-run : ProcessesCanRun
processes-can-run tree system built number process stands =
    let processes = built.built.processes in
    let row = get-below built.context.rows.processes system.processes number.0 process processes.size stands in
    let is = processes.each number row.0 process row.1 stands in
    let given = is-given tree built.context built.defined built.unbroken number.0 row.0 row.1 in
    let does = behaviour-given (process_scope built.context number row.0.definition) row.0.definition given.0 is.heading
    given.1 (names-below tree built.context built.defined built.unbroken built.connections number.0 row.0.definition) in
    record {
      row = row.0;
      listed = row.1;
      heading = is.heading;
      said = is.said;
      headed = is.headed;
      behaviour = does.0;
      is = does.1;
      means = is.means;
      keeps = subst (λ count. All (Keeps count process) process.tables.items)
          (signals-many built.context system built.built) is.keeps;
    }
