-- From what is noted and made to what is answered.
use Rattle.std.proofs.Common.{◌≡◌, ◌∙◌, ◌++◌, ℤ, Bool, true, false, List, Option, None, Some, IfOk, Result, Ok, Err, ap, refl, subst, sym, true≢false}
use Rattle.std.specs.Global.{Vec}
use Rattle.sdl_build.specs.Built.{AreProcesses, IsBroken, IsBuilt, IsSystemOr}
use Rattle.sdl_build.specs.Built as is_broken
use Rattle.sdl_build.specs.Faulty.{NotesRest}
use Rattle.sdl_build.specs.Made.{AreProcessesOr, IsComposedIf}
use Rattle.sdl_build.specs.Outcome.{IsMadeBehind, IsMadeOf, IsMadeOn, IsMadeWith, IsRefusedAs, Tells, is_limit, is_past_limit}
use Rattle.sdl_build.specs.Outcome as outcome
use Rattle.sdl_build.specs.Signals.{signals_from}
use Rattle.sdl_build.specs.Context.{Resolved, AreConnections, Context, resolved_of}
use Rattle.sdl_build.specs.declared.error.BuildError.{BuildError}
use Rattle.sdl_build.specs.declared.error.BuildError.TheVariants as error
use Rattle.sdl_build.proofs.MadeLemmas.{same-one}
use Rattle.sdl_build.proofs.WholeLemmas.{none-missing}
use Rattle.build_definitions.specs.Parts.{all_sort_faults, parts_in}
use Rattle.build_definitions.specs.Definitions.{Rows, rows_in}
use Rattle.build_constants.specs.ConstantTable.{all_durations, constant_table_faults}
use Rattle.build_constants.specs.Synonyms.{AreSynonymConstants}
use Rattle.build_definitions.specs.Meanings.{duplicate_faults}
use Rattle.build_definitions.specs.Spaces.{AreNamesOf}
use Rattle.build_names.proofs.FaultLemmas.{both_noted}
use Rattle.build_names.specs.Faults.{Diagnostic, least_of}
use Rattle.build_limits.specs.Limits.{limit_faults}
use Rattle.build_names.specs.declared.faults.fault.Rule.{Rule}
use Rattle.build_names.specs.declared.faults.fault.Rule.TheVariants as rule
use Rattle.sdl_system.specs.System.{SystemValue}
use Rattle.sdl_system.specs.declared.process.Process.{Process}
use Rattle.sdl_tree.specs.Tree.{Tree}

-- ---- the system

pub composed : (context : Context) (durations : List (Option ℤ)) (processes : Option (Vec Process))
    (system : Option SystemValue) → AreProcessesOr context processes →
    durations ≡ all_durations context.rows context.symbols context.constants →
    IsComposedIf context.rows durations processes context.routes system → IsSystemOr context system
composed context durations None system are same is = subst (IsSystemOr context) (sym is) are
composed context durations (Some list) None are same is = absurd is
composed context durations (Some list) (Some system) are same is = record {
  signals = is.signals ∙ ap (signals_from context.rows.signals) same;
  processes = subst (AreProcesses context) (sym is.processes_are) are;
  routes = is.routes_are;
  own_signals = is.own_signals;
  process_names = is.process_names;
}

-- what is made of what joins the agents and of the processes
pub made-on-if : {E : Type 0} (context : Context) (old new : Option Diagnostic) (durations : List (Option ℤ))
    (processes : Option (Vec Process)) (result : Result (Option SystemValue) E) →
    AreConnections context → NotesRest context old new →
    AreProcessesOr context processes → durations ≡ all_durations context.rows context.symbols context.constants →
    IfOk result (IsComposedIf context.rows durations processes context.routes) →
    IfOk result (IsMadeOn (resolved_of context) old new)
made-on-if context old new durations processes (Ok system) connections rest are same is = record {
  context = context;
  defined = refl;
  connections = connections;
  noted = rest;
  made = composed context durations processes system are same is;
}
made-on-if context old new durations processes (Err why) connections rest are same is = tt

-- what is made of definitions that are looked at to the end
pub to-the-end-if : {E : Type 0} (resolved : Resolved) (before mid new : Option Diagnostic)
    (result : Result (Option SystemValue) E) → AreNamesOf resolved.rows resolved.symbols →
    AreSynonymConstants resolved.rows resolved.symbols resolved.constants →
    mid ≡ least_of before (constant_table_faults resolved.rows resolved.symbols resolved.constants) →
    IfOk result (IsMadeOn resolved mid new) → IfOk result (IsMadeBehind resolved.rows before new)
to-the-end-if resolved before mid new (Ok system) names synonyms is made =
    let rows = resolved.rows in
    let same = sym made.defined in
    λ old was. outcome.to_the_end made.context (ap (λ (d : Resolved). d.rows) made.defined)
    (subst (λ (d : Resolved). AreNamesOf rows d.symbols) same names)
    (subst (λ (d : Resolved). AreSynonymConstants rows d.symbols d.constants) same synonyms)
    made.connections
    (subst (λ begun. NotesRest made.context begun new)
    (is ∙ ap (λ begun. least_of begun (constant_table_faults rows resolved.symbols resolved.constants)) was
    ∙ ap (λ (d : Resolved). least_of (least_of old (duplicate_faults rows))
    (constant_table_faults rows d.symbols d.constants)) same)
    made.noted)
    made.made
to-the-end-if resolved before mid new (Err why) names synonyms is made = tt

-- what is made behind the names
pub behind-if : {E : Type 0} (rows : Rows) (old mid new : Option Diagnostic) (result : Result (Option SystemValue) E) →
    mid ≡ least_of old (duplicate_faults rows) → IfOk result (IsMadeBehind rows mid new) →
    IfOk result (IsMadeWith rows old new)
behind-if rows old mid new (Ok system) is made = made old is
behind-if rows old mid new (Err why) is made = tt

-- ---- what is told

all-noted : (old : Option Diagnostic) (limits sorts twice constant_table : List Diagnostic) →
    old ≡ least_of (least_of None limits) sorts →
    least_of (least_of old twice) constant_table ≡ least_of None (limits ++ (sorts ++ (twice ++ constant_table)))
all-noted old limits sorts twice constant_table is =
    both_noted old twice constant_table
    ∙ ap (λ before. least_of before (twice ++ constant_table)) is
    ∙ both_noted (least_of None limits) sorts (twice ++ constant_table)
    ∙ both_noted None limits (sorts ++ (twice ++ constant_table))

the-limit : (which : Rule) → is_limit which ≡ true → which ≡ rule.Limit
the-limit rule.Limit is = refl
the-limit rule.Unknown is = absurd (true≢false (sym is))
the-limit rule.Duplicate is = absurd (true≢false (sym is))
the-limit rule.Sort is = absurd (true≢false (sym is))
the-limit rule.TwiceInState is = absurd (true≢false (sym is))
the-limit rule.NoState is = absurd (true≢false (sym is))
the-limit rule.NoLabel is = absurd (true≢false (sym is))
the-limit rule.NoRoute is = absurd (true≢false (sym is))
the-limit rule.BadCount is = absurd (true≢false (sym is))
the-limit rule.NoEnd is = absurd (true≢false (sym is))

past-one : (fault : Option Diagnostic) → is_past_limit fault ≡ true →
    (past : Diagnostic) × (fault ≡ Some past) × (past.rule ≡ rule.Limit)
past-one None is = absurd (true≢false (sym is))
past-one (Some past) is = (past, refl, the-limit past.rule is)

-- ---- the whole

pub looked-at : (tree : Tree) (rows : Rows) (old new : Option Diagnostic) (system : Option SystemValue) →
    rows ≡ rows_in (parts_in tree) → old ≡ least_of (least_of None (limit_faults tree)) (all_sort_faults tree) →
    IsMadeWith rows old new system → IsMadeOf tree new system
looked-at tree rows old new system are is (outcome.up_to_limit symbols constants names synonyms noted limit) =
    let past = past-one new limit in
    outcome.past_limit (record {
      past = past.0;
      is = past.1;
      broken = is_broken.past_limit (record { rows = rows; symbols = symbols; constants = constants })
          (record { rows = are; names = names; constants = synonyms })
          (sym (all-noted old (limit_faults tree) (all_sort_faults tree) (duplicate_faults rows)
          (constant_table_faults rows symbols constants) is) ∙ sym noted ∙ past.1)
          past.2;
    })
looked-at tree rows old new system are is (outcome.to_the_end context same names synonyms connections rest made) =
    outcome.looked_at (record {
      context = context;
      defined = record {
        rows = same ∙ are;
        names = subst (λ r. AreNamesOf r context.symbols) (sym same) names;
        constants = subst (λ r. AreSynonymConstants r context.symbols context.constants) (sym same) synonyms;
      };
      connections = connections;
      noted = record {
        mid = least_of (least_of old (duplicate_faults rows))
            (constant_table_faults rows context.symbols context.constants);
        of_definitions =
            ap (λ r. least_of (least_of old (duplicate_faults r))
            (constant_table_faults r context.symbols context.constants)) (sym same)
            ∙ all-noted old (limit_faults tree) (all_sort_faults tree) (duplicate_faults context.rows)
            (constant_table_faults context.rows context.symbols context.constants) is;
        of_rest = rest;
      };
      made = made;
    })

pub looked-at-if : {E : Type 0} (tree : Tree) (rows : Rows) (old new : Option Diagnostic)
    (result : Result (Option SystemValue) E) → rows ≡ rows_in (parts_in tree) →
    old ≡ least_of (least_of None (limit_faults tree)) (all_sort_faults tree) →
    IfOk result (IsMadeWith rows old new) → IfOk result (IsMadeOf tree new)
looked-at-if tree rows old new (Ok system) are is made = looked-at tree rows old new system are is made
looked-at-if tree rows old new (Err why) are is made = tt

none-some : {A : Type 0} (x : A) → None ≡ Some x → ⊥
none-some x is = true≢false (sym (ap (λ o. there o) is))
  where
    there : {A : Type 0} → Option A → Bool
    there None = false
    there (Some it) = true

-- no rule is broken, and there is a system
pub is-built : (tree : Tree) (system : SystemValue) → IsMadeOf tree None (Some system) → IsBuilt tree system
is-built tree system (outcome.past_limit limit) = absurd (none-some limit.past limit.is)
is-built tree system (outcome.looked_at looked) = record {
  context = looked.context;
  defined = looked.defined;
  connections = looked.connections;
  unbroken = looked.noted;
  built = looked.made;
}

-- no rule is broken, so there is one
pub not-none : (tree : Tree) → IsMadeOf tree None None → ⊥
not-none tree (outcome.past_limit limit) = none-some limit.past limit.is
not-none tree (outcome.looked_at looked) =
    none-missing tree looked.context looked.defined looked.noted looked.made

is-refused : (tree : Tree) (fault : Diagnostic) (system : Option SystemValue) → IsMadeOf tree (Some fault) system →
    IsBroken tree fault
is-refused tree fault system (outcome.past_limit limit) =
    subst (IsBroken tree) (sym (same-one fault limit.past limit.is)) limit.broken
is-refused tree fault system (outcome.looked_at looked) =
    is_broken.broken looked.context looked.defined looked.connections looked.noted

-- a rule is broken, and it is told
pub refused-as : (tree : Tree) (fault : Diagnostic) (system : Option SystemValue) (refused : BuildError) →
    IsMadeOf tree (Some fault) system → Tells fault refused → IsRefusedAs tree refused
refused-as tree fault system (error.Broken rule word) made tells =
    subst (IsBroken tree) tells (is-refused tree fault system made)
refused-as tree fault system error.Memory made tells = absurd tells
