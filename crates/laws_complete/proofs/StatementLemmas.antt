-- Statements in which no rule is broken have a meaning.
use Rattle.std.proofs.Common.{◌≡◌, ◌++◌, Bool, true, false, List, [], ◌∷◌, Option, None, Some, flat_map, is_none, map, refl}
use Rattle.laws_complete.proofs.AnswerLemmas.{answer-given}
use Rattle.laws_complete.proofs.ExpressionLemmas.{both-there, empty-left, empty-right, is-there, list-given, mapped-there, placed-given, unbroken}
use Rattle.laws_complete.specs.Complete.{HasDurations, IsComplete, IsThere}
use Rattle.build_statements.specs.Contexts.{Context}
use Rattle.build_statements.specs.Faulty.{answers_faults, asked_faults, assignment_faults, create_faults, created_faults, default_faults, destination_faults, has_destination, is_lost, lacks_default, output_faults, process_faults, sending_faults, sent_faults, setting_faults, time_faults, timed_faults, timing_faults, unknown_faults, value_faults, values_faults, whither_faults}
use Rattle.build_statements.specs.Statements.{agent_name, answers_in, assigned, assigning_in, create_in, created_as, default_of, output_in, process_of, reset_in, sending_in, sent, sent_as, sent_to, set_for, set_in, setting_in, sort_of, target_in, task_in, timed, timed_as, timing_in, value_for, values_for, when_in, whither_in, whither_of}
use Rattle.build_names.specs.Faults.{fault_if, diagnostic_at}
use Rattle.build_names.specs.declared.faults.fault.Rule.TheVariants.{NoRoute, Unknown}
use Rattle.build_names.specs.declared.faults.fault.Rule.TheVariants as broken
use Rattle.build_expressions.specs.Answers.{answer_faults, answer_in}
use Rattle.build_expressions.specs.Partial.{all_some, both}
use Rattle.build_expressions.specs.Scope.{AgentMeaning, SignalMeaning, agent_in, block, process, signal, signal_in, timer}
use Rattle.build_expressions.specs.declared.context.Context.TheVariants.{Transition}
use Rattle.build_expressions.specs.declared.operand_sort.OperandSort.{OperandSort}
use Rattle.sdl_system.specs.Body as body
use Rattle.sdl_system.specs.declared.sort.Sort.{Sort}
use Rattle.sdl_system.specs.declared.sort.Sort.TheVariants as sorts
use Rattle.sdl_tree.specs.Tree as tree
use Rattle.sdl_tree.specs.Tree.{Applied, Assignment, Expr, SetClause}
use Rattle.sdl_tree.specs.Words.{Spot}

-- ---- lists of faults that are empty

one-none : {A : Type 0} (x : A) (xs : List A) → x ∷ xs ≡ [] → ⊥
one-none x xs none = cc

never : true ≡ false → ⊥
never is = cc

-- ---- values that are there

all-there : {A B C : Type 0} (f : A → Option B) (faults : A → List C) →
    ((x : A) → faults x ≡ [] → IsThere (f x)) → (xs : List A) → flat_map faults xs ≡ [] →
    IsThere (all_some (map f xs))
all-there f faults each [] none = tt
all-there f faults each (x ∷ xs) none =
    both-there ◌∷◌ (f x) (all_some (map f xs)) (each x (empty-left (faults x) (flat_map faults xs) none))
    (all-there f faults each xs (empty-right (faults x) (flat_map faults xs) none))

rest-there : {A : Type 0} (first : A) (rest : Option (List A)) → IsThere (both ◌∷◌ (Some first) rest) → IsThere rest
rest-there first None there = there
rest-there first (Some rest) there = tt

append-there : {A : Type 0} (xs ys : List (Option A)) → IsThere (all_some xs) → IsThere (all_some ys) →
    IsThere (all_some (xs ++ ys))
append-there [] ys there also = also
append-there (None ∷ xs) ys there also = there
append-there (Some x ∷ xs) ys there also =
    both-there ◌∷◌ (Some x) (all_some (xs ++ ys)) tt (append-there xs ys (rest-there x (all_some xs) there) also)

groups-there : {A B C : Type 0} (f : A → Option B) (faults : A → List C) →
    ((x : A) → faults x ≡ [] → IsThere (f x)) → (groups : List (List A)) → flat_map (flat_map faults) groups ≡ [] →
    IsThere (all_some (flat_map (map f) groups))
groups-there f faults each [] none = tt
groups-there f faults each (group ∷ groups) none =
    append-there (map f group) (flat_map (map f) groups)
    (all-there f faults each group (empty-left (flat_map faults group) (flat_map (flat_map faults) groups) none))
    (groups-there f faults each groups (empty-right (flat_map faults group) (flat_map (flat_map faults) groups) none))

module _ (context : Context) (complete : IsComplete context.scope) where
  -- ---- expressions

  placed-there : (place : Option Sort) (value : Expr) → value_faults context place value ≡ [] →
      IsThere (value_for context place value)
  placed-there place value none = placed-given Transition context.scope complete place value none

  listed-there : (name : Spot) (places : List (Option Sort)) (values : List Expr) →
      values_faults context name places values ≡ [] → IsThere (values_for context places values)
  listed-there name places values none = list-given Transition context.scope complete name places values none

  -- ---- task

  assignment-there : (assignment : Assignment) → assignment_faults context assignment ≡ [] →
      IsThere (assigning_in context assignment)
  assignment-there assignment none =
      let target = target_in context assignment.variable in
      let unknown = fault_if (is_none target) Unknown assignment.variable in
      let misfit = value_faults context (sort_of target) assignment.value in
      both-there assigned target (value_for context (sort_of target) assignment.value)
      (is-there target (unbroken (is_none target) Unknown assignment.variable (empty-left unknown misfit none)))
      (placed-there (sort_of target) assignment.value (empty-right unknown misfit none))

  pub task-there : (assignments : List Assignment) → flat_map (assignment_faults context) assignments ≡ [] →
      IsThere (task_in context assignments)
  task-there assignments none =
      mapped-there body.task (all_some (map (assigning_in context) assignments))
      (all-there (assigning_in context) (assignment_faults context) assignment-there assignments none)

  -- ---- output

  -- a name that means nothing is a fault
  not-unknown : (name : Spot) (values : List Expr) → unknown_faults context name values ≡ [] → ⊥
  not-unknown name values none = one-none (diagnostic_at Unknown name) (flat_map (asked_faults context) values) none

  sent-there : (has : Bool) (name : Spot) (values : List Expr) (found : Option SignalMeaning) →
      sent_faults context has name values found ≡ [] → IsThere (sent_as context values found)
  sent-there has name values None none = not-unknown name values none
  sent-there has name values (Some (timer number places has_default)) none = not-unknown name values none
  sent-there has name values (Some (signal number places)) none =
      let lost = fault_if (is_lost context has number) NoRoute name in
      mapped-there (sent number) (values_for context places values)
      (listed-there name places values (empty-right lost (values_faults context name places values) none))

  sending-there : (has : Bool) (applied : Applied) → sending_faults context has applied ≡ [] →
      IsThere (sending_in context applied)
  sending-there has applied none =
      sent-there has applied.name applied.values (signal_in context.scope applied.name.text) none

  process-there : (name : Spot) (found : Option AgentMeaning) → process_faults name found ≡ [] →
      IsThere (process_of found)
  process-there name None none = one-none (diagnostic_at Unknown name) [] none
  process-there name (Some (process number places)) none = tt
  process-there name (Some block) none = one-none (diagnostic_at Unknown name) [] none

  whither-there : (value : Expr) (name : Option Spot) → whither_faults context value name ≡ [] →
      IsThere (whither_of context value name)
  whither-there value None none =
      mapped-there body.to_pid (value_for context (Some sorts.Pid) value) (placed-there (Some sorts.Pid) value none)
  whither-there value (Some name) none = process-there name (agent_in context.scope name.text) none

  destination-there : (destination : Option tree.Destination) → destination_faults context destination ≡ [] →
      IsThere (sent_to context destination)
  destination-there None none = tt
  destination-there (Some destination) none =
      mapped-there Some (whither_in context destination.value)
      (whither-there destination.value (agent_name context.scope destination.value) none)

  pub output-there : (outputs : List Applied) (destination : Option tree.Destination) →
      output_faults context outputs destination ≡ [] → IsThere (output_in context outputs destination)
  output-there outputs destination none =
      let sendings = flat_map (sending_faults context (has_destination destination)) outputs in
      both-there body.output (all_some (map (sending_in context) outputs)) (sent_to context destination)
      (all-there (sending_in context) (sending_faults context (has_destination destination))
      (sending-there (has_destination destination)) outputs
      (empty-left sendings (destination_faults context destination) none))
      (destination-there destination (empty-right sendings (destination_faults context destination) none))

  -- ---- set and reset

  timed-there : (name : Spot) (values : List Expr) (found : Option SignalMeaning) →
      timed_faults context name values found ≡ [] → IsThere (timed_as context values found)
  timed-there name values None none = not-unknown name values none
  timed-there name values (Some (signal number places)) none = not-unknown name values none
  timed-there name values (Some (timer number places has_default)) none =
      mapped-there (timed number) (values_for context places values) (listed-there name places values none)

  timing-there : (applied : Applied) → timing_faults context applied ≡ [] → IsThere (timing_in context applied)
  timing-there applied none =
      timed-there applied.name applied.values (signal_in context.scope applied.name.text) none

  pub reset-there : (groups : List (List Applied)) → flat_map (flat_map (timing_faults context)) groups ≡ [] →
      IsThere (reset_in context groups)
  reset-there groups none =
      mapped-there body.reset (all_some (flat_map (map (timing_in context)) groups))
      (groups-there (timing_in context) (timing_faults context) timing-there groups none)

  module _ (durations : HasDurations context) where
    default-there : (name : Spot) (values : List Expr) (found : Option SignalMeaning) →
        signal_in context.scope name.text ≡ found → lacks_default found ≡ false →
        timed_faults context name values found ≡ [] → IsThere (default_of context found)
    default-there name values None is has none = not-unknown name values none
    default-there name values (Some (signal number places)) is has none = not-unknown name values none
    default-there name values (Some (timer number places true)) is has none = durations name.text number places is
    default-there name values (Some (timer number places false)) is has none = absurd (never has)

    when-there : (name : Spot) (values : List Expr) (time : Option Expr) → time_faults context time ≡ [] →
        default_faults context name time ≡ [] →
        timed_faults context name values (signal_in context.scope name.text) ≡ [] → IsThere (when_in context name time)
    when-there name values None time_none default_none none =
        let found = signal_in context.scope name.text in
        mapped-there body.after (default_of context found)
        (default-there name values found refl (unbroken (lacks_default found) broken.Sort name default_none) none)
    when-there name values (Some time) time_none default_none none =
        mapped-there body.at (value_for context (Some sorts.Time) time) (placed-there (Some sorts.Time) time time_none)

    setting-there : (clause : SetClause) → setting_faults context clause ≡ [] → IsThere (setting_in context clause)
    setting-there clause none =
        let times = time_faults context clause.time in
        let defaults = default_faults context clause.timer.name clause.time in
        let timings = timing_faults context clause.timer in
        let behind = empty-right times (defaults ++ timings) none in
        let timer_none = empty-right defaults timings behind in
        both-there set_for (timing_in context clause.timer) (when_in context clause.timer.name clause.time)
        (timing-there clause.timer timer_none)
        (when-there clause.timer.name clause.timer.values clause.time (empty-left times (defaults ++ timings) none)
        (empty-left defaults timings behind) timer_none)

    pub set-there : (clauses : List SetClause) → flat_map (setting_faults context) clauses ≡ [] →
        IsThere (set_in context clauses)
    set-there clauses none =
        mapped-there body.set (all_some (map (setting_in context) clauses))
        (all-there (setting_in context) (setting_faults context) setting-there clauses none)

  -- ---- create

  created-there : (name : Spot) (values : List Expr) (found : Option AgentMeaning) →
      created_faults context name values found ≡ [] → IsThere (created_as context values found)
  created-there name values None none = not-unknown name values none
  created-there name values (Some (process number places)) none =
      mapped-there (body.create number) (values_for context places values) (listed-there name places values none)
  created-there name values (Some block) none = not-unknown name values none

  pub create-there : (applied : Applied) → create_faults context applied ≡ [] → IsThere (create_in context applied)
  create-there applied none =
      created-there applied.name applied.values (agent_in context.scope applied.name.text) none

  -- ---- decision

  pub answers-there : (question : Option OperandSort) (list : List tree.Answer) →
      answers_faults context question list ≡ [] → IsThere (answers_in context question list)
  answers-there question list none =
      all-there (answer_in context.scope question) (answer_faults context.scope question)
      (answer-given context.scope question complete) list none
