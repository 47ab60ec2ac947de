-- Each rule that is broken in a transition is among its faults.
use Rattle.std.proofs.Common.{◌≡◌, ◌∙◌, ◌++◌, not, Bool, true, false, List, Option, None, Some, flat_map, is_none, if◌then◌else◌, inl, inr, refl, sym, ap, subst}
use Rattle.build_statements.proofs.AnswerLaws.{answer-listed}
use Rattle.build_statements.specs.Broken.{BreaksAction, BreaksTerminator, BreaksValues, IsBroken, IsNoProcess, IsNoSignal, IsNoVariable}
use Rattle.build_statements.specs.Broken as broken
use Rattle.build_statements.specs.Contexts.{Context, label_in, state_in}
use Rattle.build_statements.specs.Faulty.{answers_faults, asked_faults, assignment_faults, create_faults, created_faults, default_faults, destination_faults, has_destination, is_lost, lacks_default, output_faults, process_faults, sending_faults, sent_faults, setting_faults, terminator_faults, time_faults, timed_faults, timing_faults, unknown_faults, value_faults, values_faults, whither_faults}
use Rattle.build_statements.specs.Standing.{IsAskedBy, IsPart, IsPidPlace, Within}
use Rattle.build_statements.specs.Standing as stands
use Rattle.build_statements.specs.Statements.{agent_name, asked_in, kind_in, sort_of, target_in, target_of}
use Rattle.build_statements.specs.Transitions.{action_faults, ending_faults, other_faults, parts_faults, steps_faults, transition_faults}
use Rattle.build_names.proofs.FaultLemmas.{in-each, in-if, in-left, in-right}
use Rattle.build_names.specs.FaultLaws.{In}
use Rattle.build_names.specs.Faults.{Diagnostic, fault_if, diagnostic_at}
use Rattle.build_names.specs.declared.faults.fault.Rule.TheVariants.{NoLabel, NoRoute, NoState, Sort, Unknown}
use Rattle.build_expressions.proofs.BrokenLaws as expressions
use Rattle.build_expressions.specs.Answers.{answer_faults}
use Rattle.build_expressions.specs.Broken as sorted
use Rattle.build_expressions.specs.Broken.{IsMisfit, IsNoTimer, TimerMeaning}
use Rattle.build_expressions.specs.Scope.{AgentMeaning, SignalMeaning, agent_in, block, process, signal, signal_in, timer, value_in}
use Rattle.build_expressions.specs.Words.{first_word}
use Rattle.build_expressions.specs.declared.context.Context.TheVariants as place
use Rattle.build_expressions.specs.declared.operand_sort.OperandSort.{OperandSort}
use Rattle.build_expressions.specs.declared.scope.ValueMeaning.{ValueMeaning}
use Rattle.sdl_system.specs.declared.sort.Sort as sorts
use Rattle.sdl_system.specs.declared.sort.Sort.TheVariants as the_sort
use Rattle.sdl_tree.specs.Tree.{Action, Actions, Active, AndAction, AndPart, Applied, Assignment, Chain, Destination, Expr, Keyword, Named, NoAction, NoPart, Numeral, Paren, Part, Parts, SetClause, Statement, Steps, Task, Terminator, Transition, Unary, parts_in, statements_in}
use Rattle.sdl_tree.specs.Words.{Spot}
use Rattle.sdl_tree.specs.declared.name.Spelling.{Spelling}

module _ (context : Context) where
  -- a rule is broken in the expression
  abbrev BreaksIn : Expr → Diagnostic → Type 0
  BreaksIn value fault = sorted.IsBroken place.Transition context.scope value fault

  -- ---- expressions and values

  in-asked : (value : Expr) (fault : Diagnostic) → BreaksIn value fault → In fault (asked_faults context value)
  in-asked value fault is = expressions.broken-listed place.Transition context.scope value fault is

  in-value : (sort : Option sorts.Sort) (value : Expr) (fault : Diagnostic) → BreaksIn value fault →
      In fault (value_faults context sort value)
  in-value sort value fault is =
      expressions.broken-listed-at place.Transition context.scope sort value fault (sorted.inside fault is)

  in-misfit : (sort : sorts.Sort) (value : Expr) → IsMisfit place.Transition context.scope sort value →
      In (diagnostic_at Sort (first_word value)) (value_faults context (Some sort) value)
  in-misfit sort value misfit =
      expressions.broken-listed-at place.Transition context.scope (Some sort) value
      (diagnostic_at Sort (first_word value))
      (sorted.misfit sort refl misfit)

  in-values : (applied : Applied) (places : List (Option sorts.Sort)) (value : Expr) → In value applied.values →
      (fault : Diagnostic) → BreaksIn value fault → In fault (values_faults context applied.name places applied.values)
  in-values applied places value at fault is =
      expressions.broken-listed-in place.Transition context.scope applied.name places applied.values fault
      (sorted.inside fault value at is)

  in-places : (applied : Applied) (places : List (Option sorts.Sort)) (fault : Diagnostic) →
      BreaksValues context applied places fault →
      In fault (values_faults context applied.name places applied.values)
  in-places applied places fault breaks =
      expressions.broken-listed-in place.Transition context.scope applied.name places applied.values fault
      (sorted.at_places fault breaks)

  in-unknown : (applied : Applied) (value : Expr) → In value applied.values → (fault : Diagnostic) →
      BreaksIn value fault →
      In fault (unknown_faults context applied.name applied.values)
  in-unknown applied value at fault is =
      inr (in-each fault (asked_faults context) applied.values value at (in-asked value fault is))

  -- ---- where faults of a part stand

  in-task : (word : Spelling) (assignments : List Assignment) (assignment : Assignment) → In assignment assignments →
      (fault : Diagnostic) → In fault (assignment_faults context assignment) →
      In fault (action_faults context (Task word assignments))
  in-task word assignments assignment at fault here =
      in-each fault (assignment_faults context) assignments assignment at here

  in-assigned : (assignment : Assignment) (fault : Diagnostic) →
      In fault (value_faults context (sort_of (target_in context assignment.variable)) assignment.value) →
      In fault (assignment_faults context assignment)
  in-assigned assignment fault here =
      in-right fault (fault_if (is_none (target_in context assignment.variable)) Unknown assignment.variable)
      (value_faults context (sort_of (target_in context assignment.variable)) assignment.value) here

  in-sent : (outputs : List Applied) (destination : Option Destination) (output : Applied) → In output outputs →
      (fault : Diagnostic) → In fault (sending_faults context (has_destination destination) output) →
      In fault (output_faults context outputs destination)
  in-sent outputs destination output at fault here =
      in-left fault (flat_map (sending_faults context (has_destination destination)) outputs)
      (destination_faults context destination)
      (in-each fault (sending_faults context (has_destination destination)) outputs output at here)

  in-destined : (outputs : List Applied) (destination : Destination) (fault : Diagnostic) →
      In fault (destination_faults context (Some destination)) →
      In fault (output_faults context outputs (Some destination))
  in-destined outputs destination fault here =
      in-right fault (flat_map (sending_faults context true) outputs) (destination_faults context (Some destination))
      here

  in-clause : (clauses : List SetClause) (clause : SetClause) → In clause clauses → (fault : Diagnostic) →
      In fault (setting_faults context clause) → In fault (flat_map (setting_faults context) clauses)
  in-clause clauses clause at fault here = in-each fault (setting_faults context) clauses clause at here

  in-time : (clause : SetClause) (time : Expr) → clause.time ≡ Some time → (fault : Diagnostic) →
      In fault (value_faults context (Some the_sort.Time) time) → In fault (setting_faults context clause)
  in-time clause time is fault here =
      in-left fault (time_faults context clause.time)
      (default_faults context clause.timer.name clause.time ++ timing_faults context clause.timer)
      (subst (λ t. In fault (time_faults context t)) (sym is) here)

  in-timer : (clause : SetClause) (fault : Diagnostic) → In fault (timing_faults context clause.timer) →
      In fault (setting_faults context clause)
  in-timer clause fault here =
      in-right fault (time_faults context clause.time)
      (default_faults context clause.timer.name clause.time ++ timing_faults context clause.timer)
      (in-right fault (default_faults context clause.timer.name clause.time) (timing_faults context clause.timer) here)

  in-reset : (groups : List (List Applied)) (group : List Applied) → In group groups → (reset : Applied) →
      In reset group → (fault : Diagnostic) → In fault (timing_faults context reset) →
      In fault (flat_map (flat_map (timing_faults context)) groups)
  in-reset groups group at reset among fault here =
      in-each fault (flat_map (timing_faults context)) groups group at
      (in-each fault (timing_faults context) group reset among here)

  -- ---- expressions of actions

  in-sending : (has : Bool) (output : Applied) (value : Expr) → In value output.values → (fault : Diagnostic) →
      BreaksIn value fault → In fault (sending_faults context has output)
  in-sending has output value at fault is = by (signal_in context.scope output.name.text)
    where
      by : (found : Option SignalMeaning) → In fault (sent_faults context has output.name output.values found)
      by None = in-unknown output value at fault is
      by (Some (timer number places has_default)) = in-unknown output value at fault is
      by (Some (signal number places)) =
          in-right fault (fault_if (is_lost context has number) NoRoute output.name)
          (values_faults context output.name places output.values) (in-values output places value at fault is)

  in-timing : (applied : Applied) (value : Expr) → In value applied.values → (fault : Diagnostic) →
      BreaksIn value fault →
      In fault (timing_faults context applied)
  in-timing applied value at fault is = by (signal_in context.scope applied.name.text)
    where
      by : (found : Option SignalMeaning) → In fault (timed_faults context applied.name applied.values found)
      by None = in-unknown applied value at fault is
      by (Some (signal number places)) = in-unknown applied value at fault is
      by (Some (timer number places has_default)) = in-values applied places value at fault is

  in-created : (created : Applied) (value : Expr) → In value created.values → (fault : Diagnostic) →
      BreaksIn value fault →
      In fault (create_faults context created)
  in-created created value at fault is = by (agent_in context.scope created.name.text)
    where
      by : (found : Option AgentMeaning) → In fault (created_faults context created.name created.values found)
      by None = in-unknown created value at fault is
      by (Some block) = in-unknown created value at fault is
      by (Some (process number places)) = in-values created places value at fault is

  no-agent : (destination : Expr) → IsPidPlace context.scope destination → agent_name context.scope destination ≡ None
  no-agent (Named name) pid = by (value_in context.scope name.text) refl
    where
      by : (found : Option ValueMeaning) → value_in context.scope name.text ≡ found →
          (if is_none found then Some name else None) ≡ None
      by None free = absurd (pid name refl free)
      by (Some value) free = refl
  no-agent (Numeral number) pid = refl
  no-agent (Keyword value word) pid = refl
  no-agent (Active word timer_name values) pid = refl
  no-agent (Paren word inner) pid = refl
  no-agent (Unary operator word operand) pid = refl
  no-agent (Chain first rest) pid = refl

  in-pid : (destination : Destination) → IsPidPlace context.scope destination.value → (fault : Diagnostic) →
      In fault (value_faults context (Some the_sort.Pid) destination.value) →
      In fault (destination_faults context (Some destination))
  in-pid destination pid fault here =
      subst (λ found. In fault (whither_faults context destination.value found)) (sym (no-agent destination.value pid))
      here

  in-expression : (action : Action) (value : Expr) → IsAskedBy context.scope action value → (fault : Diagnostic) →
      BreaksIn value fault → In fault (action_faults context action)
  in-expression action value (stands.assigned {word} {assignments} assignment at) fault is =
      in-task word assignments assignment at fault
      (in-assigned assignment fault
      (in-value (sort_of (target_in context assignment.variable)) assignment.value fault is))
  in-expression action value (stands.sent {word} {outputs} {destination} output at v among) fault is =
      in-sent outputs destination output at fault (in-sending (has_destination destination) output v among fault is)
  in-expression action value (stands.destined {word} {outputs} destination pid) fault is =
      in-destined outputs destination fault
      (in-pid destination pid fault (in-value (Some the_sort.Pid) destination.value fault is))
  in-expression action value (stands.due {word} {clauses} clause at time time_is) fault is =
      in-clause clauses clause at fault
      (in-time clause time time_is fault (in-value (Some the_sort.Time) time fault is))
  in-expression action value (stands.of_timer {word} {clauses} clause at v among) fault is =
      in-clause clauses clause at fault (in-timer clause fault (in-timing clause.timer v among fault is))
  in-expression action value (stands.of_reset {word} {groups} group at reset among v within) fault is =
      in-reset groups group at reset among fault (in-timing reset v within fault is)
  in-expression action value (stands.handed {word} {created} v among) fault is = in-created created v among fault is
  in-expression action value (stands.question {word} {parts} {otherwise} asked) fault is =
      in-left fault (asked_faults context asked)
      (parts_faults context (kind_in (asked_in context asked)) parts ++ other_faults context otherwise)
      (in-asked asked fault is)

  -- ---- names that stand for something else

  no-target : (found : Option ValueMeaning) → IsNoVariable found → is_none (target_of found) ≡ true
  no-target found broken.no_value = refl
  no-target found (broken.a_synonym sort value) = refl

  no-signal : (has : Bool) (output : Applied) (found : Option SignalMeaning) → IsNoSignal found →
      In (diagnostic_at Unknown output.name) (sent_faults context has output.name output.values found)
  no-signal has output found broken.no_signal = inl refl
  no-signal has output found (broken.a_timer number places has_default) = inl refl

  no-timer : (applied : Applied) (found : Option SignalMeaning) → IsNoTimer found →
      In (diagnostic_at Unknown applied.name) (timed_faults context applied.name applied.values found)
  no-timer applied found sorted.nothing = inl refl
  no-timer applied found (sorted.a_signal number places) = inl refl

  no-process : (created : Applied) (found : Option AgentMeaning) → IsNoProcess found →
      In (diagnostic_at Unknown created.name) (created_faults context created.name created.values found)
  no-process created found broken.no_agent = inl refl
  no-process created found broken.a_block = inl refl

  no-receiver : (name : Spot) (found : Option AgentMeaning) → IsNoProcess found →
      In (diagnostic_at Unknown name) (process_faults name found)
  no-receiver name found broken.no_agent = inl refl
  no-receiver name found broken.a_block = inl refl

  in-timed : (applied : Applied) (meaning : TimerMeaning context.scope applied.name) (fault : Diagnostic) →
      BreaksValues context applied meaning.places fault → In fault (timing_faults context applied)
  in-timed applied meaning fault breaks =
      subst (λ found. In fault (timed_faults context applied.name applied.values found)) (sym meaning.meant)
      (in-places applied meaning.places fault breaks)

  -- the name of an agent behind `to`
  in-named : (destination : Destination) (name : Spot) → destination.value ≡ Named name →
      value_in context.scope name.text ≡ None → (fault : Diagnostic) →
      In fault (process_faults name (agent_in context.scope name.text)) →
      In fault (destination_faults context (Some destination))
  in-named destination name is free fault here =
      subst (λ found. In fault (whither_faults context destination.value found))
      (sym (ap (agent_name context.scope) is ∙ ap (λ found. if is_none found then Some name else None) free)) here

  -- ---- the parts of a decision

  in-answers : (asked : Option OperandSort) (parts : Parts) (part : Part) → In part (parts_in parts) →
      (fault : Diagnostic) →
      In fault (answers_faults context asked part.answers) → In fault (parts_faults context asked parts)
  in-answers asked NoPart part at fault here = absurd at
  in-answers asked (AndPart answers transition rest) part at fault here =
      elim at [
        | inl is ↦ in-left fault (answers_faults context asked answers ++ transition_faults context transition)
            (parts_faults context asked rest)
            (in-left fault (answers_faults context asked answers) (transition_faults context transition)
            (subst (λ (p : Part). In fault (answers_faults context asked p.answers)) is here))
        | inr later ↦ in-right fault (answers_faults context asked answers ++ transition_faults context transition)
            (parts_faults context asked rest) (in-answers asked rest part later fault here)
      ]

  in-branch : (asked : Option OperandSort) (parts : Parts) (part : Part) → In part (parts_in parts) →
      (fault : Diagnostic) →
      In fault (transition_faults context part.transition) → In fault (parts_faults context asked parts)
  in-branch asked NoPart part at fault here = absurd at
  in-branch asked (AndPart answers transition rest) part at fault here =
      elim at [
        | inl is ↦ in-left fault (answers_faults context asked answers ++ transition_faults context transition)
            (parts_faults context asked rest)
            (in-right fault (answers_faults context asked answers) (transition_faults context transition)
            (subst (λ (p : Part). In fault (transition_faults context p.transition)) is here))
        | inr later ↦ in-right fault (answers_faults context asked answers ++ transition_faults context transition)
            (parts_faults context asked rest) (in-branch asked rest part later fault here)
      ]

  -- ---- each rule

  in-action : (action : Action) (fault : Diagnostic) → BreaksAction context action fault →
      In fault (action_faults context action)
  in-action action fault (broken.expression asked is told breaks) = in-expression action asked is told breaks
  in-action action fault (broken.no_variable {word} {assignments} assignment at isnt) =
      in-task word assignments assignment at (diagnostic_at Unknown assignment.variable)
      (in-left (diagnostic_at Unknown assignment.variable)
      (fault_if (is_none (target_in context assignment.variable)) Unknown assignment.variable)
      (value_faults context (sort_of (target_in context assignment.variable)) assignment.value)
      (in-if (is_none (target_in context assignment.variable)) Unknown assignment.variable
      (no-target (value_in context.scope assignment.variable.text) isnt)))
  in-action action fault (broken.no_fit {word} {assignments} assignment at sort variable misfit) =
      let told = diagnostic_at Sort (first_word assignment.value) in
      in-task word assignments assignment at told
      (in-assigned assignment told
      (subst (λ found. In told (value_faults context (sort_of (target_of found)) assignment.value))
      (sym variable.meant) (in-misfit sort assignment.value misfit)))
  in-action action fault (broken.no_output {word} {outputs} {destination} output at isnt) =
      in-sent outputs destination output at (diagnostic_at Unknown output.name)
      (no-signal (has_destination destination) output (signal_in context.scope output.name.text) isnt)
  in-action action fault (broken.no_route {word} {outputs} output at meaning unreached) =
      let told = diagnostic_at NoRoute output.name in
      in-sent outputs None output at told
      (subst (λ found. In told (sent_faults context false output.name output.values found)) (sym meaning.meant)
      (in-left told (fault_if (is_lost context false meaning.number) NoRoute output.name)
      (values_faults context output.name meaning.places output.values)
      (in-if (is_lost context false meaning.number) NoRoute output.name (ap not unreached))))
  in-action action fault (broken.sent_values {word} {outputs} {destination} output at meaning told breaks) =
      in-sent outputs destination output at told
      (subst (λ found. In told (sent_faults context (has_destination destination) output.name output.values found))
      (sym meaning.meant)
      (in-right told (fault_if (is_lost context (has_destination destination) meaning.number) NoRoute output.name)
      (values_faults context output.name meaning.places output.values)
      (in-places output meaning.places told breaks)))
  in-action action fault (broken.no_receiver {word} {outputs} destination name is free isnt) =
      in-destined outputs destination (diagnostic_at Unknown name)
      (in-named destination name is free (diagnostic_at Unknown name)
      (no-receiver name (agent_in context.scope name.text) isnt))
  in-action action fault (broken.no_pid {word} {outputs} destination pid misfit) =
      let told = diagnostic_at Sort (first_word destination.value) in
      in-destined outputs destination told
      (in-pid destination pid told (in-misfit the_sort.Pid destination.value misfit))
  in-action action fault (broken.no_timer {word} {clauses} clause at isnt) =
      in-clause clauses clause at (diagnostic_at Unknown clause.timer.name)
      (in-timer clause (diagnostic_at Unknown clause.timer.name)
      (no-timer clause.timer (signal_in context.scope clause.timer.name.text) isnt))
  in-action action fault (broken.set_values {word} {clauses} clause at meaning told breaks) =
      in-clause clauses clause at told (in-timer clause told (in-timed clause.timer meaning told breaks))
  in-action action fault (broken.no_time {word} {clauses} clause at time is misfit) =
      let told = diagnostic_at Sort (first_word time) in
      in-clause clauses clause at told (in-time clause time is told (in-misfit the_sort.Time time misfit))
  in-action action fault (broken.no_default {word} {clauses} clause at none number places meant) =
      let told = diagnostic_at Sort clause.timer.name in
      in-clause clauses clause at told
      (in-right told (time_faults context clause.time)
      (default_faults context clause.timer.name clause.time ++ timing_faults context clause.timer)
      (in-left told (default_faults context clause.timer.name clause.time) (timing_faults context clause.timer)
      (subst (λ time. In told (default_faults context clause.timer.name time)) (sym none)
      (in-if (lacks_default (signal_in context.scope clause.timer.name.text)) Sort clause.timer.name
      (ap lacks_default meant)))))
  in-action action fault (broken.no_reset {word} {groups} group at reset among isnt) =
      in-reset groups group at reset among (diagnostic_at Unknown reset.name)
      (no-timer reset (signal_in context.scope reset.name.text) isnt)
  in-action action fault (broken.reset_values {word} {groups} group at reset among meaning told breaks) =
      in-reset groups group at reset among told (in-timed reset meaning told breaks)
  in-action action fault (broken.no_process {word} {created} isnt) =
      no-process created (agent_in context.scope created.name.text) isnt
  in-action action fault (broken.created_values {word} {created} meaning told breaks) =
      subst (λ found. In told (created_faults context created.name created.values found)) (sym meaning.meant)
      (in-places created meaning.places told breaks)
  in-action action fault (broken.answer {word} {question} {parts} {otherwise} part at said among told breaks) =
      let asked : Option OperandSort = kind_in (asked_in context question) in
      in-right told (asked_faults context question) (parts_faults context asked parts ++ other_faults context otherwise)
      (in-left told (parts_faults context asked parts) (other_faults context otherwise)
      (in-answers asked parts part at told
      (in-each told (answer_faults context.scope asked) part.answers said among
      (answer-listed context.scope asked said told breaks))))

  in-terminator : (terminator : Terminator) (fault : Diagnostic) → BreaksTerminator context terminator fault →
      In fault (terminator_faults context terminator)
  in-terminator terminator fault (broken.no_state word state none) =
      in-if (is_none (state_in context state.text)) NoState state (ap is_none none)
  in-terminator terminator fault (broken.no_label word label none) =
      in-if (is_none (label_in context label.text)) NoLabel label (ap is_none none)

  -- ---- whole transitions

  in-steps : (actions : Actions) (statement : Statement) → In statement (statements_in actions) → (fault : Diagnostic) →
      In fault (action_faults context statement.action) → In fault (steps_faults context actions)
  in-steps NoAction statement at fault here = absurd at
  in-steps (AndAction label first rest) statement at fault here =
      elim at [
        | inl is ↦ in-left fault (action_faults context first) (steps_faults context rest)
            (subst (λ (s : Statement). In fault (action_faults context s.action)) is here)
        | inr later ↦ in-right fault (action_faults context first) (steps_faults context rest)
            (in-steps rest statement later fault here)
      ]

  in-part : (part : Transition) (action : Action) → IsPart part action → (fault : Diagnostic) →
      In fault (transition_faults context part) → In fault (action_faults context action)
  in-part t action (stands.behind_answers {word} {question} {parts} {otherwise} part at) fault here =
      let asked : Option OperandSort = kind_in (asked_in context question) in
      in-right fault (asked_faults context question)
      (parts_faults context asked parts ++ other_faults context otherwise)
      (in-left fault (parts_faults context asked parts) (other_faults context otherwise)
      (in-branch asked parts part at fault here))
  in-part t action (stands.behind_else {word} {question} {parts} other) fault here =
      let asked : Option OperandSort = kind_in (asked_in context question) in
      in-right fault (asked_faults context question)
      (parts_faults context asked parts ++ transition_faults context other)
      (in-right fault (parts_faults context asked parts) (transition_faults context other) here)

  in-whole : (whole part : Transition) → Within whole part → (fault : Diagnostic) →
      In fault (transition_faults context part) → In fault (transition_faults context whole)
  in-whole whole t stands.itself fault here = here
  in-whole whole t (stands.in_decision {actions} {ending} {part} statement within among is) fault here =
      in-whole whole (Steps actions ending) within fault
      (in-left fault (steps_faults context actions) (ending_faults context ending)
      (in-steps actions statement among fault (in-part part statement.action is fault here)))

  in-transition : (whole : Transition) (fault : Diagnostic) → IsBroken context whole fault →
      In fault (transition_faults context whole)
  in-transition whole fault (broken.in_action action stand told breaks) =
      in-whole whole (Steps stand.actions stand.ending) stand.within told
      (in-left told (steps_faults context stand.actions) (ending_faults context stand.ending)
      (in-steps stand.actions stand.statement stand.among told
      (subst (λ a. In told (action_faults context a)) (sym stand.is) (in-action action told breaks))))
  in-transition whole fault (broken.in_terminator terminator ends told breaks) =
      in-whole whole (Steps ends.actions (Some ends.ending)) ends.within told
      (in-right told (steps_faults context ends.actions) (terminator_faults context ends.ending.terminator)
      (subst (λ t. In told (terminator_faults context t)) (sym ends.is) (in-terminator terminator told breaks)))

pub broken-listed : (context : Context) (transition : Transition) (fault : Diagnostic) →
    IsBroken context transition fault →
    In fault (transition_faults context transition)
broken-listed context transition fault is = in-transition context transition fault is
