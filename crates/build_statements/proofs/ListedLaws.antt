-- Each fault of a transition is a rule that is broken in it.
use Rattle.std.proofs.Common.{◌≡◌, ◌∙◌, ◌++◌, not, true, List, Option, None, Some, flat_map, is_none, if◌then◌else◌, inl, inr, refl, sym, ap, subst}
use Rattle.build_statements.proofs.AnswerLaws.{listed-answer}
use Rattle.build_statements.specs.Broken.{BreaksAction, BreaksTerminator, BreaksValues, IsBroken, IsNoProcess, IsNoSignal, IsNoVariable, IsProcess, IsSignal}
use Rattle.build_statements.specs.Broken as broken
use Rattle.build_statements.specs.BrokenAnswers.{BreaksAnswer}
use Rattle.build_statements.specs.Contexts.{Context, label_in, state_in}
use Rattle.build_statements.specs.Faulty.{answers_faults, asked_faults, assignment_faults, create_faults, created_faults, default_faults, destination_faults, has_destination, is_lost, lacks_default, output_faults, process_faults, sending_faults, sent_faults, setting_faults, terminator_faults, time_faults, timed_faults, timing_faults, unknown_faults, value_faults, values_faults, whither_faults}
use Rattle.build_statements.specs.Standing.{IsAskedBy, IsPart, IsPidPlace, StandsIn, Within}
use Rattle.build_statements.specs.Standing as stands
use Rattle.build_statements.specs.Statements.{agent_name, asked_in, kind_in, sort_of, target_of}
use Rattle.build_statements.specs.Transitions.{action_faults, ending_faults, other_faults, parts_faults, steps_faults, transition_faults}
use Rattle.build_names.proofs.FaultLemmas.{each-both, each-if, each-of}
use Rattle.build_names.specs.FaultLaws.{Each, In}
use Rattle.build_names.specs.Faults.{Diagnostic, fault_if, diagnostic_at}
use Rattle.build_names.specs.declared.faults.fault.Rule.TheVariants.{NoLabel, NoRoute, NoState, Sort, Unknown}
use Rattle.build_expressions.proofs.ListedLaws as expressions
use Rattle.build_expressions.proofs.ListedLaws.{each-weaker, none-is, not-true}
use Rattle.build_expressions.specs.Answers.{answer_faults}
use Rattle.build_expressions.specs.Broken as sorted
use Rattle.build_expressions.specs.Broken.{IsBrokenAt, IsBrokenIn, IsMisfit, IsNoTimer, TimerMeaning}
use Rattle.build_expressions.specs.Scope.{AgentMeaning, SignalMeaning, agent_in, block, process, signal, signal_in, timer, value_in}
use Rattle.build_expressions.specs.Words.{first_word}
use Rattle.build_expressions.specs.declared.context.Context.TheVariants as place
use Rattle.build_expressions.specs.declared.operand_sort.OperandSort.{OperandSort}
use Rattle.build_expressions.specs.declared.scope.ValueMeaning.{ValueMeaning}
use Rattle.build_expressions.specs.declared.scope.ValueMeaning.TheVariants as meant
use Rattle.sdl_system.specs.declared.sort.Sort as sorts
use Rattle.sdl_system.specs.declared.sort.Sort.TheVariants as the_sort
use Rattle.sdl_tree.specs.Tree.{Action, Actions, Active, AndAction, AndPart, Applied, Assignment, Chain, Create, Decision, Destination, Else, Ending, Expr, Join, Keyword, Named, Next, NoAction, NoElse, NoPart, Numeral, Otherwise, Output, Paren, Part, Parts, Reset, Same, Set, SetClause, Statement, Steps, Stop, Task, Terminator, To, Transition, Unary, parts_in, statements_in}
use Rattle.sdl_tree.specs.Words.{Spot}
use Rattle.sdl_tree.specs.declared.name.Spelling.{Spelling}

module _ (context : Context) where
  -- ---- expressions and values of an action

  each-asked : (action : Action) (value : Expr) → IsAskedBy context.scope action value →
      Each (BreaksAction context action) (asked_faults context value)
  each-asked action value asked =
      each-weaker (sorted.IsBroken place.Transition context.scope value) (BreaksAction context action)
      (asked_faults context value) (λ fault is. broken.expression value asked fault is)
      (expressions.listed-broken place.Transition context.scope value)

  each-value : (action : Action) (sort : Option sorts.Sort) (value : Expr) → IsAskedBy context.scope action value →
      ((s : sorts.Sort) → sort ≡ Some s → IsMisfit place.Transition context.scope s value →
      BreaksAction context action (diagnostic_at Sort (first_word value))) →
      Each (BreaksAction context action) (value_faults context sort value)
  each-value action sort value asked misfit =
      each-weaker (IsBrokenAt place.Transition context.scope sort value) (BreaksAction context action)
      (value_faults context sort value) one (expressions.listed-broken-at place.Transition context.scope sort value)
    where
      one : (fault : Diagnostic) → IsBrokenAt place.Transition context.scope sort value fault →
          BreaksAction context action fault
      one fault (sorted.inside told is) = broken.expression value asked told is
      one fault (sorted.misfit s is at) = misfit s is at

  each-of-sort : (action : Action) (sort : sorts.Sort) (value : Expr) → IsAskedBy context.scope action value →
      (IsMisfit place.Transition context.scope sort value →
      BreaksAction context action (diagnostic_at Sort (first_word value))) →
      Each (BreaksAction context action) (value_faults context (Some sort) value)
  each-of-sort action sort value asked misfit =
      each-value action (Some sort) value asked (λ s is at.
      let same : sort ≡ s = cc in
      misfit (subst (λ x. IsMisfit place.Transition context.scope x value) (sym same) at))

  each-values : (action : Action) (applied : Applied) (places : List (Option sorts.Sort)) →
      ((value : Expr) → In value applied.values → IsAskedBy context.scope action value) →
      ((fault : Diagnostic) → BreaksValues context applied places fault → BreaksAction context action fault) →
      Each (BreaksAction context action) (values_faults context applied.name places applied.values)
  each-values action applied places asked breaks =
      each-weaker (IsBrokenIn place.Transition context.scope applied.name places applied.values)
      (BreaksAction context action) (values_faults context applied.name places applied.values) one
      (expressions.listed-broken-in place.Transition context.scope applied.name places applied.values)
    where
      one : (fault : Diagnostic) → IsBrokenIn place.Transition context.scope applied.name places applied.values fault →
          BreaksAction context action fault
      one fault (sorted.inside told value at is) = broken.expression value (asked value at) told is
      one fault (sorted.at_places told is) = breaks told is

  each-unknown : (action : Action) (applied : Applied) →
      BreaksAction context action (diagnostic_at Unknown applied.name) →
      ((value : Expr) → In value applied.values → IsAskedBy context.scope action value) →
      Each (BreaksAction context action) (unknown_faults context applied.name applied.values)
  each-unknown action applied unknown asked = (
    unknown,
    each-of (BreaksAction context action) (asked_faults context) applied.values
        (λ value at. each-asked action value (asked value at)),
  )

  -- ---- task

  module _ (word : Spelling) (assignments : List Assignment) where
    assigned-as : (assignment : Assignment) → In assignment assignments → (found : Option ValueMeaning) →
        value_in context.scope assignment.variable.text ≡ found →
        Each (BreaksAction context (Task word assignments))
        (fault_if (is_none (target_of found)) Unknown assignment.variable
        ++ value_faults context (sort_of (target_of found)) assignment.value)
    assigned-as assignment at None is = (
      broken.no_variable assignment at (subst IsNoVariable (sym is) broken.no_value),
      each-value (Task word assignments) None assignment.value (stands.assigned assignment at)
          (λ s none misfit. let never : None ≡ Some s = none in cc),
    )
    assigned-as assignment at (Some (meant.Synonym sort value)) is = (
      broken.no_variable assignment at (subst IsNoVariable (sym is) (broken.a_synonym sort value)),
      each-value (Task word assignments) None assignment.value (stands.assigned assignment at)
          (λ s none misfit. let never : None ≡ Some s = none in cc),
    )
    assigned-as assignment at (Some (meant.Variable number sort)) is =
        each-value (Task word assignments) sort assignment.value (stands.assigned assignment at) (λ s sort_is misfit.
        broken.no_fit assignment at s
        (record { number = number; meant = is ∙ ap (λ x. Some (meant.Variable number x)) sort_is }) misfit)

    each-task : Each (BreaksAction context (Task word assignments)) (action_faults context (Task word assignments))
    each-task =
        each-of (BreaksAction context (Task word assignments)) (assignment_faults context) assignments
        (λ assignment at. assigned-as assignment at (value_in context.scope assignment.variable.text) refl)

  -- ---- output

  pid-place : (destination : Expr) → agent_name context.scope destination ≡ None → IsPidPlace context.scope destination
  pid-place destination none = λ name is free.
      let never : None ≡ Some name =
      sym none ∙ (ap (agent_name context.scope) is ∙ ap (λ found. if is_none found then Some name else None) free)
      in cc

  record NamesAgent (destination : Expr) (name : Spot) : Type 0 where
    is : destination ≡ Named name
    free : value_in context.scope name.text ≡ None

  names-agent : (destination : Expr) (name : Spot) → agent_name context.scope destination ≡ Some name →
      NamesAgent destination name
  names-agent (Named other) name is = by (value_in context.scope other.text) refl is
    where
      by : (found : Option ValueMeaning) → value_in context.scope other.text ≡ found →
          (if is_none found then Some other else None) ≡ Some name → NamesAgent (Named other) name
      by None free so =
          let same : other ≡ name = cc in
          record { is = ap Named same; free = subst (λ n. value_in context.scope n.text ≡ None) same free }
      by (Some value) free so = cc
  names-agent (Numeral number) name is = cc
  names-agent (Keyword value word) name is = cc
  names-agent (Active word timer_name values) name is = cc
  names-agent (Paren word inner) name is = cc
  names-agent (Unary operator word operand) name is = cc
  names-agent (Chain first rest) name is = cc

  module _ (word : Spelling) (outputs : List Applied) where
    each-route : (output : Applied) → In output outputs → (meaning : IsSignal context.scope output.name) →
        (destination : Option Destination) → is_lost context (has_destination destination) meaning.number ≡ true →
        BreaksAction context (Output word outputs destination) (diagnostic_at NoRoute output.name)
    each-route output at meaning None lost = broken.no_route output at meaning (not-true _ lost)
    each-route output at meaning (Some destination) lost = cc

    sent-as : (destination : Option Destination) (output : Applied) → In output outputs →
        (found : Option SignalMeaning) → signal_in context.scope output.name.text ≡ found →
        Each (BreaksAction context (Output word outputs destination))
        (sent_faults context (has_destination destination) output.name output.values found)
    sent-as destination output at None is =
        each-unknown (Output word outputs destination) output
        (broken.no_output output at (subst IsNoSignal (sym is) broken.no_signal))
        (λ value among. stands.sent output at value among)
    sent-as destination output at (Some (timer number places has_default)) is =
        each-unknown (Output word outputs destination) output
        (broken.no_output output at (subst IsNoSignal (sym is) (broken.a_timer number places has_default)))
        (λ value among. stands.sent output at value among)
    sent-as destination output at (Some (signal number places)) is =
        let meaning : IsSignal context.scope output.name = record { number = number; places = places; meant = is } in
        each-both (BreaksAction context (Output word outputs destination))
        (fault_if (is_lost context (has_destination destination) number) NoRoute output.name)
        (values_faults context output.name places output.values)
        (each-if (BreaksAction context (Output word outputs destination))
        (is_lost context (has_destination destination) number) NoRoute output.name
        (each-route output at meaning destination))
        (each-values (Output word outputs destination) output places
        (λ value among. stands.sent output at value among)
        (λ fault breaks. broken.sent_values output at meaning fault breaks))

    received-by : (destination : Destination) (name : Spot) → NamesAgent destination.value name →
        (found : Option AgentMeaning) → agent_in context.scope name.text ≡ found →
        Each (BreaksAction context (Output word outputs (Some destination))) (process_faults name found)
    received-by destination name names None is =
        (broken.no_receiver destination name names.is names.free (subst IsNoProcess (sym is) broken.no_agent), tt)
    received-by destination name names (Some (process number places)) is = tt
    received-by destination name names (Some block) is =
        (broken.no_receiver destination name names.is names.free (subst IsNoProcess (sym is) broken.a_block), tt)

    destined-to : (destination : Destination) (found : Option Spot) →
        agent_name context.scope destination.value ≡ found →
        Each (BreaksAction context (Output word outputs (Some destination)))
        (whither_faults context destination.value found)
    destined-to destination None is =
        let pid : IsPidPlace context.scope destination.value = pid-place destination.value is in
        each-of-sort (Output word outputs (Some destination)) the_sort.Pid destination.value
        (stands.destined destination pid) (λ misfit. broken.no_pid destination pid misfit)
    destined-to destination (Some name) is =
        received-by destination name (names-agent destination.value name is) (agent_in context.scope name.text) refl

    each-destination : (destination : Option Destination) →
        Each (BreaksAction context (Output word outputs destination)) (destination_faults context destination)
    each-destination None = tt
    each-destination (Some destination) =
        destined-to destination (agent_name context.scope destination.value) refl

    each-output : (destination : Option Destination) →
        Each (BreaksAction context (Output word outputs destination)) (output_faults context outputs destination)
    each-output destination =
        each-both (BreaksAction context (Output word outputs destination))
        (flat_map (sending_faults context (has_destination destination)) outputs)
        (destination_faults context destination)
        (each-of (BreaksAction context (Output word outputs destination))
        (sending_faults context (has_destination destination)) outputs
        (λ output at. sent-as destination output at (signal_in context.scope output.name.text) refl))
        (each-destination destination)

  -- ---- set and reset

  timed-as : (action : Action) (applied : Applied) →
      (IsNoTimer (signal_in context.scope applied.name.text) →
      BreaksAction context action (diagnostic_at Unknown applied.name)) →
      ((value : Expr) → In value applied.values → IsAskedBy context.scope action value) →
      ((meaning : TimerMeaning context.scope applied.name) (fault : Diagnostic) →
      BreaksValues context applied meaning.places fault → BreaksAction context action fault) →
      (found : Option SignalMeaning) → signal_in context.scope applied.name.text ≡ found →
      Each (BreaksAction context action) (timed_faults context applied.name applied.values found)
  timed-as action applied unknown asked breaks None is =
      each-unknown action applied (unknown (subst IsNoTimer (sym is) sorted.nothing)) asked
  timed-as action applied unknown asked breaks (Some (signal number places)) is =
      each-unknown action applied (unknown (subst IsNoTimer (sym is) (sorted.a_signal number places))) asked
  timed-as action applied unknown asked breaks (Some (timer number places has_default)) is =
      each-values action applied places asked
      (breaks (record { number = number; places = places; has_default = has_default; meant = is }))

  module _ (word : Spelling) (clauses : List SetClause) where
    each-time : (clause : SetClause) → In clause clauses → (time : Option Expr) → clause.time ≡ time →
        Each (BreaksAction context (Set word clauses)) (time_faults context time)
    each-time clause at None is = tt
    each-time clause at (Some time) is =
        each-of-sort (Set word clauses) the_sort.Time time (stands.due clause at time is)
        (λ misfit. broken.no_time clause at time is misfit)

    lacking : (clause : SetClause) → In clause clauses → clause.time ≡ None → (found : Option SignalMeaning) →
        signal_in context.scope clause.timer.name.text ≡ found →
        Each (BreaksAction context (Set word clauses)) (fault_if (lacks_default found) Sort clause.timer.name)
    lacking clause at none None is = tt
    lacking clause at none (Some (signal number places)) is = tt
    lacking clause at none (Some (timer number places has_default)) is =
        each-if (BreaksAction context (Set word clauses)) (not has_default) Sort clause.timer.name (λ isnt.
        broken.no_default clause at none number places
        (is ∙ ap (λ b. Some (timer number places b)) (not-true has_default isnt)))

    each-default : (clause : SetClause) → In clause clauses → (time : Option Expr) → clause.time ≡ time →
        Each (BreaksAction context (Set word clauses)) (default_faults context clause.timer.name time)
    each-default clause at None is = lacking clause at is (signal_in context.scope clause.timer.name.text) refl
    each-default clause at (Some time) is = tt

    each-timer : (clause : SetClause) → In clause clauses →
        Each (BreaksAction context (Set word clauses)) (timing_faults context clause.timer)
    each-timer clause at =
        timed-as (Set word clauses) clause.timer (λ isnt. broken.no_timer clause at isnt)
        (λ value among. stands.of_timer clause at value among)
        (λ meaning fault breaks. broken.set_values clause at meaning fault breaks)
        (signal_in context.scope clause.timer.name.text) refl

    each-clause : (clause : SetClause) → In clause clauses →
        Each (BreaksAction context (Set word clauses)) (setting_faults context clause)
    each-clause clause at =
        each-both (BreaksAction context (Set word clauses)) (time_faults context clause.time)
        (default_faults context clause.timer.name clause.time ++ timing_faults context clause.timer)
        (each-time clause at clause.time refl)
        (each-both (BreaksAction context (Set word clauses)) (default_faults context clause.timer.name clause.time)
        (timing_faults context clause.timer) (each-default clause at clause.time refl) (each-timer clause at))

    each-set : Each (BreaksAction context (Set word clauses)) (action_faults context (Set word clauses))
    each-set = each-of (BreaksAction context (Set word clauses)) (setting_faults context) clauses each-clause

  module _ (word : Spelling) (groups : List (List Applied)) where
    each-timing : (group : List Applied) → In group groups → (reset : Applied) → In reset group →
        Each (BreaksAction context (Reset word groups)) (timing_faults context reset)
    each-timing group at reset among =
        timed-as (Reset word groups) reset (λ isnt. broken.no_reset group at reset among isnt)
        (λ value within. stands.of_reset group at reset among value within)
        (λ meaning fault breaks. broken.reset_values group at reset among meaning fault breaks)
        (signal_in context.scope reset.name.text) refl

    each-reset : Each (BreaksAction context (Reset word groups)) (action_faults context (Reset word groups))
    each-reset =
        each-of (BreaksAction context (Reset word groups)) (flat_map (timing_faults context)) groups (λ group at.
        each-of (BreaksAction context (Reset word groups)) (timing_faults context) group (each-timing group at))

  -- ---- create

  created-as : (word : Spelling) (created : Applied) (found : Option AgentMeaning) →
      agent_in context.scope created.name.text ≡ found →
      Each (BreaksAction context (Create word created)) (created_faults context created.name created.values found)
  created-as word created None is =
      each-unknown (Create word created) created (broken.no_process (subst IsNoProcess (sym is) broken.no_agent))
      (λ value among. stands.handed value among)
  created-as word created (Some block) is =
      each-unknown (Create word created) created (broken.no_process (subst IsNoProcess (sym is) broken.a_block))
      (λ value among. stands.handed value among)
  created-as word created (Some (process number places)) is =
      let meaning : IsProcess context.scope created.name = record { number = number; places = places; meant = is } in
      each-values (Create word created) created places (λ value among. stands.handed value among)
      (λ fault breaks. broken.created_values meaning fault breaks)

  -- ---- terminators

  each-terminator : (terminator : Terminator) →
      Each (BreaksTerminator context terminator) (terminator_faults context terminator)
  each-terminator (Next word (Same dash)) = tt
  each-terminator (Next word (To state)) =
      each-if (BreaksTerminator context (Next word (To state))) (is_none (state_in context state.text)) NoState state
      (λ none. broken.no_state word state (none-is (state_in context state.text) none))
  each-terminator (Stop word) = tt
  each-terminator (Join word label) =
      each-if (BreaksTerminator context (Join word label)) (is_none (label_in context label.text)) NoLabel label
      (λ none. broken.no_label word label (none-is (label_in context label.text) none))

  -- ---- whole transitions

  module _ (whole : Transition) where
    of-action : (action : Action) → StandsIn whole action → (faults : List Diagnostic) →
        Each (BreaksAction context action) faults → Each (IsBroken context whole) faults
    of-action action stand faults each =
        each-weaker (BreaksAction context action) (IsBroken context whole) faults
        (λ fault breaks. broken.in_action action stand fault breaks) each

    of-ending : (actions : Actions) (ending : Option Ending) → Within whole (Steps actions ending) →
        Each (IsBroken context whole) (ending_faults context ending)
    of-ending actions None within = tt
    of-ending actions (Some ending) within =
        each-weaker (BreaksTerminator context ending.terminator) (IsBroken context whole)
        (terminator_faults context ending.terminator)
        (λ fault breaks. broken.in_terminator ending.terminator
        (record { actions = actions; ending = ending; within = within; is = refl }) fault breaks)
        (each-terminator ending.terminator)

    of-answers : (word : Spelling) (question : Expr) (parts : Parts) (otherwise : Otherwise) →
        StandsIn whole (Decision word question parts otherwise) → (part : Part) → In part (parts_in parts) →
        Each (IsBroken context whole) (answers_faults context (kind_in (asked_in context question)) part.answers)
    of-answers word question parts otherwise stand part at =
        let action : Action = Decision word question parts otherwise in
        let asked : Option OperandSort = kind_in (asked_in context question) in
        of-action action stand (answers_faults context asked part.answers)
        (each-of (BreaksAction context action) (answer_faults context.scope asked) part.answers (λ said among.
        each-weaker (BreaksAnswer context.scope asked said) (BreaksAction context action)
        (answer_faults context.scope asked said)
        (λ fault breaks. broken.answer part at said among fault breaks) (listed-answer context.scope asked said)))

    part-within : (action : Action) (part : Transition) → StandsIn whole action → IsPart part action → Within whole part
    part-within action part stand is =
        stands.in_decision stand.statement stand.within stand.among
        (subst (λ a. IsPart part a) (sym stand.is) is)

    mutual
      of-transition : (t : Transition) → Within whole t → Each (IsBroken context whole) (transition_faults context t)
      of-transition (Steps actions ending) within =
          each-both (IsBroken context whole) (steps_faults context actions) (ending_faults context ending)
          (of-steps actions (λ statement among. record {
            actions = actions;
            ending = ending;
            within = within;
            statement = statement;
            among = among;
            is = refl;
          }))
          (of-ending actions ending within)

      of-steps : (actions : Actions) →
          ((statement : Statement) → In statement (statements_in actions) → StandsIn whole statement.action) →
          Each (IsBroken context whole) (steps_faults context actions)
      of-steps NoAction stand = tt
      of-steps (AndAction label first rest) stand =
          each-both (IsBroken context whole) (action_faults context first) (steps_faults context rest)
          (of-one first (stand (record { label = label; action = first }) (inl refl)))
          (of-steps rest (λ statement among. stand statement (inr among)))

      of-one : (action : Action) → StandsIn whole action → Each (IsBroken context whole) (action_faults context action)
      of-one (Task word assignments) stand =
          of-action (Task word assignments) stand (action_faults context (Task word assignments))
          (each-task word assignments)
      of-one (Output word outputs destination) stand =
          of-action (Output word outputs destination) stand (output_faults context outputs destination)
          (each-output word outputs destination)
      of-one (Set word clauses) stand =
          of-action (Set word clauses) stand (action_faults context (Set word clauses)) (each-set word clauses)
      of-one (Reset word groups) stand =
          of-action (Reset word groups) stand (action_faults context (Reset word groups)) (each-reset word groups)
      of-one (Create word created) stand =
          of-action (Create word created) stand (create_faults context created)
          (created-as word created (agent_in context.scope created.name.text) refl)
      of-one (Decision word question parts otherwise) stand =
          let asked : Option OperandSort = kind_in (asked_in context question) in
          each-both (IsBroken context whole) (asked_faults context question)
          (parts_faults context asked parts ++ other_faults context otherwise)
          (of-action (Decision word question parts otherwise) stand (asked_faults context question)
          (each-asked (Decision word question parts otherwise) question (stands.question question)))
          (each-both (IsBroken context whole) (parts_faults context asked parts) (other_faults context otherwise)
          (of-parts asked parts (λ part at. of-answers word question parts otherwise stand part at)
          (λ part at. part-within (Decision word question parts otherwise) part.transition stand
          (stands.behind_answers part at)))
          (of-other otherwise (λ other is. part-within (Decision word question parts otherwise) other stand
          (subst (λ o. IsPart other (Decision word question parts o)) (sym is) (stands.behind_else other)))))

      of-parts : (asked : Option OperandSort) (parts : Parts) →
          ((part : Part) → In part (parts_in parts) →
          Each (IsBroken context whole) (answers_faults context asked part.answers)) →
          ((part : Part) → In part (parts_in parts) → Within whole part.transition) →
          Each (IsBroken context whole) (parts_faults context asked parts)
      of-parts asked NoPart said within = tt
      of-parts asked (AndPart answers transition rest) said within =
          let part : Part = record { answers = answers; transition = transition } in
          each-both (IsBroken context whole)
          (answers_faults context asked answers ++ transition_faults context transition)
          (parts_faults context asked rest)
          (each-both (IsBroken context whole) (answers_faults context asked answers)
          (transition_faults context transition) (said part (inl refl))
          (of-transition transition (within part (inl refl))))
          (of-parts asked rest (λ p at. said p (inr at)) (λ p at. within p (inr at)))

      of-other : (otherwise : Otherwise) → ((other : Transition) → otherwise ≡ Else other → Within whole other) →
          Each (IsBroken context whole) (other_faults context otherwise)
      of-other NoElse within = tt
      of-other (Else other) within = of-transition other (within other refl)

pub listed-broken : (context : Context) (transition : Transition) →
    Each (IsBroken context transition) (transition_faults context transition)
listed-broken context transition = of-transition context transition transition stands.itself
