-- What is done with what a take gave.
use Rattle.std.proofs.Common.{◌≡◌, ◌⊎◌, inl, inr, ◌∙◌, sym, ap, subst, ℕ, ◌≤◌, true, List, ◌∷◌, [], None, Some}
use Rattle.std.specs.List.{AllZip, list_any}
use Rattle.port_model.specs.History.{Stop, Take}
use Rattle.port_model.specs.Port.{PortState}
use Rattle.port_model.specs.Take.{name_of}
use Rattle.port_model.specs.declared.got.Got.{Got}
use Rattle.port_model.specs.declared.selection.Class.{Class}
use Rattle.port_model.specs.declared.taken.Taken.TheVariants.{Consumed, Nothing}
use Rattle.run_record.specs.Environment.{Environment, environment}
use Rattle.run_record.specs.Memory.{wants_memory}
use Rattle.run_record.specs.declared.evaluation.identity.Identity.{Identity}
use Rattle.run_record.specs.declared.evaluation.store.Store.{Store}
use Rattle.sdl_interp.proofs.Bodies.{input_begins, priority_begins, table_means, tried_none}
use Rattle.sdl_interp.proofs.First.{consumes, consumes_first, fails_taken}
use Rattle.sdl_interp.specs.Selected.{IsTried}
use Rattle.sdl_interp.specs.Stimulus.{Answers, AnswersWrong, BeginsWith, Took}
use Rattle.run_record.specs.Event as event
use Rattle.run_record.specs.Event.{values_got}
use Rattle.run_record.specs.declared.failure.Failure.{Failure}
use Rattle.run_record.specs.declared.failure.Failure.TheVariants.{Memory}
use Rattle.run_semantics.proofs.Goes.{step_on, waits_taken}
use Rattle.run_semantics.proofs.Same.{environment_drawn}
use Rattle.run_semantics.specs.Fails.{FailsIn, conditions_of, of_continuous, of_trying}
use Rattle.run_semantics.specs.Goes.{MachineValue, Waits, with_event}
use Rattle.run_semantics.specs.ControlPoint.{Definition, In, ControlPoint, Receiving}
use Rattle.run_semantics.specs.Reception.{receiving}
use Rattle.run_semantics.specs.Selection.{fails, tried}
use Rattle.run_semantics.specs.World.{IsReading, WorldValue}
use Rattle.sdl_interp.specs.Machine.{place_of}
use Rattle.sdl_interp.specs.Work.{IsOf}
use Rattle.sdl_interp.specs.declared.transitions.machine.Position.{Position}
use Rattle.sdl_system.specs.Behaviour.{ContinuousSignal, MeansContinuous}
use Rattle.sdl_system.specs.Process.{reaction_in, table_of}
use Rattle.sdl_system.specs.System.{SystemValue}
use Rattle.sdl_system.specs.declared.id.ConditionId.{ConditionId}
use Rattle.sdl_system.specs.declared.id.StateId.{StateId}
use Rattle.sdl_system.specs.declared.process.Process.{Process}
use Rattle.sdl_system.specs.declared.state.Continuous.{Continuous}
use Rattle.sdl_system.specs.declared.state.Reaction.TheVariants as react
use Rattle.sdl_system.specs.declared.state.Reception.{Reception}
use Rattle.sdl_system.specs.declared.state.StateTable.{StateTable}
use Rattle.std.specs.Prelude.{Option}

module _ (system : SystemValue) (process : Process) (d : Definition) (is : IsOf system process d) (state : StateId)
    (m l : MachineValue) (w : WorldValue) (classes : List Class) where
  -- ---- what is consumed

  module _ (got : Got) (took : Took d state m l classes (Consumed got)) (reception : Reception) (at : ℕ)
      (later : l.store.time ≤ at) (reading : IsReading w l.store.time at) (k n : MachineValue) (v u : WorldValue)
      (quiet : v ≡ w) (to : Position) (begins : BeginsWith system process state reception got k v to n u) where
    pub answers_input : (condition : Option ConditionId)
        → Some (react.Input reception condition) ≡ reaction_in process state (name_of got)
        → k ≡ with_event (record l { store = receiving l.who at got l.store }) (event.Consumed at got)
        → Answers d state m w (Some to) n u
    answers_input condition does recorded =
        let b = input_begins process d.behaviour is.behaves.means state took.selecting.state
        (name_of got) reception condition took.selecting.is (sym does) in
        let on : ControlPoint = Receiving (Some state) reception.variables.items (values_got got) b.next in
        step_on d true (In state) on (place_of to) m k n w v u
        (consumes d state m l w classes got took at reception.variables.items b.next k v b.inputs later reading recorded
        quiet)
        (begins d is b.next b.stands)

    pub answers_priority : Some (react.Priority reception) ≡ reaction_in process state (name_of got)
        → k ≡ with_event (record l { store = receiving l.who at got l.store }) (event.Prior at got)
        → Answers d state m w (Some to) n u
    answers_priority does recorded =
        let b = priority_begins process d.behaviour is.behaves.means state took.selecting.state
        (name_of got) reception took.selecting.is (sym does) in
        let on : ControlPoint = Receiving (Some state) reception.variables.items (values_got got) b.next in
        step_on d true (In state) on (place_of to) m k n w v u
        (consumes_first d state m l w classes got took at reception.variables.items b.next k v b.inputs later reading
        recorded quiet)
        (begins d is b.next b.stands)

  -- ---- where nothing is taken

  module _ (took : Took d state m l classes Nothing) where
    abbrev here : Environment
    here = environment d.system m.who m.store m.owner.state

    abbrev meant : List ContinuousSignal
    meant = took.selecting.state.continuous

    -- what the port drew changes nothing of it
    same_here : environment system l.who l.store l.owner.state ≡ here
    same_here =
        ap (λ (x : SystemValue). environment x l.who l.store l.owner.state) (sym is.system_is)
        ∙ ap (λ (who : Identity). environment d.system who l.store l.owner.state) took.who
        ∙ ap (λ (s : Store). environment d.system m.who s l.owner.state) took.store
        ∙ ap (λ (q : PortState). environment d.system m.who m.store q) took.takes.take.1
        ∙ environment_drawn d.system m.who m.store m.owner.pid m.owner.state took.takes.news

    same_work : l ≡ record m { owner = l.owner }
    same_work = λ i. record {
      who = took.who i;
      store = took.store i;
      owner = l.owner;
      events = took.events i;
    }

    -- no continuous signal is true
    pub waits_untried :
        IsTried is.behaves.means.entries None (tried (environment system l.who l.store l.owner.state) meant)
        → Waits d state m w l w
    waits_untried found =
        subst (λ (x : MachineValue). Waits d state m w x w) (sym same_work)
        (waits_taken d state m w l.owner classes took.takes took.alive took.selecting
        (tried_none is.behaves.means.entries (tried here meant)
        (subst (λ (x : Environment). IsTried is.behaves.means.entries None (tried x meant)) same_here found)))

    -- one is found
    pub found_here : (signal : Continuous)
        → IsTried is.behaves.means.entries (Some signal) (tried (environment system l.who l.store l.owner.state) meant)
        → IsTried is.behaves.means.entries (Some signal) (tried here meant)
    found_here signal found =
        subst (λ (x : Environment). IsTried is.behaves.means.entries (Some signal) (tried x meant)) same_here found

    -- one fails before, or memory is refused to try one
    fails_trying : (why : Failure)
        → (tried (environment system l.who l.store l.owner.state) meant ≡ fails why)
        ⊎ ((why ≡ Memory) × (list_any wants_memory (conditions_of meant) ≡ true))
        → FailsIn d.behaviour took.selecting.state here (Take classes Nothing ∷ Stop ∷ []) why
    fails_trying why (inl failed) =
        of_continuous classes why took.selecting.selects
        (ap (λ (x : Environment). tried x meant) (sym same_here) ∙ failed)
    fails_trying why (inr wants) =
        subst (λ (x : Failure).
        FailsIn d.behaviour took.selecting.state here (Take classes Nothing ∷ Stop ∷ []) x) (sym wants.0)
        (of_trying classes took.selecting.selects wants.1)

    pub answers_failure : (why : Failure)
        → (tried (environment system l.who l.store l.owner.state) meant ≡ fails why)
        ⊎ ((why ≡ Memory) × (list_any wants_memory (conditions_of meant) ≡ true))
        → AnswersWrong d state m w l w why
    answers_failure why cause =
        fails_taken d state m l w classes Nothing took why (fails_trying why cause)

    -- the continuous signals of the table are those of the state
    pub table_continues : (table : StateTable) → table_of process state ≡ Some table
        → AllZip (MeansContinuous process is.behaves.means.entries) table.continuous.items meant
    table_continues table listed =
        let means = table_means process d.behaviour is.behaves.means state table took.selecting.state listed
        took.selecting.is in
        means.continuous_is
