-- The first deed of a step: the start, what a take gives, a continuous signal, or a failure in a state.
use Rattle.std.proofs.Common.{◌≡◌, ◌∙◌, sym, ap, subst, refl, ℕ, ◌≤◌, true, false, List, [], ◌∷◌, Some, slice_get}
use Rattle.port_model.specs.Calls.{HasDrawn, after_draws, after_stop}
use Rattle.port_model.specs.History.{PortEvent, Stop, Take}
use Rattle.port_model.specs.Port.{PortState}
use Rattle.port_model.specs.Take.{name_of}
use Rattle.port_model.specs.declared.got.Got.{Got}
use Rattle.port_model.specs.declared.selection.Class.{Class}
use Rattle.port_model.specs.declared.taken.Taken.{Taken}
use Rattle.port_model.specs.declared.taken.Taken.TheVariants.{Consumed, Discarded, Nothing}
use Rattle.run_record.specs.Environment.{Environment, environment}
use Rattle.run_record.specs.declared.evaluation.identity.Identity.{Identity}
use Rattle.run_record.specs.declared.evaluation.store.Store.{Store}
use Rattle.sdl_interp.specs.Selected.{CannotSelect}
use Rattle.sdl_interp.specs.Stimulus.{AnswersWrong, Took}
use Rattle.run_record.specs.Event as event
use Rattle.run_record.specs.Event.{Event, is_beginning, values_got}
use Rattle.run_record.specs.declared.failure.Failure.{Failure}
use Rattle.run_record.specs.declared.failure.Failure.TheVariants.{Memory}
use Rattle.run_semantics.proofs.Goes.{IsOneStep-first, goes_deed, goes_drawn_stopped, goes_stopped, goes_taken, goes_taken_stopped, goes_until}
use Rattle.run_semantics.proofs.Same.{fails_drawn, selecting_drawn, tried_drawn}
use Rattle.run_semantics.specs.Effect.{Deed}
use Rattle.run_semantics.specs.Fails.{FailsIn, HasGiven, of_event, of_take}
use Rattle.run_semantics.specs.Goes.{Goes, IsFirst, IsOneStep, MachineValue, with_event}
use Rattle.run_semantics.specs.Leads.{Consumes, ConsumesPriority, Discards, FailsHere, Happens, Provides, Selecting}
use Rattle.run_semantics.specs.ControlPoint.{AtStart, Definition, Doing, Ended, In, ControlPoint, Receiving}
use Rattle.run_semantics.specs.Reception.{Inputs, IsPriorityInput, provided, receiving, taking}
use Rattle.run_semantics.specs.Selection.{begins, tried}
use Rattle.run_semantics.specs.World.{IsReading, IsTrueOfOne, WorldValue, time_after_one}
use Rattle.sdl_system.specs.Behaviour.{StateMeaning, response_to}
use Rattle.sdl_system.specs.Body.{Body}
use Rattle.sdl_system.specs.declared.id.StateId.{StateId}
use Rattle.sdl_system.specs.declared.id.VariableId.{VariableId}
use Rattle.std.specs.Prelude.{Option, None}

module _ (d : Definition) where
  -- ---- the start

  pub starts : (at : ℕ) (first : Body) (m n : MachineValue) (w v : WorldValue)
      → slice_get d.behaviour.bodies d.behaviour.start ≡ Some first → m.store.time ≤ at
      → IsReading w m.store.time at
      → n ≡ with_event (record m { store = record m.store { time = at; done = 0 } }) (event.Start at) → v ≡ w
      → Goes (IsOneStep true) d AtStart m w (Doing None first) n v
  starts at first m n w v begun later reading is quiet =
      let deed : Deed = record { event = event.Start at; calls = []; effects = [] } in
      let k : MachineValue = record m { store = record m.store { time = at; done = 0 } } in
      goes_until d (IsOneStep true) AtStart (Doing None first) m (with_event k deed.event) n w w v is quiet
      (goes_deed d (IsOneStep true) AtStart (Doing None first) m k w deed (IsOneStep-first true deed tt refl) refl refl
      refl refl refl refl refl refl reading (refl, refl, later, refl, (first, begun, refl)) refl
      (λ seen. absurd seen) (λ all. all))

  -- ---- what a take gives

  module _ (state : StateId) (m k : MachineValue) (w : WorldValue) (classes : List Class) (reply : Taken)
      (took : Took d state m k classes reply) where
    later_than : (at : ℕ) → k.store.time ≤ at → m.store.time ≤ at
    later_than at later = subst (λ (s : Store). s.time ≤ at) took.store later

    reading_of : (at : ℕ) → IsReading w k.store.time at → IsReading w m.store.time at
    reading_of at reading = subst (λ (s : Store). IsReading w s.time at) took.store reading

    -- the port from which it takes
    abbrev drawn : PortState
    drawn = after_draws m.owner.pid m.owner.state took.takes.news

    abbrev selecting_there : Selecting d m.who drawn state m.store classes
    selecting_there =
        selecting_drawn d m.who m.owner.state state m.store classes m.owner.pid took.takes.news took.selecting

    begins_taken : (to : ControlPoint) (n : MachineValue) (v : WorldValue) (happened : Event) (s : Store)
        → IsFirst happened
        → is_beginning happened ≡ true → s.time ≡ time_after_one m.store.time happened
        → IsTrueOfOne d.system m.who w m.store.time happened
        → Happens d m.who drawn (In state) m.store happened (Take classes reply ∷ []) [] to s
        → n ≡ with_event (record k { store = s }) happened → v ≡ w
        → Goes (IsOneStep true) d (In state) m w to n v
    begins_taken to n v happened s first counts time is_true leads is quiet =
        let deed : Deed = record { event = happened; calls = Take classes reply ∷ []; effects = [] } in
        let x : MachineValue = record k { store = s } in
        goes_until d (IsOneStep true) (In state) to m (with_event x happened) n w w v is quiet
        (goes_taken d true state to m x w deed classes reply took.takes took.alive refl first counts took.who
        took.events time is_true leads)

    -- a failure after it
    pub fails_taken : (why : Failure)
        → FailsIn d.behaviour took.selecting.state (environment d.system m.who m.store m.owner.state)
        (Take classes reply ∷ Stop ∷ []) why
        → AnswersWrong d state m w k w why
    fails_taken why fails n then =
        let at : ℕ = then.at in
        let calls : List PortEvent = Take classes reply ∷ Stop ∷ [] in
        let deed : Deed = record { event = event.FailedAt at why; calls = calls; effects = [] } in
        let x : MachineValue = record k { store = record k.store { time = at } } in
        let here : FailsHere d m.who drawn state m.store at why calls Ended x.store = record {
          state = took.selecting.state;
          is = took.selecting.is;
          fails = fails_drawn d m.who m.owner.state took.selecting.state m.store calls why m.owner.pid took.takes.news
              fails;
          time = later_than at then.later;
          place = refl;
          store = ap (λ (s : Store). record s { time = at }) took.store;
        } in
        goes_until d (IsOneStep false) (In state) Ended m
        (with_event (record x { owner = after_stop x.owner }) deed.event) n w w w then.is refl
        (goes_taken_stopped d false state Ended m x w deed classes reply took.takes took.alive refl tt refl took.who
        took.events refl (reading_of at then.reading) (refl, here))

  -- memory is refused to record what was taken
  pub fails_recorded : (state : StateId) (m k : MachineValue) (w : WorldValue) (classes : List Class) (reply : Taken)
      → Took d state m k classes reply → (l : MachineValue) (why : Failure) → HasGiven reply → l ≡ k → why ≡ Memory
      → AnswersWrong d state m w l w why
  fails_recorded state m k w classes reply took l why given same memory =
      let s : StateMeaning = took.selecting.state in
      let here : Environment = environment d.system m.who m.store m.owner.state in
      subst (λ (x : MachineValue). AnswersWrong d state m w x w why) (sym same)
      (fails_taken state m k w classes reply took why
      (subst (λ (x : Failure). FailsIn d.behaviour s here (Take classes reply ∷ Stop ∷ []) x) (sym memory)
      (of_event classes reply took.selecting.selects given)))

  module _ (state : StateId) (m k : MachineValue) (w : WorldValue) (classes : List Class) (got : Got) where
    -- it is discarded
    pub discards : (took : Took d state m k classes (Discarded got)) (at : ℕ) (n : MachineValue) (v : WorldValue)
        → k.store.time ≤ at → IsReading w k.store.time at
        → n ≡ with_event (record k { store = taking k.who at got k.store }) (event.Discarded at got) → v ≡ w
        → Goes (IsOneStep true) d (In state) m w (In state) n v
    discards took at n v later reading is quiet =
        let s : Store = taking k.who at got k.store in
        let q : PortState = drawn state m k w classes (Discarded got) took in
        let here : Discards d m.who q state m.store at got (Take classes (Discarded got) ∷ []) (In state) s = record {
          classes = classes;
          selecting = selecting_there state m k w classes (Discarded got) took;
          calls_are = refl;
          time = later_than state m k w classes (Discarded got) took at later;
          place = refl;
          store = ap (λ (who : Identity). taking who at got k.store) took.who
              ∙ ap (λ (x : Store). taking m.who at got x) took.store;
        } in
        begins_taken state m k w classes (Discarded got) took (In state) n v (event.Discarded at got) s tt refl refl
        (reading_of state m k w classes (Discarded got) took at reading) (refl, here) is quiet

    -- an input takes it
    pub consumes : (took : Took d state m k classes (Consumed got)) (at : ℕ) (variables : List (Option VariableId))
        (next : Body) (n : MachineValue) (v : WorldValue)
        → Inputs d.behaviour (response_to d.behaviour took.selecting.state (name_of got)) variables next
        → k.store.time ≤ at → IsReading w k.store.time at
        → n ≡ with_event (record k { store = receiving k.who at got k.store }) (event.Consumed at got) → v ≡ w
        → Goes (IsOneStep true) d (In state) m w (Receiving (Some state) variables (values_got got) next) n v
    consumes took at variables next n v inputs later reading is quiet =
        let s : Store = receiving k.who at got k.store in
        let q : PortState = drawn state m k w classes (Consumed got) took in
        let to : ControlPoint = Receiving (Some state) variables (values_got got) next in
        let here : Consumes d m.who q state m.store at got (Take classes (Consumed got) ∷ []) to s = record {
          classes = classes;
          selecting = selecting_there state m k w classes (Consumed got) took;
          variables = variables;
          next = next;
          inputs = inputs;
          calls_are = refl;
          time = later_than state m k w classes (Consumed got) took at later;
          place = refl;
          store = ap (λ (who : Identity). receiving who at got k.store) took.who
              ∙ ap (λ (x : Store). receiving m.who at got x) took.store;
        } in
        begins_taken state m k w classes (Consumed got) took to n v (event.Consumed at got) s tt refl refl
        (reading_of state m k w classes (Consumed got) took at reading) (refl, here) is quiet

    -- a priority input takes it
    pub consumes_first : (took : Took d state m k classes (Consumed got)) (at : ℕ)
        (variables : List (Option VariableId)) (next : Body) (n : MachineValue) (v : WorldValue)
        → IsPriorityInput d.behaviour (response_to d.behaviour took.selecting.state (name_of got)) variables next
        → k.store.time ≤ at → IsReading w k.store.time at
        → n ≡ with_event (record k { store = receiving k.who at got k.store }) (event.Prior at got) → v ≡ w
        → Goes (IsOneStep true) d (In state) m w (Receiving (Some state) variables (values_got got) next) n v
    consumes_first took at variables next n v inputs later reading is quiet =
        let s : Store = receiving k.who at got k.store in
        let q : PortState = drawn state m k w classes (Consumed got) took in
        let to : ControlPoint = Receiving (Some state) variables (values_got got) next in
        let here : ConsumesPriority d m.who q state m.store at got (Take classes (Consumed got) ∷ []) to s = record {
          classes = classes;
          selecting = selecting_there state m k w classes (Consumed got) took;
          variables = variables;
          next = next;
          inputs = inputs;
          calls_are = refl;
          time = later_than state m k w classes (Consumed got) took at later;
          place = refl;
          store = ap (λ (who : Identity). receiving who at got k.store) took.who
              ∙ ap (λ (x : Store). receiving m.who at got x) took.store;
        } in
        begins_taken state m k w classes (Consumed got) took to n v (event.Prior at got) s tt refl refl
        (reading_of state m k w classes (Consumed got) took at reading) (refl, here) is quiet

  module _ (state : StateId) (m k : MachineValue) (w : WorldValue) (classes : List Class)
      (took : Took d state m k classes Nothing) where
    -- nothing is taken, and a continuous signal begins
    pub provides : (at number begin : ℕ) (next : Body) (n : MachineValue) (v : WorldValue)
        → tried (environment d.system m.who m.store m.owner.state) took.selecting.state.continuous ≡ begins number begin
        → slice_get d.behaviour.bodies begin ≡ Some next → k.store.time ≤ at → IsReading w k.store.time at
        → n ≡ with_event (record k { store = provided k.who at k.store }) (event.Provided at number) → v ≡ w
        → Goes (IsOneStep true) d (In state) m w (Doing (Some state) next) n v
    provides at number begin next n v tries listed later reading is quiet =
        let s : Store = provided k.who at k.store in
        let q : PortState = drawn state m k w classes Nothing took in
        let to : ControlPoint = Doing (Some state) next in
        let here : Provides d m.who q state m.store at number (Take classes Nothing ∷ []) to s = record {
          classes = classes;
          selecting = selecting_there state m k w classes Nothing took;
          begin = begin;
          next = next;
          tries = sym (tried_drawn d m.who m.owner.state m.store took.selecting.state.continuous m.owner.pid
              took.takes.news) ∙ tries;
          listed = listed;
          calls_are = refl;
          time = later_than state m k w classes Nothing took at later;
          place = refl;
          store = ap (λ (who : Identity). provided who at k.store) took.who
              ∙ ap (λ (x : Store). provided m.who at x) took.store;
        } in
        begins_taken state m k w classes Nothing took to n v (event.Provided at number) s tt refl refl
        (reading_of state m k w classes Nothing took at reading) (refl, here) is quiet

  -- ---- failures before a take

  -- nothing is asked of the port
  pub fails_unselected : (state : StateId) (m : MachineValue) (w : WorldValue) (why : Failure)
      → CannotSelect d m.who m.owner.state state m.store why → m.owner.state.alive ≡ true
      → AnswersWrong d state m w m w why
  fails_unselected state m w why cannot alive n then =
      let at : ℕ = then.at in
      let deed : Deed = record { event = event.FailedAt at why; calls = Stop ∷ []; effects = [] } in
      let x : MachineValue = record m { store = record m.store { time = at } } in
      let here : FailsHere d m.who m.owner.state state m.store at why (Stop ∷ []) Ended x.store = record {
        state = cannot.state;
        is = cannot.is;
        fails = cannot.fails;
        time = then.later;
        place = refl;
        store = refl;
      } in
      goes_until d (IsOneStep false) (In state) Ended m
      (with_event (record x { owner = after_stop m.owner }) deed.event) n w w w then.is refl
      (goes_stopped d (IsOneStep false) (In state) Ended m x w deed (IsOneStep-first false deed tt refl) alive refl refl
      refl refl then.reading (refl, here))

  -- memory is refused where a state selects
  pub cannot_take : (who : Identity) (q : PortState) (state : StateId) (s : Store) (classes : List Class)
      → Selecting d who q state s classes → CannotSelect d who q state s Memory
  cannot_take who q state s classes selecting =
      record { state = selecting.state; is = selecting.is; fails = of_take }

  -- a take is refused, before which something may be drawn
  pub fails_refused : (state : StateId) (m k : MachineValue) (w : WorldValue) (classes : List Class)
      → Selecting d m.who m.owner.state state m.store classes → HasDrawn m.owner k.owner → m.owner.state.alive ≡ true
      → k.who ≡ m.who → k.store ≡ m.store → k.events ≡ m.events → AnswersWrong d state m w k w Memory
  fails_refused state m k w classes selecting draws alive who store events n then =
      let at : ℕ = then.at in
      let deed : Deed = record { event = event.FailedAt at Memory; calls = Stop ∷ []; effects = [] } in
      let q : PortState = after_draws m.owner.pid m.owner.state draws.0 in
      let x : MachineValue = record k { store = record k.store { time = at } } in
      let here : FailsHere d m.who q state m.store at Memory (Stop ∷ []) Ended x.store = record {
        state = selecting.state;
        is = selecting.is;
        fails = of_take;
        time = subst (λ (s : Store). s.time ≤ at) store then.later;
        place = refl;
        store = ap (λ (s : Store). record s { time = at }) store;
      } in
      goes_until d (IsOneStep false) (In state) Ended m
      (with_event (record x { owner = after_stop x.owner }) deed.event) n w w w then.is refl
      (goes_drawn_stopped d false state Ended m x w deed draws.0 draws.1 alive refl tt refl who events refl
      (subst (λ (s : Store). IsReading w s.time at) store then.reading) (refl, here))
