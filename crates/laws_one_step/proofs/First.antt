-- What begins a step can go one way only.
use Rattle.std.proofs.Common.{◌≡◌, ◌∙◌, ℕ, false, List, [], ◌∷◌, None, Some, Option, ap, refl, slice_get, subst, sym}
use Rattle.std.proofs.lemmas.Option.{none-some, same_Some}
use Rattle.port_model.specs.History.{IsLegal, PortEvent, PortStep, Take}
use Rattle.port_model.specs.Port.{PortState, stopped}
use Rattle.port_model.specs.Take.{Takes, name_of}
use Rattle.port_model.specs.declared.got.Got.{Got}
use Rattle.port_model.specs.declared.values.item.SignalId.{SignalId}
use Rattle.port_model.specs.declared.selection.Class.{Class}
use Rattle.port_model.specs.declared.taken.Taken.{Taken}
use Rattle.port_model.specs.declared.taken.Taken.TheVariants.{Consumed, Discarded, Nothing}
use Rattle.port_model.specs.Selection.{class_of}
use Rattle.run_record.specs.Environment.{environment}
use Rattle.run_record.specs.declared.evaluation.store.Store.{Store}
use Rattle.run_record.specs.Event as event
use Rattle.run_record.specs.Event.{Event, values_got}
use Rattle.run_record.specs.declared.failure.Failure.{Failure}
use Rattle.run_semantics.specs.Effect.{Effect}
use Rattle.run_semantics.specs.Fails.{FailsIn, of_condition, of_continuous, of_event, of_take, of_trying}
use Rattle.run_semantics.specs.Goes.{IsFirst}
use Rattle.run_semantics.specs.Leads.{Consumes, ConsumesPriority, Discards, FailsHere, Happens, Provides}
use Rattle.run_semantics.specs.ControlPoint as place
use Rattle.run_semantics.specs.ControlPoint.{ControlPoint}
use Rattle.run_semantics.specs.Reception.{provided, taking}
use Rattle.run_semantics.specs.Reception as reception
use Rattle.run_semantics.specs.Selection.{Selects, Tried, begins, class_by, fails, first_failure, none_true, tried}
use Rattle.sdl_system.specs.Behaviour.{Response, StateMeaning, input, priority_input, response_to}
use Rattle.sdl_system.specs.Body.{Body}
use Rattle.sdl_system.specs.Table.{Has, IsTableOf}
use Rattle.sdl_system.specs.declared.id.StateId.{StateId}
use Rattle.laws_one_step.proofs.Inner.{did_same, no_calls, one_call}
use Rattle.laws_one_step.proofs.Next.{Frame, IsAt, Next, Site, at_state, did, doing, is_doing, is_over, is_receiving, is_state, nothing, over, receiving}
use Rattle.laws_one_step.proofs.Takes.{takes_one, takes_so}
use Rattle.laws_one_step.specs.Unique.{IsBetween, LacksNothing, is_want}

-- ---- what begins

abbrev pub failing_at : Store → PortState → ℕ → Failure → Next
failing_at s r at why = did (event.FailedAt at why) [] over (record s { time = at }) (stopped r)

-- what a state does with what it takes
abbrev pub replying : Frame → Store → ℕ → StateId → Got → PortState → Option Response → Next
replying f s at n got r (Some (input variables condition number)) =
    did (event.Consumed at got) []
    (receiving (Some n) variables (values_got got) (slice_get f.entries number)) (reception.receiving f.who at got s) r
replying f s at n got r (Some (priority_input variables number)) =
    did (event.Prior at got) []
    (receiving (Some n) variables (values_got got) (slice_get f.entries number)) (reception.receiving f.who at got s) r
replying f s at n got r response = nothing

-- what it does where it takes nothing
abbrev pub trying : Frame → Store → ℕ → StateId → PortState → Tried → Next
trying f s at n r (begins number first) =
    did (event.Provided at number) [] (doing (Some n) (slice_get f.entries first)) (provided f.who at s) r
trying f s at n r (fails why) = failing_at s r at why
trying f s at n r none_true = nothing

abbrev pub reacting : Frame → Store → PortState → ℕ → StateId → StateMeaning → Taken → PortState → Next
reacting f s q at n state (Consumed got) r =
    replying f s at n got r (response_to f.d.behaviour state (name_of got))
reacting f s q at n state (Discarded got) r =
    did (event.Discarded at got) [] (at_state n) (taking f.who at got s) r
reacting f s q at n state Nothing r =
    trying f s at n r (tried (environment f.d.system f.who s q) state.continuous)

-- a condition of the state fails, or what is taken decides
pub data Begins (f : Frame) (s : Store) (q : PortState) (at : ℕ) (n : StateId) : Next → Type 0 where
  by_condition : (state : StateMeaning) (why : Failure) → slice_get f.d.behaviour.states n.0 ≡ Some state
      → first_failure (environment f.d.system f.who s q) state.enabling ≡ Some why
      → Begins f s q at n (failing_at s q at why)
  by_take : (state : StateMeaning) (classes : List Class) (taken : Taken) (r : PortState)
      → slice_get f.d.behaviour.states n.0 ≡ Some state
      → Selects f.d.behaviour state (environment f.d.system f.who s q) classes → Takes classes q taken r
      → Begins f s q at n (reacting f s q at n state taken r)

module _ (f : Frame) (s : Store) (q : PortState) (at : ℕ) (n : StateId) where
  one_state : (state other : StateMeaning) → slice_get f.d.behaviour.states n.0 ≡ Some state
      → slice_get f.d.behaviour.states n.0 ≡ Some other → state ≡ other
  one_state state other first second = same_Some state other (sym first ∙ second)

  -- where a condition fails there is no selection
  no_selection : (state other : StateMeaning) (why : Failure) (classes : List Class) → state ≡ other
      → first_failure (environment f.d.system f.who s q) state.enabling ≡ Some why
      → Selects f.d.behaviour other (environment f.d.system f.who s q) classes → ⊥
  no_selection state other why classes same missed selects =
      none-some why (sym selects.none_fails
      ∙ ap (λ (x : StateMeaning). first_failure (environment f.d.system f.who s q) x.enabling) (sym same) ∙ missed)

  one_take : (state other : StateMeaning) (classes others : List Class) (taken taken' : Taken) (r r' : PortState)
      → state ≡ other → Selects f.d.behaviour state (environment f.d.system f.who s q) classes
      → Selects f.d.behaviour other (environment f.d.system f.who s q) others → Takes classes q taken r
      → Takes others q taken' r'
      → reacting f s q at n state taken r ≡ reacting f s q at n other taken' r'
  one_take state other classes others taken taken' r r' same first second takes also =
      let names : (name : SignalId) → class_of others name ≡ class_of classes name =
      λ name. second.selects name
      ∙ ap (λ x. class_by (environment f.d.system f.who s q) (response_to f.d.behaviour x name)) (sym same)
      ∙ sym (first.selects name) in
      let both : (taken ≡ taken') × (r ≡ r') =
      takes_one classes q r r' taken taken' takes (takes_so others classes names q r' taken' also) in
      ap (λ x. reacting f s q at n x taken r) same
      ∙ ap (λ x. reacting f s q at n other x r) both.0
      ∙ ap (λ x. reacting f s q at n other taken' x) both.1

  pub begins_one : (x y : Next) → Begins f s q at n x → Begins f s q at n y → x ≡ y
  begins_one _ _ (by_condition state why listed missed) (by_condition other why' also missed') =
      let same : state ≡ other = one_state state other listed also in
      let cause : why ≡ why' = same_Some why why' (sym missed
      ∙ ap (λ (x : StateMeaning). first_failure (environment f.d.system f.who s q) x.enabling) same ∙ missed') in
      ap (λ x. failing_at s q at x) cause
  begins_one _ _ (by_condition state why listed missed) (by_take other classes taken r also selects takes) =
      absurd (no_selection state other why classes (one_state state other listed also) missed selects)
  begins_one _ _ (by_take other classes taken r also selects takes) (by_condition state why listed missed) =
      absurd (no_selection state other why classes (one_state state other listed also) missed selects)
  begins_one _ _ (by_take state classes taken r listed selects takes)
      (by_take other classes' taken' r' also selects' takes') =
      one_take state other classes classes' taken taken' r r' (one_state state other listed also) selects selects'
      takes takes'

-- ---- the first event

-- what begins a step from a place, at this time
abbrev pub First : Frame → Store → PortState → ℕ → ControlPoint → Next → Type 0
First f s q now place.AtStart x =
    x ≡ did (event.Start now) [] (doing None (slice_get f.entries f.d.behaviour.start))
    (record s { time = now; done = 0 }) q
First f s q now (place.In n) x = Begins f s q now n x
First f s q now at x = ⊥

pub first_one : (f : Frame) (s : Store) (q : PortState) (now : ℕ) (at : ControlPoint) (x y : Next) → First f s q now at x
    → First f s q now at y → x ≡ y
first_one f s q now place.AtStart x y first second = first ∙ sym second
first_one f s q now (place.In n) x y first second = begins_one f s q now n x y first second
first_one f s q now at x y first second = absurd first

-- the event begins a step, and leads to a place that is known
pub record FirstComes (f : Frame) (s : Store) (q : PortState) (now : ℕ) (at : ControlPoint) (happened : Event)
    (done : List Effect) (to : ControlPoint) (t : Store) (r : PortState) : Type 0 where
  pub after : Site
  pub at_site : IsAt f.nodes f.marks to after
  pub first : First f s q now at (did happened done after t r)

-- the time of an event that begins a step
abbrev pub IsAtTime : ℕ → Event → Type 0
IsAtTime time (event.Start at) = at ≡ time
IsAtTime time (event.Consumed at got) = at ≡ time
IsAtTime time (event.Prior at got) = at ≡ time
IsAtTime time (event.Discarded at got) = at ≡ time
IsAtTime time (event.Provided at number) = at ≡ time
IsAtTime time (event.FailedAt at why) = at ≡ time
IsAtTime time happened = Unit {0}

module _ (f : Frame) (table : IsTableOf f.d.behaviour.bodies f.entries f.nodes) (marks : table.marks ≡ f.marks) where
  -- a body stands at its entry
  entered : (number : ℕ) (whole : Body) → slice_get f.d.behaviour.bodies number ≡ Some whole
      → Has f.nodes f.marks (slice_get f.entries number) whole None
  entered number whole listed =
      let begins = table.begins number whole listed in
      subst (λ m. Has f.nodes m (slice_get f.entries number) whole None) marks
      (subst (λ p. Has f.nodes table.marks p whole None) (sym begins.listed) begins.stands.has)

  module _ (s : Store) (q : PortState) (calls : List PortEvent) (done : List Effect) (to : ControlPoint) (t : Store)
      (r : PortState) (legal : IsLegal q calls r) where
    started : (at : ℕ) → Happens f.d f.who q place.AtStart s (event.Start at) calls done to t
        → FirstComes f s q at place.AtStart (event.Start at) done to t r
    started at h =
        let site : Site = doing None (slice_get f.entries f.d.behaviour.start) in
        record {
          after = site;
          at_site = subst (λ p. IsAt f.nodes f.marks p site) (sym h.4.2)
              (is_doing None h.4.0 (slice_get f.entries f.d.behaviour.start)
              (entered f.d.behaviour.start h.4.0 h.4.1));
          first = sym (did_same (event.Start at) (event.Start at) [] done site (record s { time = at; done = 0 }) t q r
              refl h.1 h.3 (no_calls q r calls h.0 legal));
        }

    -- what was taken
    took : (classes : List Class) (taken : Taken) → calls ≡ Take classes taken ∷ [] → Takes classes q taken r
    took classes taken is =
        let step : PortStep q (Take classes taken) r = one_call q r calls (Take classes taken) is legal in step.1

    consumed : (n : StateId) (at : ℕ) (got : Got) → (done ≡ []) × Consumes f.d f.who q n s at got calls to t
        → FirstComes f s q at (place.In n) (event.Consumed at got) done to t r
    consumed n at got h =
        let c : Consumes f.d f.who q n s at got calls to t = h.1 in
        let spot = slice_get f.entries c.inputs.number in
        let site : Site = receiving (Some n) c.variables (values_got got) spot in
        record {
          after = site;
          at_site = subst (λ p. IsAt f.nodes f.marks p site) (sym c.place)
              (is_receiving (Some n) c.variables (values_got got) c.next spot
              (entered c.inputs.number c.next c.inputs.begins));
          first = subst (λ x. Begins f s q at n x)
              (ap (λ x. replying f s at n got r x) c.inputs.is
              ∙ did_same (event.Consumed at got) (event.Consumed at got) [] done site
              (reception.receiving f.who at got s) t r r refl h.0 c.store refl)
              (by_take c.selecting.state c.classes (Consumed got) r c.selecting.is c.selecting.selects
              (took c.classes (Consumed got) c.calls_are));
        }

    prior : (n : StateId) (at : ℕ) (got : Got) → (done ≡ []) × ConsumesPriority f.d f.who q n s at got calls to t
        → FirstComes f s q at (place.In n) (event.Prior at got) done to t r
    prior n at got h =
        let c : ConsumesPriority f.d f.who q n s at got calls to t = h.1 in
        let spot = slice_get f.entries c.inputs.number in
        let site : Site = receiving (Some n) c.variables (values_got got) spot in
        record {
          after = site;
          at_site = subst (λ p. IsAt f.nodes f.marks p site) (sym c.place)
              (is_receiving (Some n) c.variables (values_got got) c.next spot
              (entered c.inputs.number c.next c.inputs.begins));
          first = subst (λ x. Begins f s q at n x)
              (ap (λ x. replying f s at n got r x) c.inputs.is
              ∙ did_same (event.Prior at got) (event.Prior at got) [] done site
              (reception.receiving f.who at got s) t r r refl h.0 c.store refl)
              (by_take c.selecting.state c.classes (Consumed got) r c.selecting.is c.selecting.selects
              (took c.classes (Consumed got) c.calls_are));
        }

    discarded : (n : StateId) (at : ℕ) (got : Got) → (done ≡ []) × Discards f.d f.who q n s at got calls to t
        → FirstComes f s q at (place.In n) (event.Discarded at got) done to t r
    discarded n at got h =
        let c : Discards f.d f.who q n s at got calls to t = h.1 in
        record {
          after = at_state n;
          at_site = subst (λ p. IsAt f.nodes f.marks p (at_state n)) (sym c.place) (is_state n);
          first = subst (λ x. Begins f s q at n x)
              (did_same (event.Discarded at got) (event.Discarded at got) [] done (at_state n)
              (taking f.who at got s) t r r refl h.0 c.store refl)
              (by_take c.selecting.state c.classes (Discarded got) r c.selecting.is c.selecting.selects
              (took c.classes (Discarded got) c.calls_are));
        }

    provides : (n : StateId) (at number : ℕ) → (done ≡ []) × Provides f.d f.who q n s at number calls to t
        → FirstComes f s q at (place.In n) (event.Provided at number) done to t r
    provides n at number h =
        let c : Provides f.d f.who q n s at number calls to t = h.1 in
        let spot = slice_get f.entries c.begin in
        let site : Site = doing (Some n) spot in
        record {
          after = site;
          at_site = subst (λ p. IsAt f.nodes f.marks p site) (sym c.place)
              (is_doing (Some n) c.next spot (entered c.begin c.next c.listed));
          first = subst (λ x. Begins f s q at n x)
              (ap (λ x. trying f s at n r x) c.tries
              ∙ did_same (event.Provided at number) (event.Provided at number) [] done site (provided f.who at s) t r r
              refl h.0 c.store refl)
              (by_take c.selecting.state c.classes Nothing r c.selecting.is c.selecting.selects
              (took c.classes Nothing c.calls_are));
        }

    -- a failure in a state, by what failed
    failed_so : (n : StateId) (at : ℕ) (why : Failure) (state : StateMeaning) (own : List PortEvent)
        → is_want why ≡ false → slice_get f.d.behaviour.states n.0 ≡ Some state
        → FailsIn f.d.behaviour state (environment f.d.system f.who s q) own why → IsLegal q own r
        → Begins f s q at n (did (event.FailedAt at why) [] over (record s { time = at }) r)
    failed_so n at _ state _ lacks is (of_condition why missed) steps =
        let stopped_so : r ≡ stopped q = steps.2 ∙ steps.1.1 in
        subst (λ x. Begins f s q at n (did (event.FailedAt at why) [] over (record s { time = at }) x)) (sym stopped_so)
        (by_condition state why is missed)
    failed_so n at _ state _ lacks is of_take steps = let wrong : ⊥ = cc in absurd wrong
    failed_so n at _ state _ lacks is (of_event classes taken selects given) steps = let wrong : ⊥ = cc in absurd wrong
    failed_so n at _ state _ lacks is (of_continuous classes why selects tries) steps =
        let stopped_so : r ≡ stopped steps.0 = steps.2.2 ∙ steps.2.1.1 in
        subst (λ x. Begins f s q at n x)
        (ap (λ x. trying f s at n steps.0 x) tries
        ∙ ap (λ x. did (event.FailedAt at why) [] over (record s { time = at }) x) (sym stopped_so))
        (by_take state classes Nothing steps.0 is selects steps.1.1)
    failed_so n at _ state _ lacks is (of_trying classes selects wants) steps = let wrong : ⊥ = cc in absurd wrong

    failed_at : (n : StateId) (at : ℕ) (why : Failure) → is_want why ≡ false
        → (done ≡ []) × FailsHere f.d f.who q n s at why calls to t
        → FirstComes f s q at (place.In n) (event.FailedAt at why) done to t r
    failed_at n at why lacks h =
        let c : FailsHere f.d f.who q n s at why calls to t = h.1 in
        record {
          after = over;
          at_site = subst (λ p. IsAt f.nodes f.marks p over) (sym c.place) is_over;
          first = subst (λ x. Begins f s q at n x)
              (did_same (event.FailedAt at why) (event.FailedAt at why) [] done over (record s { time = at }) t r r refl
              h.0 c.store refl)
              (failed_so n at why c.state calls lacks c.is c.fails legal);
        }

    -- ---- whatever it is

    at_now : (from : ControlPoint) (at now : ℕ) (happened : Event) → at ≡ now → FirstComes f s q at from happened done to t r
        → FirstComes f s q now from happened done to t r
    at_now from at now happened is comes = subst (λ k. FirstComes f s q k from happened done to t r) is comes

    comes_in : (n : StateId) (now : ℕ) (happened : Event) → LacksNothing happened → IsFirst happened
        → IsAtTime now happened
        → Happens f.d f.who q (place.In n) s happened calls done to t
        → FirstComes f s q now (place.In n) happened done to t r
    comes_in n now (event.Consumed at got) lacks first is h =
        at_now (place.In n) at now (event.Consumed at got) is (consumed n at got h)
    comes_in n now (event.Prior at got) lacks first is h =
        at_now (place.In n) at now (event.Prior at got) is (prior n at got h)
    comes_in n now (event.Discarded at got) lacks first is h =
        at_now (place.In n) at now (event.Discarded at got) is (discarded n at got h)
    comes_in n now (event.Provided at number) lacks first is h =
        at_now (place.In n) at now (event.Provided at number) is (provides n at number h)
    comes_in n now (event.FailedAt at why) lacks first is h =
        at_now (place.In n) at now (event.FailedAt at why) is (failed_at n at why lacks h)
    comes_in n now (event.Start at) lacks first is h = absurd h
    comes_in n now happened lacks first is h = absurd first

    comes_at_start : (now : ℕ) (happened : Event) → IsFirst happened → IsAtTime now happened
        → Happens f.d f.who q place.AtStart s happened calls done to t
        → FirstComes f s q now place.AtStart happened done to t r
    comes_at_start now (event.Start at) first is h = at_now place.AtStart at now (event.Start at) is (started at h)
    comes_at_start now (event.Consumed at got) first is h = absurd h
    comes_at_start now (event.Prior at got) first is h = absurd h
    comes_at_start now (event.Discarded at got) first is h = absurd h
    comes_at_start now (event.Provided at number) first is h = absurd h
    comes_at_start now (event.FailedAt at why) first is h = absurd h
    comes_at_start now happened first is h = absurd first

    none_ended : (happened : Event) → IsFirst happened
        → Happens f.d f.who q place.Ended s happened calls done to t → ⊥
    none_ended (event.Start at) first h = h
    none_ended (event.Consumed at got) first h = h
    none_ended (event.Prior at got) first h = h
    none_ended (event.Discarded at got) first h = h
    none_ended (event.Provided at number) first h = h
    none_ended (event.FailedAt at why) first h = h
    none_ended happened first h = absurd first

    pub first_comes : (at : ControlPoint) → IsBetween at → (now : ℕ) (happened : Event) → LacksNothing happened
        → IsFirst happened → IsAtTime now happened → Happens f.d f.who q at s happened calls done to t
        → FirstComes f s q now at happened done to t r
    first_comes place.AtStart between now happened lacks first is h = comes_at_start now happened first is h
    first_comes (place.In n) between now happened lacks first is h = comes_in n now happened lacks first is h
    first_comes place.Ended between now happened lacks first is h = absurd (none_ended happened first h)
    first_comes at between now happened lacks first is h = absurd between
