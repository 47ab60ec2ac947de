-- Variables keep values of their sorts.
use Rattle.std.proofs.Common.{◌≡◌, ◌∙◌, ◌⊎◌, ◌+◌, ◌++◌, ◌<◌, ℕ, zero, suc, true, List, [], ◌∷◌, Option, None, Some, Result, Ok, Err, IfSome, ap, arith, drop, get_or, inl, inr, length, map, option_map, refl, slice_get, slice_set, subst, sym}
use Rattle.std.proofs.lemmas.Bool.{cases_eq, cases_lt}
use Rattle.std.proofs.lemmas.List.{get_or-set_other, get_or-set_same, set_past}
use Rattle.std.proofs.lemmas.Option.{unwrap_or-slice_get}
use Rattle.std.specs.Option.{unwrap_or}
use Rattle.port_model.specs.History.{PortEvent}
use Rattle.port_model.specs.Port.{PortState}
use Rattle.port_model.specs.declared.values.value.Value.{Value}
use Rattle.run_record.specs.Environment.{Environment, environment}
use Rattle.run_record.specs.Value.{at_place, followed, narrowed, placed, value_of, values_of}
use Rattle.run_record.specs.Variables.{VariableList}
use Rattle.run_record.specs.declared.evaluation.identity.Identity.{Identity}
use Rattle.run_record.specs.declared.evaluation.store.Store.{Store}
use Rattle.run_record.specs.Event as event
use Rattle.run_record.specs.Event.{Event}
use Rattle.run_record.specs.declared.failure.Failure.{Failure}
use Rattle.run_semantics.specs.Effect.{Effect, Deed}
use Rattle.run_semantics.specs.Instance.{parameters_from}
use Rattle.run_semantics.specs.Leads.{Happens, LeadsSilently}
use Rattle.run_semantics.specs.ControlPoint.{Amid, AtStart, Closed, Definition, Doing, Ended, In, ControlPoint, Receiving}
use Rattle.run_semantics.specs.Reception.{assigned, sort_in}
use Rattle.run_semantics.specs.Runs.{Runs, acts, hears, still, turns, waits}
use Rattle.laws_sound_runs.specs.Sorts.{HaveSorts, RunsKeepSorts, StartsWithSorts, ValuesFitPlaces}
use Rattle.sdl_system.proofs.OperationLemmas.{takes_sort}
use Rattle.sdl_system.specs.Behaviour.{Behaviour, VariableMeaning}
use Rattle.sdl_system.specs.Body as body
use Rattle.sdl_system.specs.Sort.{as_sort, has_sort}
use Rattle.sdl_system.specs.Term.{Terms, and_term, no_term, terms_of}
use Rattle.sdl_system.specs.declared.id.VariableId.{VariableId}
use Rattle.sdl_system.specs.declared.sort.Sort.{Sort}

-- ---- a value at a place

narrowed-sorted : (sort : Sort) (there : Option Value) (v : Value) → IfSome there (λ x. has_sort sort x ≡ true) →
    narrowed there ≡ Ok v → has_sort sort v ≡ true
narrowed-sorted sort None v has is = absurd (let never : ⊥ = cc in never)
narrowed-sorted sort (Some x) v has is =
    let same : x ≡ v = cc in
    subst (λ (y : Value). has_sort sort y ≡ true) same has

placed-sorted : (sort : Sort) (w v : Value) → placed (Some sort) w ≡ Ok v → has_sort sort v ≡ true
placed-sorted sort w v is = narrowed-sorted sort (as_sort sort w) v (takes_sort sort w) is

at-sorted : (sort : Sort) (answer : Result Value Failure) (v : Value) → at_place (Some sort) answer ≡ Ok v →
    has_sort sort v ≡ true
at-sorted sort (Err why) v is = absurd (let never : ⊥ = cc in never)
at-sorted sort (Ok w) v is = placed-sorted sort w v is

-- ---- one more value

abbrev found_at : VariableList → ℕ → Option Value
found_at variables n = unwrap_or (slice_get variables n) None

some-value : (v w : Value) → Some v ≡ Some w → v ≡ w
some-value v w is = ap (λ o. unwrap_or o v) is

-- the value that was written, or one that was there
written : (variables : VariableList) (n m : ℕ) (v w : Value) → found_at (slice_set variables n (Some v)) m ≡ Some w →
    ((m ≡ n) × (v ≡ w)) ⊎ (found_at variables m ≡ Some w)
written variables n m v w is =
    elim (cases_eq m n) [
      | inl same ↦ elim (cases_lt n (length variables)) [
        | inl below ↦ inl (
          same,
          some-value v w
              (sym (get_or-set_same variables n (Some v) None below)
              ∙ ap (λ k. get_or (slice_set variables n (Some v)) k None) (sym same)
              ∙ sym (unwrap_or-slice_get (slice_set variables n (Some v)) m None) ∙ is),
        )
        | inr past ↦ inr (ap (λ list. found_at list m) (sym (set_past variables n (Some v) past)) ∙ is)
      ]
      | inr differ ↦ inr (unwrap_or-slice_get variables m None
          ∙ sym (get_or-set_other variables n m (Some v) None differ)
          ∙ sym (unwrap_or-slice_get (slice_set variables n (Some v)) m None) ∙ is)
    ]

module _ (p : Behaviour) where
  assigned-sorts : (number : VariableId) (v : Value) (s : Store) →
      ((one : VariableMeaning) → slice_get p.variables number.0 ≡ Some one → has_sort one.sort v ≡ true) →
      HaveSorts p s.variables → HaveSorts p (assigned number v s).variables
  assigned-sorts number v s fits have other one w listed found =
      elim (written s.variables number.0 other.0 v w found) [
        | inl new ↦ subst (λ (x : Value). has_sort one.sort x ≡ true) new.1
            (fits one (ap (slice_get p.variables) (sym new.0) ∙ listed))
        | inr old ↦ have other one w listed old
      ]

  same-sorts : (s t : Store) → t.variables ≡ s.variables → HaveSorts p s.variables → HaveSorts p t.variables
  same-sorts s t same have = subst (HaveSorts p) (sym same) have

  new-sorts : (number : VariableId) (v : Value) (s t : Store) → t ≡ assigned number v s →
      ((one : VariableMeaning) → slice_get p.variables number.0 ≡ Some one → has_sort one.sort v ≡ true) →
      HaveSorts p s.variables → HaveSorts p t.variables
  new-sorts number v s t is fits have =
      subst (λ (x : Store). HaveSorts p x.variables) (sym is) (assigned-sorts number v s fits have)

  -- the value at the place of a variable fits it
  at-fits : (number : VariableId) (answer : Result Value Failure) (v : Value) →
      at_place (sort_in p number) answer ≡ Ok v → (one : VariableMeaning) →
      slice_get p.variables number.0 ≡ Some one → has_sort one.sort v ≡ true
  at-fits number answer v is one listed =
      at-sorted one.sort answer v
      (ap (λ found. at_place (option_map (λ (x : VariableMeaning). x.sort) found) answer) (sym listed) ∙ is)

abbrev variables_of : Store → VariableList
variables_of s = s.variables

module _ (d : Definition) (who : Identity) (q : PortState) where
  -- nothing but the time, the offspring, the sender and the count has changed
  kept : (s t u : Store) → t ≡ u → u.variables ≡ s.variables → HaveSorts d.behaviour s.variables →
      HaveSorts d.behaviour t.variables
  kept s t u is same have = same-sorts d.behaviour s t (ap variables_of is ∙ same) have

  happens-sorted : (place : ControlPoint) (s : Store) (e : Event) (calls : List PortEvent) (done : List Effect) (to : ControlPoint)
      (t : Store) → HaveSorts d.behaviour s.variables → Happens d who q place s e calls done to t →
      HaveSorts d.behaviour t.variables
  happens-sorted AtStart s (event.Start at) calls done to t have happens =
      kept s t (record s { time = at; done = 0 }) happens.3 refl have
  happens-sorted AtStart s (event.Cut state) calls done to t have happens =
      kept s t s happens.4 refl have
  happens-sorted AtStart s (event.Failed why) calls done to t have happens =
      kept s t s happens.4 refl have
  happens-sorted AtStart s happened calls done to t have happens =
      absurd happens
  happens-sorted (In n) s (event.Consumed at got) calls done to t have happens =
      kept s t _ (happens.1).store refl have
  happens-sorted (In n) s (event.Prior at got) calls done to t have happens =
      kept s t _ (happens.1).store refl have
  happens-sorted (In n) s (event.Discarded at got) calls done to t have happens =
      kept s t _ (happens.1).store refl have
  happens-sorted (In n) s (event.Provided at number) calls done to t have happens =
      kept s t _ (happens.1).store refl have
  happens-sorted (In n) s (event.FailedAt at why) calls done to t have happens =
      kept s t _ (happens.1).store refl have
  happens-sorted (In n) s (event.Rest state) calls done to t have happens =
      kept s t s happens.4 refl have
  happens-sorted (In n) s (event.Cut state) calls done to t have happens =
      kept s t s happens.4 refl have
  happens-sorted (In n) s (event.Failed why) calls done to t have happens =
      kept s t s happens.4 refl have
  happens-sorted (In n) s happened calls done to t have happens =
      absurd happens
  happens-sorted (Receiving origin variables values rest) s (event.Failed why) calls done to t have happens =
      kept s t s happens.4 refl have
  happens-sorted (Receiving origin variables values rest) s happened calls done to t have happens =
      absurd happens
  happens-sorted (Doing origin (body.ending (body.to_state n))) s (event.NextState m) calls done to t have happens =
      kept s t s happens.4 refl have
  happens-sorted (Doing origin (body.ending (body.to_state n))) s (event.Failed why) calls done to t have happens =
      kept s t s happens.4 refl have
  happens-sorted (Doing origin (body.ending (body.to_state n))) s happened calls done to t have happens =
      absurd happens
  happens-sorted (Doing (Some n) (body.ending body.to_same)) s (event.NextState m) calls done to t have happens =
      kept s t s happens.4 refl have
  happens-sorted (Doing (Some n) (body.ending body.to_same)) s (event.Failed why) calls done to t have happens =
      kept s t s happens.4 refl have
  happens-sorted (Doing (Some n) (body.ending body.to_same)) s happened calls done to t have happens =
      absurd happens
  happens-sorted (Doing None (body.ending body.to_same)) s (event.Failed why) calls done to t have happens =
      kept s t s happens.4 refl have
  happens-sorted (Doing None (body.ending body.to_same)) s happened calls done to t have happens =
      absurd happens
  happens-sorted (Doing origin (body.ending body.stop)) s event.Stop calls done to t have happens =
      kept s t s happens.3 refl have
  happens-sorted (Doing origin (body.ending body.stop)) s (event.Failed why) calls done to t have happens =
      kept s t s happens.4 refl have
  happens-sorted (Doing origin (body.ending body.stop)) s happened calls done to t have happens =
      absurd happens
  happens-sorted (Doing origin (body.ending (body.join label))) s (event.Failed why) calls done to t have happens =
      kept s t s happens.4 refl have
  happens-sorted (Doing origin (body.ending (body.join label))) s happened calls done to t have happens =
      absurd happens
  happens-sorted (Doing origin body.nothing) s (event.Failed why) calls done to t have happens =
      kept s t s happens.4 refl have
  happens-sorted (Doing origin body.nothing) s happened calls done to t have happens =
      absurd happens
  happens-sorted (Doing origin (body.action first rest)) s (event.Failed why) calls done to t have happens =
      kept s t s happens.4 refl have
  happens-sorted (Doing origin (body.action first rest)) s happened calls done to t have happens =
      absurd happens
  happens-sorted (Doing origin (body.decision question parts rest)) s (event.Failed why) calls done to t have happens =
      kept s t s happens.4 refl have
  happens-sorted (Doing origin (body.decision question parts rest)) s happened calls done to t have happens =
      absurd happens
  happens-sorted (Doing origin (body.label number rest)) s (event.Failed why) calls done to t have happens =
      kept s t s happens.4 refl have
  happens-sorted (Doing origin (body.label number rest)) s happened calls done to t have happens =
      absurd happens
  happens-sorted (Amid origin (body.task []) rest) s (event.Failed why) calls done to t have happens =
      kept s t s happens.4 refl have
  happens-sorted (Amid origin (body.task []) rest) s happened calls done to t have happens =
      absurd happens
  happens-sorted (Amid origin (body.task (one ∷ more)) rest) s (event.Task variable value) calls done to t have
      happens =
      new-sorts d.behaviour variable value s t (happens.3).store
      (at-fits d.behaviour variable (value_of (environment d.system who s q) one.value) value (happens.3).evaluated)
      have
  happens-sorted (Amid origin (body.task (one ∷ more)) rest) s (event.Failed why) calls done to t have happens =
      kept s t s happens.4 refl have
  happens-sorted (Amid origin (body.task (one ∷ more)) rest) s happened calls done to t have happens =
      absurd happens
  happens-sorted (Amid origin (body.output [] whom) rest) s (event.Failed why) calls done to t have happens =
      kept s t s happens.4 refl have
  happens-sorted (Amid origin (body.output [] whom) rest) s happened calls done to t have happens =
      absurd happens
  happens-sorted (Amid origin (body.output (one ∷ more) whom) rest) s (event.Output signal named values target) calls
      done to t have happens =
      kept s t s happens.2 refl have
  happens-sorted (Amid origin (body.output (one ∷ more) whom) rest) s (event.Failed why) calls done to t have happens =
      kept s t s happens.4 refl have
  happens-sorted (Amid origin (body.output (one ∷ more) whom) rest) s happened calls done to t have happens =
      absurd happens
  happens-sorted (Amid origin (body.set []) rest) s (event.Failed why) calls done to t have happens =
      kept s t s happens.4 refl have
  happens-sorted (Amid origin (body.set []) rest) s happened calls done to t have happens =
      absurd happens
  happens-sorted (Amid origin (body.set (one ∷ more)) rest) s (event.Set key due) calls done to t have happens =
      kept s t s happens.1 refl have
  happens-sorted (Amid origin (body.set (one ∷ more)) rest) s (event.Failed why) calls done to t have happens =
      kept s t s happens.4 refl have
  happens-sorted (Amid origin (body.set (one ∷ more)) rest) s happened calls done to t have happens =
      absurd happens
  happens-sorted (Amid origin (body.reset []) rest) s (event.Failed why) calls done to t have happens =
      kept s t s happens.4 refl have
  happens-sorted (Amid origin (body.reset []) rest) s happened calls done to t have happens =
      absurd happens
  happens-sorted (Amid origin (body.reset (one ∷ more)) rest) s (event.Reset key) calls done to t have happens =
      kept s t s happens.3 refl have
  happens-sorted (Amid origin (body.reset (one ∷ more)) rest) s (event.Failed why) calls done to t have happens =
      kept s t s happens.4 refl have
  happens-sorted (Amid origin (body.reset (one ∷ more)) rest) s happened calls done to t have happens =
      absurd happens
  happens-sorted (Amid origin (body.create process terms) rest) s (event.Create named number) calls done to t have
      happens =
      kept s t _ (happens.3).store refl have
  happens-sorted (Amid origin (body.create process terms) rest) s (event.Failed why) calls done to t have happens =
      kept s t s happens.4 refl have
  happens-sorted (Amid origin (body.create process terms) rest) s happened calls done to t have happens =
      absurd happens
  happens-sorted Ended s (event.Failed why) calls done to t have happens =
      kept s t s happens.4 refl have
  happens-sorted Ended s happened calls done to t have happens =
      absurd happens
  happens-sorted Closed s (event.Failed why) calls done to t have happens =
      kept s t s happens.4 refl have
  happens-sorted Closed s happened calls done to t have happens =
      absurd happens

  turns-sorted : (place : ControlPoint) (s : Store) (to : ControlPoint) (t : Store) → HaveSorts d.behaviour s.variables →
      LeadsSilently d who q place s to t → HaveSorts d.behaviour t.variables
  turns-sorted AtStart s to t have turn =
      absurd turn
  turns-sorted (In n) s to t have turn =
      absurd turn
  turns-sorted (Receiving origin (Some variable ∷ variables) (value ∷ values) next) s to t have turn =
      new-sorts d.behaviour variable turn.1.0 s t turn.1.2
      (at-fits d.behaviour variable (Ok value) turn.1.0 turn.1.1) have
  turns-sorted (Receiving origin (None ∷ variables) (value ∷ values) next) s to t have turn =
      kept s t s turn.1 refl have
  turns-sorted (Receiving origin variables values next) s to t have turn =
      kept s t s turn.1 refl have
  turns-sorted (Doing origin body.nothing) s to t have turn =
      absurd turn
  turns-sorted (Doing origin (body.action first rest)) s to t have turn =
      kept s t (record s { done = s.done + 1 }) turn.1.1 refl have
  turns-sorted (Doing origin (body.decision question parts rest)) s to t have turn =
      kept s t (record s { done = s.done + 1 }) turn.0.1 refl have
  turns-sorted (Doing origin (body.label number rest)) s to t have turn =
      kept s t s turn.1 refl have
  turns-sorted (Doing origin (body.ending (body.join label))) s to t have turn =
      kept s t (record s { done = s.done + 1 }) turn.0.1 refl have
  turns-sorted (Doing origin (body.ending (body.to_state n))) s to t have turn =
      absurd turn
  turns-sorted (Doing origin (body.ending body.to_same)) s to t have turn =
      absurd turn
  turns-sorted (Doing origin (body.ending body.stop)) s to t have turn =
      absurd turn
  turns-sorted (Amid origin (body.task []) rest) s to t have turn =
      kept s t s turn.1 refl have
  turns-sorted (Amid origin (body.task (one ∷ more)) rest) s to t have turn =
      absurd turn
  turns-sorted (Amid origin (body.output [] whom) rest) s to t have turn =
      kept s t s turn.1 refl have
  turns-sorted (Amid origin (body.output (one ∷ more) whom) rest) s to t have turn =
      absurd turn
  turns-sorted (Amid origin (body.set []) rest) s to t have turn =
      kept s t s turn.1 refl have
  turns-sorted (Amid origin (body.set (one ∷ more)) rest) s to t have turn =
      absurd turn
  turns-sorted (Amid origin (body.reset []) rest) s to t have turn =
      kept s t s turn.1 refl have
  turns-sorted (Amid origin (body.reset (one ∷ more)) rest) s to t have turn =
      absurd turn
  turns-sorted (Amid origin (body.create process terms) rest) s to t have turn =
      absurd turn
  turns-sorted Ended s to t have turn =
      absurd turn
  turns-sorted Closed s to t have turn =
      absurd turn

module _ (d : Definition) (who : Identity) (from : ControlPoint) (s : Store) (q : PortState)
    (have : HaveSorts d.behaviour s.variables) where
  runs-sorted : {deeds : List Deed} {history : List PortEvent} {place : ControlPoint} {t : Store} {r : PortState} →
      Runs d who from s q deeds history place t r → HaveSorts d.behaviour t.variables
  runs-sorted still = have
  runs-sorted (acts {at = at} {mid = mid} {port = port} before deed to t r leads legal) =
      happens-sorted d who port at mid deed.event deed.calls deed.effects to t (runs-sorted before) leads
  runs-sorted (turns {at = at} {mid = mid} {port = port} before to t turn) =
      turns-sorted d who port at mid to t (runs-sorted before) turn
  runs-sorted (hears before heard r outside step) = runs-sorted before
  runs-sorted (waits before classes quiet step) = runs-sorted before

pub runs-keep-sorts : RunsKeepSorts
runs-keep-sorts d who from place s t q r deeds history have runs = runs-sorted d who from s q have runs

-- ---- before the start

-- the first so many variables have these values, the others their initial ones
abbrev firsts : ℕ → List VariableMeaning → List Value → VariableList
firsts n variables values =
    parameters_from n values ++ drop n (map (λ (variable : VariableMeaning). variable.initial) variables)

no-value : {A : Type 0} (v : Value) → None ≡ Some v → A
no-value v is = absurd (let never : ⊥ = cc in never)

initial-sorted : (variables : List VariableMeaning) (k : ℕ) (one : VariableMeaning) (v : Value) →
    ((j : ℕ) (two : VariableMeaning) → slice_get variables j ≡ Some two →
    IfSome two.initial (λ w. has_sort two.sort w ≡ true)) →
    slice_get variables k ≡ Some one →
    found_at (map (λ (variable : VariableMeaning). variable.initial) variables) k ≡ Some v → has_sort one.sort v ≡ true
initial-sorted [] zero one v have listed found = absurd (let never : ⊥ = cc in never)
initial-sorted [] (suc k) one v have listed found = absurd (let never : ⊥ = cc in never)
initial-sorted (x ∷ variables) zero one v have listed found =
    let same : x ≡ one = cc in
    let value : one.initial ≡ Some v = ap (λ (m : VariableMeaning). m.initial) (sym same) ∙ found in
    subst (λ o. IfSome o (λ w. has_sort one.sort w ≡ true)) value (have zero one listed)
initial-sorted (x ∷ variables) (suc k) one v have listed found =
    initial-sorted variables k one v (λ j two at. have (suc j) two at) listed found

first-sorted : (n : ℕ) (variables : List VariableMeaning) (values : List Value) (k : ℕ) (one : VariableMeaning)
    (v : Value) →
    ((j : ℕ) (two : VariableMeaning) → slice_get variables j ≡ Some two →
    IfSome two.initial (λ w. has_sort two.sort w ≡ true)) →
    ((j : ℕ) (two : VariableMeaning) (w : Value) → j < n → slice_get variables j ≡ Some two →
    slice_get values j ≡ Some w → has_sort two.sort w ≡ true) →
    slice_get variables k ≡ Some one → found_at (firsts n variables values) k ≡ Some v → has_sort one.sort v ≡ true
first-sorted zero variables values k one v have fit listed found = initial-sorted variables k one v have listed found
first-sorted (suc n) [] values zero one v have fit listed found = absurd (let never : ⊥ = cc in never)
first-sorted (suc n) [] values (suc k) one v have fit listed found = absurd (let never : ⊥ = cc in never)
first-sorted (suc n) (x ∷ variables) [] zero one v have fit listed found = no-value v found
first-sorted (suc n) (x ∷ variables) [] (suc k) one v have fit listed found =
    first-sorted n variables [] k one v (λ j two at. have (suc j) two at)
    (λ j two w below at is. fit (suc j) two w (omega (arith, below)) at (no-such j w is)) listed found
  where
    no-such : (j : ℕ) (w : Value) → slice_get [] j ≡ Some w → slice_get [] (suc j) ≡ Some w
    no-such zero w is = absurd (let never : ⊥ = cc in never)
    no-such (suc j) w is = absurd (let never : ⊥ = cc in never)
first-sorted (suc n) (x ∷ variables) (value ∷ values) zero one v have fit listed found =
    fit zero one v (omega arith) listed found
first-sorted (suc n) (x ∷ variables) (value ∷ values) (suc k) one v have fit listed found =
    first-sorted n variables values k one v (λ j two at. have (suc j) two at)
    (λ j two w below at is. fit (suc j) two w (omega (arith, below)) at is) listed found

pub starts-with-sorts : StartsWithSorts
starts-with-sorts p values have fit number one v listed found =
    first-sorted p.parameters p.variables values number.0 one v have fit listed found

-- ---- several values at places

abbrev FitEach : List Sort → Result (List Value) Failure → Type 0
FitEach sorts (Err why) = Unit {0}
FitEach sorts (Ok values) =
    (number : ℕ) (sort : Sort) (v : Value) → slice_get sorts number ≡ Some sort → slice_get values number ≡ Some v →
    has_sort sort v ≡ true

no-place : (number : ℕ) (sort : Sort) → slice_get [] number ≡ Some sort → ⊥
no-place zero sort at = cc
no-place (suc number) sort at = cc

fit-none : (answer : Result (List Value) Failure) → FitEach [] answer
fit-none (Err why) = tt
fit-none (Ok values) = λ number sort v at found. absurd (no-place number sort at)

fit-ok : (one : Sort) (sorts : List Sort) (w : Value) (values : List Value) → has_sort one w ≡ true →
    FitEach sorts (Ok values) → FitEach (one ∷ sorts) (Ok (w ∷ values))
fit-ok one sorts w values has rest zero sort v at found =
    let value : w ≡ v = cc in
    let place : one ≡ sort = cc in
    subst (λ (s : Sort). has_sort s v ≡ true) place (subst (λ (x : Value). has_sort one x ≡ true) value has)
fit-ok one sorts w values has rest (suc number) sort v at found = rest number sort v at found

fit-followed : (one : Sort) (sorts : List Sort) (first : Result Value Failure) (rest : Result (List Value) Failure) →
    ((w : Value) → first ≡ Ok w → has_sort one w ≡ true) → FitEach sorts rest →
    FitEach (one ∷ sorts) (followed first rest)
fit-followed one sorts (Err why) rest has fit = tt
fit-followed one sorts (Ok w) (Err why) has fit = tt
fit-followed one sorts (Ok w) (Ok values) has fit = fit-ok one sorts w values (has w refl) fit

terms-fit : (here : Environment) (sorts : List Sort) (terms : Terms) → FitEach sorts (values_of here sorts terms)
terms-fit here sorts no_term = λ number sort v at found. absurd (no-value-at number v found)
  where
    no-value-at : (number : ℕ) (v : Value) → slice_get [] number ≡ Some v → ⊥
    no-value-at zero v at = cc
    no-value-at (suc number) v at = cc
terms-fit here [] (and_term first rest) =
    fit-none (followed (at_place None (value_of here first)) (values_of here [] rest))
terms-fit here (one ∷ sorts) (and_term first rest) =
    fit-followed one sorts (at_place (Some one) (value_of here first)) (values_of here sorts rest)
    (λ w is. at-sorted one (value_of here first) w is) (terms-fit here sorts rest)

pub values-fit-places : ValuesFitPlaces
values-fit-places here sorts terms values number sort v is at found =
    subst (FitEach sorts) is (terms-fit here sorts (terms_of terms)) number sort v at found
