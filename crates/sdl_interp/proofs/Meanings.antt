-- What expressions come to, by the variables of a process as its behaviour has them.
use Rattle.std.proofs.Common.{◌≡◌, ◌∙◌, sym, ap, subst, refl, ℕ, List, Option, None, Some, Result, Ok, Err, map, slice_get}
use Rattle.std.proofs.lemmas.Option.{slice_get-map}
use Rattle.std.specs.Option.{option_map}
use Rattle.port_model.specs.declared.values.item.SignalId.{SignalId}
use Rattle.port_model.specs.declared.values.timer_key.TimerKey.{TimerKey}
use Rattle.port_model.specs.declared.values.value.Value.{Value}
use Rattle.run_record.specs.Environment.{Environment, environment, sorts_of}
use Rattle.run_record.specs.Knowledge.{KnowledgeValue, environment_of}
use Rattle.run_record.specs.Value.{at_place, key_at, value_of, values_at}
use Rattle.run_record.specs.declared.failure.Failure.{Failure}
use Rattle.run_semantics.specs.Fails.{both, due_by, named_by, sent_by, set_by}
use Rattle.run_semantics.specs.ControlPoint.{Definition}
use Rattle.run_semantics.specs.Reception.{sort_in}
use Rattle.sdl_interp.specs.Running.{CoreValue, known_by}
use Rattle.sdl_interp.specs.Work.{IsOf}
use Rattle.sdl_system.specs.Behaviour.{VariableMeaning, variable_meaning}
use Rattle.sdl_system.specs.Body.{Whither}
use Rattle.sdl_system.specs.System.{SystemValue}
use Rattle.sdl_system.specs.Table.{sending, setting, when_due}
use Rattle.sdl_system.specs.Term.{Term, term_of}
use Rattle.sdl_system.specs.declared.expression.Expression.{Expression}
use Rattle.sdl_system.specs.declared.id.VariableId.{VariableId}
use Rattle.sdl_system.specs.declared.process.Process.{Process}
use Rattle.sdl_system.specs.declared.process.Variable.{Variable}
use Rattle.sdl_system.specs.declared.route.Dest.{Dest}
use Rattle.sdl_system.specs.declared.sort.Sort.{Sort}
use Rattle.sdl_system.specs.declared.statement.Sending as sent
use Rattle.sdl_system.specs.declared.statement.Setting as set

sort_meant : (one : Option Variable)
    → option_map (λ (v : VariableMeaning). v.sort) (option_map variable_meaning one)
    ≡ option_map (λ (v : Variable). v.sort) one
sort_meant None = refl
sort_meant (Some variable) = refl

-- the sort of a variable is that of the process's variable
pub sort_is : (system : SystemValue) (process : Process) (d : Definition) → IsOf system process d
    → (variable : VariableId)
    → sort_in d.behaviour variable
    ≡ option_map (λ (v : Variable). v.sort) (slice_get process.variables.items variable.0)
sort_is system process d is variable =
    let Sort_of : List VariableMeaning → Option Sort =
    λ variables. option_map (λ (v : VariableMeaning). v.sort) (slice_get variables variable.0) in
    ap Sort_of (sym is.behaves.means.variables_are)
    ∙ ap (λ (one : Option VariableMeaning). option_map (λ (v : VariableMeaning). v.sort) one)
    (slice_get-map variable_meaning process.variables.items variable.0)
    ∙ sort_meant (slice_get process.variables.items variable.0)

-- ---- two evaluations, one after the other

both-ok : {A B : Type 0} (first : Result A Failure) (second : Result B Failure) (a : A) (b : B) → first ≡ Ok a
    → second ≡ Ok b → both first second ≡ Ok (a, b)
both-ok {A = A} {B = B} first second a b one two =
    ap (λ (r : Result A Failure). both r second) one ∙ ap (λ (r : Result B Failure). both (Ok a) r) two

both-first : {A B : Type 0} (first : Result A Failure) (second : Result B Failure) (why : Failure)
    → first ≡ Err why → both first second ≡ Err why
both-first {A = A} {B = B} first second why one = ap (λ (r : Result A Failure). both r second) one

both-second : {A B : Type 0} (first : Result A Failure) (second : Result B Failure) (a : A) (why : Failure)
    → first ≡ Ok a → second ≡ Err why → both first second ≡ Err why
both-second {A = A} {B = B} first second a why one two =
    ap (λ (r : Result A Failure). both r second) one ∙ ap (λ (r : Result B Failure). both (Ok a) r) two

-- ---- what an instance knows

-- what comes by `known` comes by what the instance knows
pub by_known : {T : Type 0} (k : CoreValue) (F : Environment → T) (known : KnowledgeValue) → known ≡ known_by k
    → (answer : T) → F (environment_of known) ≡ answer → F (environment_of (known_by k)) ≡ answer
by_known {T} k F known is answer comes =
    let Comes : KnowledgeValue → Type 0 = λ x. F (environment_of x) ≡ answer in
    subst Comes is comes

module _ (k : CoreValue) (d : Definition) (of : IsOf k.system k.process d) where
  abbrev here : Environment
  here = environment_of (known_by k)

  abbrev there : Environment
  there = environment d.system k.work.who k.work.store k.work.owner.state

  -- the words of an expression stand for the same
  there_is : there ≡ here
  there_is = ap (λ (s : SystemValue). environment s k.work.who k.work.store k.work.owner.state) of.system_is

  -- what an expression comes to at the place of a variable
  pub placed_meant : (variable : VariableId) (sort : Option Sort)
      → sort ≡ option_map (λ (v : Variable). v.sort) (slice_get k.process.variables.items variable.0) → (term : Term)
      (answer : Result Value Failure) → at_place sort (value_of here term) ≡ answer
      → at_place (sort_in d.behaviour variable) (value_of there term) ≡ answer
  placed_meant variable sort its term answer comes =
      ap (λ (x : Option Sort). at_place x (value_of there term))
      (sort_is k.system k.process d of variable ∙ sym its)
      ∙ ap (λ (x : Environment). at_place sort (value_of x term)) there_is
      ∙ comes

  -- what a timer's key comes to, by its expressions
  pub key_meant : (timer : SignalId) (list all : List Expression) → list ≡ all → (answer : Result TimerKey Failure)
      → key_at here timer (map term_of list) ≡ answer → key_at there timer (map term_of all) ≡ answer
  key_meant timer list all are answer comes =
      ap (λ (x : Environment). key_at x timer (map term_of all)) there_is
      ∙ ap (λ (x : List Expression). key_at here timer (map term_of x)) (sym are)
      ∙ comes

  -- and several values at their places
  pub values_meant : (sorts places : List Sort) → sorts ≡ places → (list all : List Expression) → list ≡ all
      → (answer : Result (List Value) Failure) → values_at here sorts (map term_of list) ≡ answer
      → values_at there places (map term_of all) ≡ answer
  values_meant sorts places at list all are answer comes =
      ap (λ (x : Environment). values_at x places (map term_of all)) there_is
      ∙ ap (λ (x : List Sort). values_at here x (map term_of all)) (sym at)
      ∙ ap (λ (x : List Expression). values_at here sorts (map term_of x)) (sym are)
      ∙ comes

  -- whom an output names, and then the values of a signal
  pub unnamed : (to : Option Whither) (one : sent.Sending) (why : Failure) → named_by here to ≡ Err why
      → sent_by d.system there to (sending one) ≡ Err why
  unnamed to one why first =
      both-first (named_by there to) (values_at there (sorts_of d.system one.signal) (map term_of one.values.items)) why
      (ap (λ (x : Environment). named_by x to) there_is ∙ first)

  module _ (to : Option Whither) (one : sent.Sending) (sorts : List Sort) (at : sorts ≡ sorts_of k.system one.signal)
      (list : List Expression) (are : list ≡ one.values.items) where
    abbrev named : Result Dest Failure
    named = named_by there to

    abbrev values : Result (List Value) Failure
    values = values_at there (sorts_of d.system one.signal) (map term_of one.values.items)

    named_come : (answer : Result Dest Failure) → named_by here to ≡ answer → named ≡ answer
    named_come answer comes = ap (λ (x : Environment). named_by x to) there_is ∙ comes

    values_come : (answer : Result (List Value) Failure) → values_at here sorts (map term_of list) ≡ answer
        → values ≡ answer
    values_come answer comes =
        values_meant sorts (sorts_of d.system one.signal)
        (at ∙ ap (λ (x : SystemValue). sorts_of x one.signal) (sym of.system_is)) list one.values.items are answer comes

    pub sent_ok : (a : Dest) (b : List Value) → named_by here to ≡ Ok a → values_at here sorts (map term_of list) ≡ Ok b
        → sent_by d.system there to (sending one) ≡ Ok (a, b)
    sent_ok a b first second = both-ok named values a b (named_come (Ok a) first) (values_come (Ok b) second)

    pub unsent : (a : Dest) (why : Failure) → named_by here to ≡ Ok a
        → values_at here sorts (map term_of list) ≡ Err why → sent_by d.system there to (sending one) ≡ Err why
    unsent a why first second =
        both-second named values a why (named_come (Ok a) first) (values_come (Err why) second)

  -- when a timer is due, and then its key
  module _ (one : set.Setting) where
    abbrev due : Result ℕ Failure
    due = due_by there (when_due one.due)

    abbrev key : Result TimerKey Failure
    key = key_at there one.timer.timer (map term_of one.timer.values.items)

    due_come : (answer : Result ℕ Failure) → due_by here (when_due one.due) ≡ answer → due ≡ answer
    due_come answer comes = ap (λ (x : Environment). due_by x (when_due one.due)) there_is ∙ comes

    pub set_ok : (list : List Expression) → list ≡ one.timer.values.items → (a : ℕ) (b : TimerKey)
        → due_by here (when_due one.due) ≡ Ok a → key_at here one.timer.timer (map term_of list) ≡ Ok b
        → set_by there (setting one) ≡ Ok (a, b)
    set_ok list are a b first second =
        both-ok due key a b (due_come (Ok a) first)
        (key_meant one.timer.timer list one.timer.values.items are (Ok b) second)

    pub undue : (why : Failure) → due_by here (when_due one.due) ≡ Err why → set_by there (setting one) ≡ Err why
    undue why first = both-first due key why (due_come (Err why) first)

    pub unkeyed : (list : List Expression) → list ≡ one.timer.values.items → (a : ℕ) (why : Failure)
        → due_by here (when_due one.due) ≡ Ok a → key_at here one.timer.timer (map term_of list) ≡ Err why
        → set_by there (setting one) ≡ Err why
    unkeyed list are a why first second =
        both-second due key a why (due_come (Ok a) first)
        (key_meant one.timer.timer list one.timer.values.items are (Err why) second)
