-- Laws of evaluation.
use Rattle.std.specs.Prelude.{◌≡◌, Bool, true, false, List, Ok, Err}
use Rattle.port_model.specs.Port.{PortState}
use Rattle.port_model.specs.Timers.{is_active}
use Rattle.port_model.specs.declared.values.timer_key.TimerKey.{TimerKey}
use Rattle.port_model.specs.declared.values.value.Value.{Value}
use Rattle.sdl_system.specs.Sort.{has_sort}
use Rattle.sdl_system.specs.System.{SystemValue}
use Rattle.sdl_system.specs.Term.{Term, binary}
use Rattle.sdl_system.specs.declared.operation.Operation.{Operation}
use Rattle.sdl_system.specs.declared.sort.Sort.{Sort}
use Rattle.run_record.specs.declared.failure.Failure.{Failure}
use Rattle.run_record.specs.declared.failure.Failure.TheVariants.{NotNatural, Overflow, Undefined, ZeroDivisor}
use Rattle.run_record.specs.Environment.{Environment, environment}
use Rattle.run_record.specs.Value.{value_at, value_of, values_at}
use Rattle.run_record.specs.declared.evaluation.identity.Identity.{Identity}
use Rattle.run_record.specs.declared.evaluation.store.Store.{Store}

-- whether an evaluation may fail so: never for lack of memory, the length of a transition, an answer or a set
abbrev pub is_of_evaluation : Failure → Bool
is_of_evaluation Overflow = true
is_of_evaluation ZeroDivisor = true
is_of_evaluation Undefined = true
is_of_evaluation NotNatural = true
is_of_evaluation other = false

-- An expression fails for a cause of its own.
abbrev pub FailsByItself : Type 0
FailsByItself =
    (here : Environment) (term : Term) (why : Failure) → value_of here term ≡ Err why
    → is_of_evaluation why ≡ true

-- So do several.
abbrev pub ListsFailByThemselves : Type 0
ListsFailByThemselves =
    (here : Environment) (sorts : List Sort) (terms : List Term) (why : Failure)
    → values_at here sorts terms ≡ Err why → is_of_evaluation why ≡ true

-- What an expression comes to at a place has the sort of the place.
abbrev pub HasSortOfPlace : Type 0
HasSortOfPlace =
    (here : Environment) (sort : Sort) (term : Term) (value : Value) → value_at here sort term ≡ Ok value
    → has_sort sort value ≡ true

-- Where the left operand fails, its failure is told.
abbrev pub FailsLeftFirst : Type 0
FailsLeftFirst =
    (here : Environment) (operation : Operation) (left right : Term) (why : Failure)
    → value_of here left ≡ Err why → value_of here (binary operation left right) ≡ Err why

-- Where the right one alone fails, its failure is told: it is evaluated whatever the left one is.
abbrev pub FailsRight : Type 0
FailsRight =
    (here : Environment) (operation : Operation) (left right : Term) (value : Value) (why : Failure)
    → value_of here left ≡ Ok value → value_of here right ≡ Err why
    → value_of here (binary operation left right) ≡ Err why

-- the two stores differ in the count of statements alone
pub record KnowTheSame (one other : Store) : Type 0 where
  pub variables : one.variables ≡ other.variables
  pub offspring : one.offspring ≡ other.offspring
  pub sender : one.sender ≡ other.sender
  pub time : one.time ≡ other.time

-- the same timers are active in the two ports
abbrev pub AreActiveInBoth : PortState → PortState → Type 0
AreActiveInBoth one other = (key : TimerKey) → is_active key one.timers ≡ is_active key other.timers

-- An expression comes to the same where the same is known and the same timers are active: what waits in the port, and
-- how many statements were done, make no difference.
abbrev pub ReadsWhatIsKnown : Type 0
ReadsWhatIsKnown =
    (system : SystemValue) (who : Identity) (one other : Store) (first second : PortState) (term : Term)
    → KnowTheSame one other → AreActiveInBoth first second
    → value_of (environment system who one first) term ≡ value_of (environment system who other second) term

-- So do several.
abbrev pub ListsReadWhatIsKnown : Type 0
ListsReadWhatIsKnown =
    (system : SystemValue) (who : Identity) (one other : Store) (first second : PortState) (sorts : List Sort)
    (terms : List Term) → KnowTheSame one other → AreActiveInBoth first second
    → values_at (environment system who one first) sorts terms
    ≡ values_at (environment system who other second) sorts terms
