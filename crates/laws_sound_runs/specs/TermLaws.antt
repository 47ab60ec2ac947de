-- What expressions resolve to is of the kind that is said, and comes to values of that kind (Z.104: expressions).
use Rattle.std.specs.Prelude.{◌≡◌, true, List, Some, Ok, length, map, slice_get}
use Rattle.port_model.specs.declared.values.value.Value.{Value}
use Rattle.run_record.specs.Environment.{Environment}
use Rattle.run_record.specs.Value.{value_of}
use Rattle.run_record.specs.Variables.{VariableList, value_in}
use Rattle.build_expressions.specs.OperandSorts.{fits}
use Rattle.build_expressions.specs.Scope.{Scope}
use Rattle.build_expressions.specs.Typing.{Typed, argument_in, taken_term, taken_terms, typed_in}
use Rattle.build_expressions.specs.declared.context.Context.{Context}
use Rattle.build_expressions.specs.declared.operand_sort.OperandSort.{OperandSort}
use Rattle.laws_sound_runs.specs.Kinds.{FitPlaces, FitsPlace, HasKind, has_kind}
use Rattle.laws_sound_runs.specs.Scopes.{IsSoundScope}
use Rattle.sdl_system.specs.Operation.{unsorted}
use Rattle.sdl_system.specs.Sort.{as_sort, has_sort}
use Rattle.sdl_system.specs.Soundness.{AreSoundTerms, IsSoundTerm, count_terms}
use Rattle.sdl_system.specs.System.{SystemValue}
use Rattle.sdl_system.specs.Term.{Term, Terms, terms_of}
use Rattle.sdl_system.specs.declared.id.VariableId.{VariableId}
use Rattle.sdl_system.specs.declared.process.Process.{Process}
use Rattle.sdl_system.specs.declared.process.Variable.{Variable}
use Rattle.sdl_system.specs.declared.sort.Sort.{Sort}
use Rattle.sdl_tree.specs.Tree.{Expr}

-- ---- what expressions resolve to

-- Where names stand for what is there, the term of an expression is of the kind that the expression has.
abbrev pub TermsHaveKinds : Type 0
TermsHaveKinds =
    (system : SystemValue) (process : Process) (context : Context) (scope : Scope) (expression : Expr) (typed : Typed)
    (term : Term) → IsSoundScope system process scope → typed_in context scope expression ≡ Some typed
    → typed.term ≡ Some term → HasKind system process typed.kind term

-- At a place of a sort it is of a kind that fits the place.
abbrev pub PlacedTermsFit : Type 0
PlacedTermsFit =
    (system : SystemValue) (process : Process) (context : Context) (scope : Scope) (sort : Sort) (expression : Expr)
    (term : Term) → IsSoundScope system process scope
    → taken_term (Some sort) (typed_in context scope expression) ≡ Some term → FitsPlace system process sort term

-- Values behind a name are as many as its places, and each is of a kind that fits its place.
abbrev pub ListedTermsFit : Type 0
ListedTermsFit =
    (system : SystemValue) (process : Process) (context : Context) (scope : Scope) (sorts : List Sort)
    (values : List Expr) (terms : List Term) → IsSoundScope system process scope
    → taken_terms (map Some sorts) (map (argument_in context scope) values) ≡ Some terms
    → FitPlaces system process sorts (terms_of terms)

-- What is of a kind names variables and timers that are there, with as many values as they take.
abbrev pub KindedTermsAreSound : Type 0
KindedTermsAreSound =
    (system : SystemValue) (process : Process) (kind : OperandSort) (term : Term) → HasKind system process kind term
    → IsSoundTerm system process term

-- So do terms that fit places, and they are as many as the places.
abbrev pub FittingTermsAreSound : Type 0
FittingTermsAreSound =
    (system : SystemValue) (process : Process) (sorts : List Sort) (terms : Terms)
    → FitPlaces system process sorts terms → AreSoundTerms system process terms × (count_terms terms ≡ length sorts)

-- ---- what terms come to

-- each variable that has a value has one of its sort
abbrev pub HaveSorts : Process → VariableList → Type 0
HaveSorts process variables =
    (number : VariableId) (variable : Variable) (v : Value) → slice_get process.variables.items number.0 ≡ Some variable
    → value_in variables number ≡ Some v → has_sort variable.sort v ≡ true

-- Where variables have values of their sorts, what a term of a kind comes to is a value of that kind.
abbrev pub ValuesHaveKinds : Type 0
ValuesHaveKinds =
    (system : SystemValue) (process : Process) (here : Environment) (kind : OperandSort) (term : Term) (v : Value)
    → HasKind system process kind term → HaveSorts process here.variables → value_of here term ≡ Ok v
    → has_kind kind v ≡ true

-- At a place that the kind fits, a value stays what it is, but for the sort of a number: nothing that is no number
-- counts as 0 there, and nothing that is no truth as false.
abbrev pub StaysWhatItIs : Type 0
StaysWhatItIs =
    (kind : OperandSort) (sort : Sort) (v there : Value) → has_kind kind v ≡ true → fits kind sort ≡ true
    → as_sort sort v ≡ Some there → unsorted there ≡ unsorted v
