-- The term of an expression is of the kind that the expression has.
use Rattle.std.proofs.Common.{◌≡◌, ◌&&◌, Bool, true, false, List, [], ◌∷◌, Option, None, Some, if◌then◌else◌, map, option_map, refl, sym, subst}
use Rattle.port_model.specs.declared.values.item.SignalId.{SignalId}
use Rattle.port_model.specs.declared.values.pid.Pid.TheVariants.{Null}
use Rattle.port_model.specs.declared.values.value.Value.TheVariants as value
use Rattle.build_expressions.specs.Contexts.{allows_instance, allows_word}
use Rattle.build_expressions.specs.OperandSorts.{fits, kind_of, result_of, unary_result_of}
use Rattle.build_expressions.specs.Partial.{both}
use Rattle.build_expressions.specs.Scope.{Scope, SignalMeaning, signal, timer, signal_in, value_in}
use Rattle.build_expressions.specs.Typing.{Argument, Typed, active_term, active_typed, activity, are_taken, argument_in, argument_terms, arguments_in, binary_typed, chain_typed, is_taken, joined_by, name_typed, of_variable as typed_variable, taken_term, term_in, typed_in, unary_typed, with_operation, word_typed}
use Rattle.build_expressions.specs.declared.context.Context as contexts
use Rattle.build_expressions.specs.declared.operand_sort.OperandSort.{OperandSort}
use Rattle.build_expressions.specs.declared.operand_sort.OperandSort.TheVariants.{Free, Boolean, Pid}
use Rattle.build_expressions.specs.declared.operator.TypedOperation.{TypedOperation}
use Rattle.build_expressions.specs.declared.operator.TypedUnaryOperation.{TypedUnaryOperation}
use Rattle.build_expressions.specs.declared.scope.Constant.TheVariants as constants
use Rattle.build_expressions.specs.declared.scope.ValueMeaning.{ValueMeaning}
use Rattle.build_expressions.specs.declared.scope.ValueMeaning.TheVariants as meant
use Rattle.laws_sound_runs.specs.Kinds.{FitPlaces, FitsPlace, HasKind, and_place, no_place, of_binary, of_now, of_pid, of_timer, of_unary, of_value, of_variable}
use Rattle.laws_sound_runs.specs.TermLaws.{ListedTermsFit, PlacedTermsFit, TermsHaveKinds}
use Rattle.laws_sound_runs.specs.Scopes.{IsSoundScope, IsSoundSignal, IsSoundValue}
use Rattle.sdl_system.specs.System.{SystemValue}
use Rattle.sdl_system.specs.Term.{Term, terms_of, unary, binary, variable}
use Rattle.sdl_system.specs.declared.expression.PidExpression.TheVariants as who
use Rattle.sdl_system.specs.declared.process.Process.{Process}
use Rattle.sdl_system.specs.declared.sort.Sort.{Sort}
use Rattle.sdl_tree.specs.Tree.{Expr, Exprs, Links, Numeral, Named, Keyword, Active, Paren, Unary, Chain, NoExpr, AndExpr, NoLink, AndLink}
use Rattle.sdl_tree.specs.declared.expressions.KeywordValue.{KeywordValue}
use Rattle.sdl_tree.specs.declared.expressions.KeywordValue.TheVariants as keyword
use Rattle.sdl_tree.specs.declared.expressions.Operator.{Operator}
use Rattle.sdl_tree.specs.declared.expressions.UnaryOperator.{UnaryOperator}

and-true : (a b : Bool) → (a && b) ≡ true → (a ≡ true) × (b ≡ true)
and-true true b is = (refl, is)
and-true false b is = absurd (let never : ⊥ = cc in never)

module _ (system : SystemValue) (process : Process) where
  -- ---- what is there is of its kind

  abbrev pub TermOf : OperandSort → Option Term → Type 0
  TermOf kind None = Unit {0}
  TermOf kind (Some term) = HasKind system process kind term

  abbrev pub Kinded : Option Typed → Type 0
  Kinded None = Unit {0}
  Kinded (Some typed) = TermOf typed.kind typed.term

  if-kinded : (b : Bool) (typed : Option Typed) → Kinded typed → Kinded (if b then typed else None)
  if-kinded true typed has = has
  if-kinded false typed has = tt

  -- ---- names and words

  name-kinded : (context : contexts.Context) (found : Option ValueMeaning) →
      ((meaning : ValueMeaning) → found ≡ Some meaning → IsSoundValue process meaning) →
      Kinded (name_typed context found)
  name-kinded context None sound = tt
  name-kinded context (Some (meant.Variable number None)) sound =
      if-kinded (allows_instance context) None tt
  name-kinded context (Some (meant.Variable number (Some sort))) sound =
      let has : IsSoundValue process (meant.Variable number (Some sort)) =
      sound (meant.Variable number (Some sort)) refl in
      let same : sort ≡ (has.0).sort = cc has.2 in
      if-kinded (allows_instance context) (Some (typed_variable number sort))
      (subst (λ (s : Sort). HasKind system process (kind_of s) (variable number)) (sym same)
      (of_variable number has.0 has.1))
  name-kinded context (Some (meant.Synonym None v)) sound = tt
  name-kinded context (Some (meant.Synonym (Some sort) (constants.Value v))) sound =
      of_value (kind_of sort) v (sound (meant.Synonym (Some sort) (constants.Value v)) refl)
  name-kinded context (Some (meant.Synonym (Some sort) constants.NoValue)) sound = tt
  name-kinded context (Some (meant.Synonym (Some sort) constants.Refused)) sound = tt

  word-kinded : (word : KeywordValue) → Kinded (Some (word_typed word))
  word-kinded keyword.True = of_value Boolean (value.Bool true) refl
  word-kinded keyword.False = of_value Boolean (value.Bool false) refl
  word-kinded keyword.Null = of_value Pid (value.Pid Null) refl
  word-kinded keyword.Now = of_now
  word-kinded keyword.SelfPid = of_pid who.SelfPid
  word-kinded keyword.Parent = of_pid who.Parent
  word-kinded keyword.Offspring = of_pid who.Offspring
  word-kinded keyword.Sender = of_pid who.Sender

  -- ---- operators

  unary-term : (operator : UnaryOperator) (kind : OperandSort) (result : TypedUnaryOperation) (operand : Option Term) →
      unary_result_of operator kind ≡ Some result → TermOf kind operand →
      TermOf result.kind (option_map (unary result.operation) operand)
  unary-term operator kind result None is has = tt
  unary-term operator kind result (Some operand) is has = of_unary operator kind operand result is has

  unary-result : (operator : UnaryOperator) (operand : Typed) (result : Option TypedUnaryOperation) →
      unary_result_of operator operand.kind ≡ result → Kinded (Some operand) →
      Kinded (option_map (with_operation operand) result)
  unary-result operator operand None is has = tt
  unary-result operator operand (Some result) is has = unary-term operator operand.kind result operand.term is has

  unary-kinded : (operator : UnaryOperator) (operand : Option Typed) → Kinded operand →
      Kinded (unary_typed operator operand)
  unary-kinded operator None has = tt
  unary-kinded operator (Some operand) has =
      unary-result operator operand (unary_result_of operator operand.kind) refl has

  binary-term : (operator : Operator) (one other : OperandSort) (result : TypedOperation) (left right : Option Term) →
      result_of operator one other ≡ Some result → TermOf one left → TermOf other right →
      TermOf result.kind (both (binary result.operation) left right)
  binary-term operator one other result None right is has also = tt
  binary-term operator one other result (Some left) None is has also = tt
  binary-term operator one other result (Some left) (Some right) is has also =
      of_binary operator one other left right result is has also

  binary-result : (operator : Operator) (left right : Typed) (result : Option TypedOperation) →
      result_of operator left.kind right.kind ≡ result → Kinded (Some left) → Kinded (Some right) →
      Kinded (option_map (joined_by left right) result)
  binary-result operator left right None is has also = tt
  binary-result operator left right (Some result) is has also =
      binary-term operator left.kind right.kind result left.term right.term is has also

  binary-kinded : (operator : Operator) (left right : Option Typed) → Kinded left → Kinded right →
      Kinded (binary_typed operator left right)
  binary-kinded operator None right has also = tt
  binary-kinded operator (Some left) None has also = tt
  binary-kinded operator (Some left) (Some right) has also =
      binary-result operator left right (result_of operator left.kind right.kind) refl has also

  -- ---- values at places

  abbrev AllKinded : List Argument → Type 0
  AllKinded [] = Unit {0}
  AllKinded (argument ∷ arguments) = Kinded argument.typed × AllKinded arguments

  abbrev FitIf : List Sort → Option (List Term) → Type 0
  FitIf sorts None = Unit {0}
  FitIf sorts (Some terms) = FitPlaces system process sorts (terms_of terms)

  fit-both : (sort : Sort) (sorts : List Sort) (typed : Option Typed) (rest : Option (List Term)) →
      is_taken (Some sort) typed ≡ true → Kinded typed → FitIf sorts rest →
      FitIf (sort ∷ sorts) (both ◌∷◌ (term_in typed) rest)
  fit-both sort sorts None rest taken has also = absurd (let never : ⊥ = cc in never)
  fit-both sort sorts (Some typed) rest taken has also = fit-term typed.kind typed.term rest taken has also
    where
      fit-term : (kind : OperandSort) (first : Option Term) (rest : Option (List Term)) → fits kind sort ≡ true →
          TermOf kind first → FitIf sorts rest → FitIf (sort ∷ sorts) (both ◌∷◌ first rest)
      fit-term kind None rest taken has also = tt
      fit-term kind (Some first) None taken has also = tt
      fit-term kind (Some first) (Some rest) taken has also =
          and_place kind sort sorts first (terms_of rest) taken has also

  pub all-fit : (sorts : List Sort) (arguments : List Argument) → are_taken (map Some sorts) arguments ≡ true →
      AllKinded arguments → FitIf sorts (argument_terms arguments)
  all-fit [] [] taken has = no_place
  all-fit [] (argument ∷ arguments) taken has = absurd (let never : ⊥ = cc in never)
  all-fit (sort ∷ sorts) [] taken has = absurd (let never : ⊥ = cc in never)
  all-fit (sort ∷ sorts) (argument ∷ arguments) taken has =
      let are = and-true (is_taken (Some sort) argument.typed) (are_taken (map Some sorts) arguments) taken in
      fit-both sort sorts argument.typed (argument_terms arguments) are.0 has.0 (all-fit sorts arguments are.1 has.1)

  -- ---- timers

  timer-term : (number : SignalId) (places : List (Option Sort)) (has_default : Bool) (terms : Option (List Term)) →
      (sound : IsSoundSignal system (timer number places has_default)) → FitIf (sound.0).sorts.items terms →
      TermOf Boolean (option_map (active_term number) terms)
  timer-term number places has_default None sound fit = tt
  timer-term number places has_default (Some terms) sound fit =
      of_timer number sound.0 sound.1 (terms_of terms) sound.2 sound.4 fit

  taken-timer : (number : SignalId) (places : List (Option Sort)) (has_default : Bool) (arguments : List Argument)
      (allowed is : Bool) → (are_taken places arguments && allowed) ≡ is →
      IsSoundSignal system (timer number places has_default) → AllKinded arguments →
      Kinded (if is then Some (activity number arguments) else None)
  taken-timer number places has_default arguments allowed false same sound has = tt
  taken-timer number places has_default arguments allowed true same sound has =
      let taken = and-true (are_taken places arguments) allowed same in
      timer-term number places has_default (argument_terms arguments) sound
      (all-fit (sound.0).sorts.items arguments
      (subst (λ (list : List (Option Sort)). are_taken list arguments ≡ true) sound.3 taken.0) has)

  active-kinded : (context : contexts.Context) (found : Option SignalMeaning) (arguments : List Argument) →
      ((meaning : SignalMeaning) → found ≡ Some meaning → IsSoundSignal system meaning) → AllKinded arguments →
      Kinded (active_typed context found arguments)
  active-kinded context None arguments sound has = tt
  active-kinded context (Some (signal number places)) arguments sound has = tt
  active-kinded context (Some (timer number places has_default)) arguments sound has =
      taken-timer number places has_default arguments (allows_instance context)
      (are_taken places arguments && allows_instance context) refl (sound (timer number places has_default) refl) has

  -- ---- expressions

  module _ (context : contexts.Context) (scope : Scope) (sound : IsSoundScope system process scope) where
    mutual
      pub typed-kinded : (expression : Expr) → Kinded (typed_in context scope expression)
      typed-kinded (Numeral number) = of_value Free (value.Int number.value) refl
      typed-kinded (Named name) = name-kinded context (value_in scope name.text) (sound.values name.text)
      typed-kinded (Keyword value word) =
          if-kinded (allows_word context value) (Some (word_typed value)) (word-kinded value)
      typed-kinded (Active word name values) =
          active-kinded context (signal_in scope name.text) (arguments_in context scope values)
          (sound.signals name.text) (arguments-kinded values)
      typed-kinded (Paren word inner) = typed-kinded inner
      typed-kinded (Unary operator word operand) =
          unary-kinded operator (typed_in context scope operand) (typed-kinded operand)
      typed-kinded (Chain first rest) = chain-kinded rest (typed_in context scope first) (typed-kinded first)

      chain-kinded : (links : Links) (left : Option Typed) → Kinded left →
          Kinded (chain_typed context scope left links)
      chain-kinded NoLink left has = has
      chain-kinded (AndLink operator word operand rest) left has =
          chain-kinded rest (binary_typed operator left (typed_in context scope operand))
          (binary-kinded operator left (typed_in context scope operand) has (typed-kinded operand))

      arguments-kinded : (values : Exprs) → AllKinded (arguments_in context scope values)
      arguments-kinded NoExpr = tt
      arguments-kinded (AndExpr first rest) = (typed-kinded first, arguments-kinded rest)

    pub each-kinded : (values : List Expr) → AllKinded (map (argument_in context scope) values)
    each-kinded [] = tt
    each-kinded (value ∷ values) = (typed-kinded value, each-kinded values)

-- ---- the laws

pub terms-have-kinds : TermsHaveKinds
terms-have-kinds system process context scope expression typed term sound is known =
    subst (TermOf system process typed.kind) known
    (subst (Kinded system process) is (typed-kinded system process context scope sound expression))

module _ (system : SystemValue) (process : Process) (sort : Sort) where
  taken-fits : (typed : Typed) (term : Term) (is : Bool) → fits typed.kind sort ≡ is →
      Kinded system process (Some typed) →
      term_in (if is then Some typed else None) ≡ Some term → FitsPlace system process sort term
  taken-fits typed term false fitting has known = absurd (let never : ⊥ = cc in never)
  taken-fits typed term true fitting has known = record {
    kind = typed.kind;
    fitting = fitting;
    is = subst (TermOf system process typed.kind) known has;
  }

  found-fits : (found : Option Typed) (term : Term) → Kinded system process found →
      taken_term (Some sort) found ≡ Some term → FitsPlace system process sort term
  found-fits None term has known = absurd (let never : ⊥ = cc in never)
  found-fits (Some typed) term has known = taken-fits typed term (fits typed.kind sort) refl has known

pub placed-terms-fit : PlacedTermsFit
placed-terms-fit system process context scope sort expression term sound known =
    found-fits system process sort (typed_in context scope expression) term
    (typed-kinded system process context scope sound expression) known

module _ (system : SystemValue) (process : Process) (sorts : List Sort) (arguments : List Argument)
    (has : AllKinded system process arguments) where
  if-taken : (terms : List Term) (is : Bool) → are_taken (map Some sorts) arguments ≡ is →
      (if is then argument_terms arguments else None) ≡ Some terms → FitPlaces system process sorts (terms_of terms)
  if-taken terms false taken known = absurd (let never : ⊥ = cc in never)
  if-taken terms true taken known =
      subst (FitIf system process sorts) known (all-fit system process sorts arguments taken has)

pub listed-terms-fit : ListedTermsFit
listed-terms-fit system process context scope sorts values terms sound known =
    if-taken system process sorts (map (argument_in context scope) values)
    (each-kinded system process context scope sound values) terms
    (are_taken (map Some sorts) (map (argument_in context scope) values)) refl known
