-- A constant expression whose names have their sorts, and in which no rule is broken, has a value, unless a synonym
-- in it is refused.
use Rattle.std.proofs.Common.{◌≡◌, ◌∙◌, ◌&&◌, ◌||◌, ◌++◌, ℕ, not, Bool, true, false, List, [], Option, None, Some, is_none, option_map, if◌then◌else◌, refl, ap, sym}
use Rattle.std.specs.Option.{option_and_then}
use Rattle.port_model.specs.declared.values.value.Value.{Value}
use Rattle.laws_complete.proofs.EmptyLemmas.{left-empty, not-broken, right-empty}
use Rattle.laws_complete.specs.Complete.{HasValue, IsThere}
use Rattle.build_names.specs.Faults.{fault_if}
use Rattle.build_names.specs.declared.faults.fault.Rule.TheVariants.{BadCount, Sort}
use Rattle.build_expressions.specs.Broken.{InLinks, TakesKind, Within}
use Rattle.build_expressions.specs.Broken as broken
use Rattle.build_expressions.specs.Constants.{constant_faults, constant_in, counted, counted_faults, is_miscounted, value_of, with_value}
use Rattle.build_expressions.specs.Contexts.{allows_word}
use Rattle.build_expressions.specs.OperandSorts.{fits, result_of, unary_result_of}
use Rattle.build_expressions.specs.Misused.{active_faults, binary_faults, expression_faults, fault_of_place, links_faults, name_faults, place_faults, unary_faults, word_faults}
use Rattle.build_expressions.specs.Scope.{Scope, SignalMeaning, signal, timer, signal_in, value_in}
use Rattle.build_expressions.specs.Typing.{Argument, Typed, active_typed, activity, are_taken, arguments_in, binary_typed, chain_typed, is_refused_in, joined_by, name_typed, taken_in, typed_in, unary_typed, with_operation, word_typed}
use Rattle.build_expressions.specs.Words.{first_word}
use Rattle.build_expressions.specs.declared.context.Context.TheVariants.{Constant}
use Rattle.build_expressions.specs.declared.operator.TypedOperation.{TypedOperation}
use Rattle.build_expressions.specs.declared.operator.TypedUnaryOperation.{TypedUnaryOperation}
use Rattle.build_expressions.specs.declared.scope.Constant as constants
use Rattle.build_expressions.specs.declared.scope.Constant.TheVariants as value
use Rattle.build_expressions.specs.declared.scope.ValueMeaning.{ValueMeaning}
use Rattle.build_expressions.specs.declared.scope.ValueMeaning.TheVariants as meant
use Rattle.sdl_system.specs.declared.sort.Sort as sorts
use Rattle.sdl_tree.specs.Tree.{Expr, Links, Numeral, Named, Keyword, Active, Paren, Unary, Chain, NoLink, AndLink}
use Rattle.sdl_tree.specs.Words.{Spot}
use Rattle.sdl_tree.specs.declared.expressions.KeywordValue.{KeywordValue}
use Rattle.sdl_tree.specs.declared.expressions.KeywordValue.TheVariants as keyword
use Rattle.sdl_tree.specs.declared.expressions.Operator.{Operator}
use Rattle.sdl_tree.specs.declared.expressions.UnaryOperator.{UnaryOperator}
use Rattle.sdl_tree.specs.declared.name.Spelling.{Spelling}

-- ---- each expression has a kind

name-typed : (name : Spot) (found : Option ValueMeaning) → name_faults Constant name found ≡ [] →
    ((sort : Option sorts.Sort) (constant : constants.Constant) → found ≡ Some (meant.Synonym sort constant) →
    IsThere sort) →
    IsThere (name_typed Constant found)
name-typed name None none there = cc
name-typed name (Some (meant.Variable number sort)) none there = cc
name-typed name (Some (meant.Synonym None constant)) none there = absurd (there None constant refl)
name-typed name (Some (meant.Synonym (Some sort) constant)) none there = tt

word-typed : (keyword : KeywordValue) (word : Spelling) → word_faults Constant keyword word ≡ [] →
    IsThere (if allows_word Constant keyword then Some (word_typed keyword) else None)
word-typed keyword.True word none = tt
word-typed keyword.False word none = tt
word-typed keyword.Null word none = tt
word-typed keyword.Now word none = cc
word-typed keyword.SelfPid word none = cc
word-typed keyword.Parent word none = cc
word-typed keyword.Offspring word none = cc
word-typed keyword.Sender word none = cc

unary-found : (operand : Typed) (result : Option TypedUnaryOperation) → is_none result ≡ false →
    IsThere (option_map (with_operation operand) result)
unary-found operand None is = cc
unary-found operand (Some result) is = tt

unary-there : (operator : UnaryOperator) (word : Spelling) (operand : Option Typed) → IsThere operand →
    unary_faults operator word operand ≡ [] → IsThere (unary_typed operator operand)
unary-there operator word None there none = absurd there
unary-there operator word (Some operand) there none =
    unary-found operand (unary_result_of operator operand.kind)
    (not-broken (is_none (unary_result_of operator operand.kind)) Sort _ none)

binary-found : (left right : Typed) (result : Option TypedOperation) → is_none result ≡ false →
    IsThere (option_map (joined_by left right) result)
binary-found left right None is = cc
binary-found left right (Some result) is = tt

binary-there : (operator : Operator) (word : Spelling) (left right : Option Typed) → IsThere left → IsThere right →
    binary_faults operator word left right ≡ [] → IsThere (binary_typed operator left right)
binary-there operator word None right first second none = absurd first
binary-there operator word (Some left) None first second none = absurd second
binary-there operator word (Some left) (Some right) first second none =
    binary-found left right (result_of operator left.kind right.kind)
    (not-broken (is_none (result_of operator left.kind right.kind)) Sort _ none)

never-active : (word : Spelling) → active_faults Constant word ≡ [] → ⊥
never-active word none = cc

-- each synonym that is seen has its sort
abbrev pub HaveSynonymSorts : Scope → Type 0
HaveSynonymSorts scope = (text : List ℕ) (sort : Option sorts.Sort) (constant : constants.Constant) →
    value_in scope text ≡ Some (meant.Synonym sort constant) → IsThere sort

module _ (scope : Scope) (there : HaveSynonymSorts scope) where
  mutual
    typed-there : (whole : Expr) → expression_faults Constant scope whole ≡ [] → IsThere (typed_in Constant scope whole)
    typed-there (Numeral number) none = tt
    typed-there (Named name) none = name-typed name (value_in scope name.text) none (there name.text)
    typed-there (Keyword keyword word) none = word-typed keyword word none
    typed-there (Active word name values) none =
        absurd (never-active word (left-empty (active_faults Constant word) _ none))
    typed-there (Paren word inner) none = typed-there inner none
    typed-there (Unary operator word operand) none =
        let typed = typed_in Constant scope operand in
        unary-there operator word typed
        (typed-there operand (left-empty (expression_faults Constant scope operand)
        (unary_faults operator word typed) none))
        (right-empty (expression_faults Constant scope operand) (unary_faults operator word typed) none)
    typed-there (Chain first rest) none =
        let typed = typed_in Constant scope first in
        chain-there rest typed
        (typed-there first (left-empty (expression_faults Constant scope first)
        (links_faults Constant scope typed rest) none))
        (right-empty (expression_faults Constant scope first) (links_faults Constant scope typed rest) none)

    chain-there : (links : Links) (left : Option Typed) → IsThere left → links_faults Constant scope left links ≡ [] →
        IsThere (chain_typed Constant scope left links)
    chain-there NoLink left first none = first
    chain-there (AndLink operator word operand rest) left first none =
        let right = typed_in Constant scope operand in
        let own = expression_faults Constant scope operand ++ binary_faults operator word left right in
        let joined = binary_typed operator left right in
        let here = left-empty own (links_faults Constant scope joined rest) none in
        chain-there rest joined
        (binary-there operator word left right first
        (typed-there operand (left-empty (expression_faults Constant scope operand)
        (binary_faults operator word left right) here))
        (right-empty (expression_faults Constant scope operand) (binary_faults operator word left right) here))
        (right-empty own (links_faults Constant scope joined rest) none)

-- ---- none is refused where no name in it is

unary-unrefused : (operand : Typed) (result : Option TypedUnaryOperation) → operand.is_refused ≡ false →
    is_refused_in (option_map (with_operation operand) result) ≡ false
unary-unrefused operand None is = refl
unary-unrefused operand (Some result) is = is

unary-accepted : (operator : UnaryOperator) (operand : Option Typed) → is_refused_in operand ≡ false →
    is_refused_in (unary_typed operator operand) ≡ false
unary-accepted operator None is = refl
unary-accepted operator (Some operand) is = unary-unrefused operand (unary_result_of operator operand.kind) is

neither : (a b : Bool) → a ≡ false → b ≡ false → (a || b) ≡ false
neither true b left right = left
neither false b left right = right

binary-unrefused : (left right : Typed) (result : Option TypedOperation) → left.is_refused ≡ false →
    right.is_refused ≡ false → is_refused_in (option_map (joined_by left right) result) ≡ false
binary-unrefused left right None first second = refl
binary-unrefused left right (Some result) first second = neither left.is_refused right.is_refused first second

binary-accepted : (operator : Operator) (left right : Option Typed) → is_refused_in left ≡ false →
    is_refused_in right ≡ false → is_refused_in (binary_typed operator left right) ≡ false
binary-accepted operator None right first second = refl
binary-accepted operator (Some left) None first second = refl
binary-accepted operator (Some left) (Some right) first second =
    binary-unrefused left right (result_of operator left.kind right.kind) first second

-- the name stands for no refused synonym
abbrev pub IsAccepted : Option ValueMeaning → Type 0
IsAccepted found = (sort : Option sorts.Sort) → found ≡ Some (meant.Synonym sort value.Refused) → ⊥

name-accepted : (found : Option ValueMeaning) → IsAccepted found → is_refused_in (name_typed Constant found) ≡ false
name-accepted None accepted = refl
name-accepted (Some (meant.Variable number sort)) accepted = refl
name-accepted (Some (meant.Synonym None constant)) accepted = refl
name-accepted (Some (meant.Synonym (Some sort) (value.Value v))) accepted = refl
name-accepted (Some (meant.Synonym (Some sort) value.NoValue)) accepted = refl
name-accepted (Some (meant.Synonym (Some sort) value.Refused)) accepted = absurd (accepted (Some sort) refl)

word-accepted : (keyword : KeywordValue) →
    is_refused_in (if allows_word Constant keyword then Some (word_typed keyword) else None) ≡ false
word-accepted keyword.True = refl
word-accepted keyword.False = refl
word-accepted keyword.Null = refl
word-accepted keyword.Now = refl
word-accepted keyword.SelfPid = refl
word-accepted keyword.Parent = refl
word-accepted keyword.Offspring = refl
word-accepted keyword.Sender = refl

never-both : (taken : Bool) (typed : Typed) → is_refused_in (if taken && false then Some typed else None) ≡ false
never-both true typed = refl
never-both false typed = refl

active-accepted : (found : Option SignalMeaning) (arguments : List Argument) →
    is_refused_in (active_typed Constant found arguments) ≡ false
active-accepted None arguments = refl
active-accepted (Some (signal number places)) arguments = refl
active-accepted (Some (timer number places has_default)) arguments =
    never-both (are_taken places arguments) (activity number arguments)

module _ (scope : Scope) where
  mutual
    pub accepted-in : (whole : Expr) →
        ((name : Spot) → Within (Named name) whole → IsAccepted (value_in scope name.text)) →
        is_refused_in (typed_in Constant scope whole) ≡ false
    accepted-in (Numeral number) each = refl
    accepted-in (Named name) each = name-accepted (value_in scope name.text) (each name broken.itself)
    accepted-in (Keyword keyword word) each = word-accepted keyword
    accepted-in (Active word name values) each =
        active-accepted (signal_in scope name.text) (arguments_in Constant scope values)
    accepted-in (Paren word inner) each = accepted-in inner (λ n at. each n (broken.in_parentheses at))
    accepted-in (Unary operator word operand) each =
        unary-accepted operator (typed_in Constant scope operand)
        (accepted-in operand (λ n at. each n (broken.behind_operator at)))
    accepted-in (Chain first rest) each =
        accepted-chain rest (typed_in Constant scope first) (λ n at. each n (broken.later_operand at))
        (accepted-in first (λ n at. each n (broken.first_operand at)))

    accepted-chain : (links : Links) (left : Option Typed) →
        ((name : Spot) → InLinks (Named name) links → IsAccepted (value_in scope name.text)) →
        is_refused_in left ≡ false → is_refused_in (chain_typed Constant scope left links) ≡ false
    accepted-chain NoLink left each first = first
    accepted-chain (AndLink operator word operand rest) left each first =
        accepted-chain rest (binary_typed operator left (typed_in Constant scope operand))
        (λ n at. each n (broken.behind_operand at))
        (binary-accepted operator left (typed_in Constant scope operand) first
        (accepted-in operand (λ n at. each n (broken.this_operand at))))

-- ---- the value

not-not : (b : Bool) → not b ≡ false → b ≡ true
not-not true is = refl
not-not false is = cc

-- what fits its place
pub record Fitting (place : Option sorts.Sort) (found : Option Typed) : Type 0 where
  pub typed : Typed
  pub typed_is : found ≡ Some typed
  pub taken : TakesKind place typed.kind
  pub taken_is : taken_in place found ≡ Some typed

taken-fitting : (sort : sorts.Sort) (typed : Typed) (is : Bool) → fits typed.kind sort ≡ is → not is ≡ false →
    Fitting (Some sort) (Some typed)
taken-fitting sort typed true is fitting =
    record {
      typed = typed;
      typed_is = refl;
      taken = broken.fitting sort typed.kind is;
      taken_is = ap (λ (b : Bool). if b then Some typed else None) is;
    }
taken-fitting sort typed false is fitting = cc

fitting-place : (place : Option sorts.Sort) (word : Spot) (found : Option Typed) → IsThere found →
    fault_of_place place word found ≡ [] → Fitting place found
fitting-place place word None there none = absurd there
fitting-place None word (Some typed) there none =
    record { typed = typed; typed_is = refl; taken = broken.any typed.kind; taken_is = refl }
fitting-place (Some sort) word (Some typed) there none =
    taken-fitting sort typed (fits typed.kind sort) refl (not-broken (not (fits typed.kind sort)) Sort word none)

-- an expression in which no rule is broken fits its place
pub fits-place : (scope : Scope) → HaveSynonymSorts scope → (place : Option sorts.Sort) (whole : Expr) →
    constant_faults scope place whole ≡ [] → Fitting place (typed_in Constant scope whole)
fits-place scope there place whole none =
    let typed = typed_in Constant scope whole in
    let inside = expression_faults Constant scope whole in
    let at = fault_of_place place (first_word whole) typed in
    let in_place = left-empty (place_faults Constant scope place whole) _ none in
    fitting-place place (first_word whole) typed (typed-there scope there whole (left-empty inside at in_place))
    (right-empty inside at in_place)

value-there : (place : Option sorts.Sort) (v : Option Value) → is_miscounted place v ≡ false →
    HasValue (with_value place v)
value-there place None is = cc
value-there place (Some v) is = tt

typed-value : (place : Option sorts.Sort) (word : Spot) (v : Option Value) (refused : Bool) → refused ≡ false →
    (if refused then [] else fault_if (is_miscounted place v) BadCount word) ≡ [] →
    HasValue (if refused then value.Refused else with_value place v)
typed-value place word v true accepted none = cc
typed-value place word v false accepted none =
    value-there place v (not-broken (is_miscounted place v) BadCount word none)

counted-value : (place : Option sorts.Sort) (word : Spot) (found : Option Typed) (typed : Typed) → found ≡ Some typed →
    typed.is_refused ≡ false → counted_faults place word found ≡ [] → HasValue (counted place found)
counted-value place word None typed is accepted none = cc
counted-value place word (Some other) typed is accepted none =
    let same : other ≡ typed = cc in
    typed-value place word (option_and_then value_of other.term) other.is_refused
    (ap (λ (t : Typed). t.is_refused) same ∙ accepted) none

pub accepted-typed : (scope : Scope) (place : Option sorts.Sort) (whole : Expr) →
    (fitting : Fitting place (typed_in Constant scope whole)) →
    ((name : Spot) → Within (Named name) whole → IsAccepted (value_in scope name.text)) →
    fitting.typed.is_refused ≡ false
accepted-typed scope place whole fitting each =
    sym (ap is_refused_in fitting.typed_is) ∙ accepted-in scope whole each

pub constant-valued : (scope : Scope) → HaveSynonymSorts scope → (place : Option sorts.Sort) (whole : Expr) →
    ((name : Spot) → Within (Named name) whole → IsAccepted (value_in scope name.text)) →
    constant_faults scope place whole ≡ [] → HasValue (constant_in scope place whole)
constant-valued scope there place whole each none =
    let found = typed_in Constant scope whole in
    let fitting = fits-place scope there place whole none in
    counted-value place (first_word whole) (taken_in place found) fitting.typed fitting.taken_is
    (accepted-typed scope place whole fitting each)
    (right-empty (place_faults Constant scope place whole)
    (counted_faults place (first_word whole) (taken_in place found)) none)
