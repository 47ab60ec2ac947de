-- One that names a synonym that doesn't settle has no value, which is noted.
use Rattle.std.proofs.Common.{◌≡◌, ◌∙◌, ◌&&◌, ℕ, Bool, true, false, List, Option, None, Some, option_map, if◌then◌else◌, refl, ap, sym, subst}
use Rattle.std.proofs.lemmas.Option.{unwrap_or-slice_get}
use Rattle.std.specs.Option.{option_and_then}
use Rattle.build_names.specs.FaultLaws.{In}
use Rattle.build_names.specs.Faults.{diagnostic_at}
use Rattle.build_names.specs.declared.faults.fault.Rule.TheVariants.{BadCount}
use Rattle.build_expressions.proofs.ConstantLaws.{broken-listed-constant}
use Rattle.build_expressions.proofs.ScopeLemmas.{meaning-first}
use Rattle.build_expressions.specs.Broken.{InLinks, LacksValue, TakesKind, Within}
use Rattle.build_expressions.specs.Broken as broken
use Rattle.build_expressions.specs.Constants.{value_of}
use Rattle.build_expressions.specs.OperandSorts.{result_of, unary_result_of}
use Rattle.build_expressions.specs.Partial.{both}
use Rattle.build_expressions.specs.Scope.{Scope, SignalMeaning, signal, timer, signal_in, value_in, value_meaning, visible}
use Rattle.build_expressions.specs.Typing.{Argument, Typed, active_typed, activity, are_taken, arguments_in, binary_typed, chain_typed, joined_by, name_typed, of_synonym, typed_in, unary_typed, with_operation}
use Rattle.build_expressions.specs.Words.{first_word}
use Rattle.build_expressions.specs.declared.context.Context.TheVariants.{Constant}
use Rattle.build_expressions.specs.declared.operator.TypedOperation.{TypedOperation}
use Rattle.build_expressions.specs.declared.operator.TypedUnaryOperation.{TypedUnaryOperation}
use Rattle.build_expressions.specs.declared.scope.Constant as constants
use Rattle.build_expressions.specs.declared.scope.Constant.TheVariants.{NoValue}
use Rattle.build_expressions.specs.declared.scope.ValueMeaning.TheVariants as meant
use Rattle.build_constants.specs.SynonymsBroken.{Names}
use Rattle.build_constants.specs.SettledSynonyms.{AreConstants, Settles, constant_of, scope_with, synonym_faults}
use Rattle.build_constants.specs.declared.synonyms.synonym.Synonym.{Synonym}
use Rattle.sdl_system.specs.Term.{Term, binary, unary}
use Rattle.sdl_system.specs.declared.sort.Sort.{Sort}
use Rattle.sdl_tree.specs.Tree.{Expr, Links, Named, NoLink, AndLink}
use Rattle.sdl_tree.specs.Views.{expr_value}
use Rattle.sdl_tree.specs.declared.expressions.Operator.{Operator}
use Rattle.sdl_tree.specs.declared.expressions.UnaryOperator.{UnaryOperator}

-- ---- expressions without a term

abbrev LacksTerm : Option Typed → Type 0
LacksTerm None = Unit {0}
LacksTerm (Some typed) = typed.term ≡ None

both-none : (f : Term → Term → Term) (left : Option Term) → both f left None ≡ None
both-none f None = refl
both-none f (Some term) = refl

unary-of : (operand : Typed) (result : Option TypedUnaryOperation) → operand.term ≡ None →
    LacksTerm (option_map (with_operation operand) result)
unary-of operand None lacks = tt
unary-of operand (Some result) lacks = ap (option_map (unary result.operation)) lacks

unary-lacks : (operator : UnaryOperator) (operand : Option Typed) → LacksTerm operand →
    LacksTerm (unary_typed operator operand)
unary-lacks operator None lacks = tt
unary-lacks operator (Some operand) lacks = unary-of operand (unary_result_of operator operand.kind) lacks

left-of : (left right : Typed) (result : Option TypedOperation) → left.term ≡ None →
    LacksTerm (option_map (joined_by left right) result)
left-of left right None lacks = tt
left-of left right (Some result) lacks = ap (λ term. both (binary result.operation) term right.term) lacks

right-of : (left right : Typed) (result : Option TypedOperation) → right.term ≡ None →
    LacksTerm (option_map (joined_by left right) result)
right-of left right None lacks = tt
right-of left right (Some result) lacks =
    ap (both (binary result.operation) left.term) lacks ∙ both-none (binary result.operation) left.term

left-lacks : (operator : Operator) (left right : Option Typed) → LacksTerm left →
    LacksTerm (binary_typed operator left right)
left-lacks operator None right lacks = tt
left-lacks operator (Some left) None lacks = tt
left-lacks operator (Some left) (Some right) lacks =
    left-of left right (result_of operator left.kind right.kind) lacks

right-lacks : (operator : Operator) (left right : Option Typed) → LacksTerm right →
    LacksTerm (binary_typed operator left right)
right-lacks operator None right lacks = tt
right-lacks operator (Some left) None lacks = tt
right-lacks operator (Some left) (Some right) lacks =
    right-of left right (result_of operator left.kind right.kind) lacks

never-both : (taken : Bool) (typed : Typed) → LacksTerm (if taken && false then Some typed else None)
never-both true typed = tt
never-both false typed = tt

active-lacks : (found : Option SignalMeaning) (arguments : List Argument) →
    LacksTerm (active_typed Constant found arguments)
active-lacks None arguments = tt
active-lacks (Some (signal number sorts)) arguments = tt
active-lacks (Some (timer number sorts has_default)) arguments =
    never-both (are_taken sorts arguments) (activity number arguments)

synonym-lacks : (sort : Option Sort) → LacksTerm (option_map (of_synonym NoValue) sort)
synonym-lacks None = tt
synonym-lacks (Some sort) = refl

module _ (scope : Scope) where
  chain-lacks : (links : Links) (left : Option Typed) → LacksTerm left →
      LacksTerm (chain_typed Constant scope left links)
  chain-lacks NoLink left lacks = lacks
  chain-lacks (AndLink operator word operand rest) left lacks =
      let right = typed_in Constant scope operand in
      chain-lacks rest (binary_typed operator left right) (left-lacks operator left right lacks)

  mutual
    whole-lacks : {part whole : Expr} → Within part whole → LacksTerm (typed_in Constant scope part) →
        LacksTerm (typed_in Constant scope whole)
    whole-lacks broken.itself lacks = lacks
    whole-lacks (broken.in_parentheses inner) lacks = whole-lacks inner lacks
    whole-lacks (broken.behind_operator {part} {operand} {operator} {word} inner) lacks =
        unary-lacks operator (typed_in Constant scope operand) (whole-lacks inner lacks)
    whole-lacks (broken.first_operand {part} {first} {rest} inner) lacks =
        chain-lacks rest (typed_in Constant scope first) (whole-lacks inner lacks)
    whole-lacks (broken.later_operand {part} {first} {rest} inner) lacks =
        links-lack inner (typed_in Constant scope first) lacks
    whole-lacks (broken.value_of_timer {part} {word} {name} {values} inner) lacks =
        active-lacks (signal_in scope name.text) (arguments_in Constant scope values)

    links-lack : {part : Expr} {links : Links} → InLinks part links → (left : Option Typed) →
        LacksTerm (typed_in Constant scope part) → LacksTerm (chain_typed Constant scope left links)
    links-lack (broken.this_operand {part} {operand} {operator} {word} {rest} inner) left lacks =
        let right = typed_in Constant scope operand in
        chain-lacks rest (binary_typed operator left right) (right-lacks operator left right (whole-lacks inner lacks))
    links-lack (broken.behind_operand {part} {operand} {operator} {word} {rest} inner) left lacks =
        links-lack inner (binary_typed operator left (typed_in Constant scope operand)) lacks

-- ---- synonyms that rest on one that doesn't settle

lacks-value : (place : Option Sort) (term : Option Term) → term ≡ None →
    LacksValue place (option_and_then value_of term)
lacks-value place term is =
    subst (λ t. LacksValue place (option_and_then value_of t)) (sym is) (broken.no_value place)

pub unvalued-noted : (list : List Synonym) (table : List constants.Constant) → AreConstants list table →
    (synonym : Synonym) (named : ℕ) → Names (visible synonym.values) (expr_value synonym.expression.now) named →
    (Settles list named → ⊥) → (typed : Typed) →
    typed_in Constant (scope_with table synonym) (expr_value synonym.expression.now) ≡ Some typed →
    TakesKind synonym.sort typed.kind → typed.is_refused ≡ false →
    In (diagnostic_at BadCount (first_word (expr_value synonym.expression.now))) (synonym_faults table synonym)
unvalued-noted list table are synonym named names unsettled typed typed_is taken accepted =
    let values = visible synonym.values in
    let whole = expr_value synonym.expression.now in
    let scope = scope_with table synonym in
    let at = names.stands_for in
    let meaning : value_in scope names.name.text ≡ Some (meant.Synonym at.sort NoValue) =
    meaning-first (value_meaning table) values names.name.text
    ∙ ap (option_map (value_meaning table)) at.meant
    ∙ ap (λ constant. Some (meant.Synonym at.sort constant))
    (unwrap_or-slice_get table at.synonym.0 NoValue ∙ ap (constant_of table) at.numbered
    ∙ are.unsettled named unsettled) in
    let name_lacks : LacksTerm (typed_in Constant scope (Named names.name)) =
    subst (λ found. LacksTerm (name_typed Constant found)) (sym meaning) (synonym-lacks at.sort) in
    let term_is : typed.term ≡ None = subst LacksTerm typed_is (whole-lacks scope names.within name_lacks) in
    broken-listed-constant scope synonym.sort whole (diagnostic_at BadCount (first_word whole))
    (broken.count (record {
      typed = typed;
      typed_is = typed_is;
      taken = taken;
      accepted = accepted;
      lacks = lacks-value synonym.sort typed.term term_is;
    }))
