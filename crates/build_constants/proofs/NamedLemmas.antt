-- What an expression comes to rests on what signals and the names within it stand for.
use Rattle.std.proofs.Common.{◌≡◌, ◌∙◌, ◌++◌, ℕ, List, ◌∷◌, Option, None, Some, option_map, refl, ap, sym, inl}
use Rattle.std.proofs.lemmas.Option.{unwrap_or-slice_get}
use Rattle.build_expressions.specs.declared.scope.Constant.TheVariants.{NoValue}
use Rattle.build_names.proofs.FaultLemmas.{in-left, in-right}
use Rattle.build_names.specs.FaultLaws.{In}
use Rattle.build_names.specs.Names.{first_of, first_outward}
use Rattle.build_expressions.proofs.ScopeLemmas.{meaning-first, outward-first}
use Rattle.build_expressions.specs.Broken.{Within, InLinks, InValues}
use Rattle.build_expressions.specs.Broken as broken
use Rattle.build_expressions.specs.Constants.{counted}
use Rattle.build_expressions.specs.Scope.{Scope, signal_in, value_in, value_meaning, visible}
use Rattle.build_expressions.specs.Typing.{Typed, Argument, active_typed, arguments_in, binary_typed, chain_typed, name_typed, taken_in, typed_in, unary_typed}
use Rattle.build_expressions.specs.Words.{first_word}
use Rattle.build_expressions.specs.declared.context.Context.{Context}
use Rattle.build_expressions.specs.declared.context.Context.TheVariants as context
use Rattle.build_expressions.specs.declared.scope.Constant.{Constant}
use Rattle.build_expressions.specs.declared.scope.ValueEntry.{ValueEntry}
use Rattle.build_expressions.specs.declared.scope.ValueEntry.TheVariants as entry
use Rattle.build_expressions.specs.declared.scope.ValueMeaning.TheVariants as meant
use Rattle.build_constants.specs.Named.{named_in, named_in_links, named_in_values, synonym_in}
use Rattle.build_constants.specs.SettledSynonyms.{constant_of, constant_with, named_by, scope_with}
use Rattle.build_constants.specs.declared.synonyms.synonym.Synonym.{Synonym}
use Rattle.sdl_tree.specs.Tree.{Expr, Exprs, Links, Numeral, Named, Keyword, Active, Paren, Unary, Chain, NoExpr, AndExpr, NoLink, AndLink}
use Rattle.sdl_tree.specs.Views.{expr_value}
use Rattle.sdl_tree.specs.Words.{Spot}

module _ (context : Context) (one other : Scope) (signals : (text : List ℕ) → signal_in one text ≡ signal_in other text) where
  mutual
    same-typed : (whole : Expr) →
        ((name : Spot) → Within (Named name) whole → value_in one name.text ≡ value_in other name.text) →
        typed_in context one whole ≡ typed_in context other whole
    same-typed (Numeral number) same = refl
    same-typed (Named name) same = ap (name_typed context) (same name broken.itself)
    same-typed (Keyword value word) same = refl
    same-typed (Active word name values) same =
        ap (λ found. active_typed context found (arguments_in context one values)) (signals name.text)
        ∙ ap (active_typed context (signal_in other name.text))
        (same-arguments values (λ n at. same n (broken.value_of_timer at)))
    same-typed (Paren word inner) same = same-typed inner (λ n at. same n (broken.in_parentheses at))
    same-typed (Unary operator word operand) same =
        ap (unary_typed operator) (same-typed operand (λ n at. same n (broken.behind_operator at)))
    same-typed (Chain first rest) same =
        ap (λ left. chain_typed context one left rest) (same-typed first (λ n at. same n (broken.first_operand at)))
        ∙ same-chain rest (typed_in context other first) (λ n at. same n (broken.later_operand at))

    same-chain : (rest : Links) (left : Option Typed) →
        ((name : Spot) → InLinks (Named name) rest → value_in one name.text ≡ value_in other name.text) →
        chain_typed context one left rest ≡ chain_typed context other left rest
    same-chain NoLink left same = refl
    same-chain (AndLink operator word operand rest) left same =
        ap (λ right. chain_typed context one (binary_typed operator left right) rest)
        (same-typed operand (λ n at. same n (broken.this_operand at)))
        ∙ same-chain rest (binary_typed operator left (typed_in context other operand))
        (λ n at. same n (broken.behind_operand at))

    same-arguments : (values : Exprs) →
        ((name : Spot) → InValues (Named name) values → value_in one name.text ≡ value_in other name.text) →
        arguments_in context one values ≡ arguments_in context other values
    same-arguments NoExpr same = refl
    same-arguments (AndExpr first rest) same =
        let with : Option Typed → List Argument → List Argument =
        λ typed arguments. record { word = first_word first; typed = typed } ∷ arguments in
        ap (λ typed. with typed (arguments_in context one rest))
        (same-typed first (λ n at. same n (broken.this_value at)))
        ∙ ap (with (typed_in context other first)) (same-arguments rest (λ n at. same n (broken.behind_value at)))

pub typed-by-names : (context : Context) (one other : Scope) (whole : Expr) →
    ((text : List ℕ) → signal_in one text ≡ signal_in other text) →
    ((name : Spot) → Within (Named name) whole → value_in one name.text ≡ value_in other name.text) →
    typed_in context one whole ≡ typed_in context other whole
typed-by-names context one other whole signals same = same-typed context one other signals whole same

-- ---- the names within an expression are among those that it names

module _ (values : List (List ℕ × ValueEntry)) (number : ℕ) where
  mutual
    pub listed : {part whole : Expr} → Within part whole → In number (named_in values part) → In number (named_in values whole)
    listed broken.itself at = at
    listed (broken.in_parentheses inner) at = listed inner at
    listed (broken.behind_operator inner) at = listed inner at
    listed (broken.first_operand {part} {first} {rest} inner) at =
        in-left number (named_in values first) (named_in_links values rest) (listed inner at)
    listed (broken.later_operand {part} {first} {rest} inner) at =
        in-right number (named_in values first) (named_in_links values rest) (listed-links inner at)
    listed (broken.value_of_timer inner) at = listed-values inner at

    listed-links : {part : Expr} {links : Links} → InLinks part links → In number (named_in values part) →
        In number (named_in_links values links)
    listed-links (broken.this_operand {part} {operand} {operator} {word} {rest} inner) at =
        in-left number (named_in values operand) (named_in_links values rest) (listed inner at)
    listed-links (broken.behind_operand {part} {operand} {operator} {word} {rest} inner) at =
        in-right number (named_in values operand) (named_in_links values rest) (listed-links inner at)

    listed-values : {part : Expr} {list : Exprs} → InValues part list → In number (named_in values part) →
        In number (named_in_values values list)
    listed-values (broken.this_value {part} {value} {rest} inner) at =
        in-left number (named_in values value) (named_in_values values rest) (listed inner at)
    listed-values (broken.behind_value {part} {value} {rest} inner) at =
        in-right number (named_in values value) (named_in_values values rest) (listed-values inner at)

-- ---- tables that agree on the synonyms that one names

same-meaning : (one other : List Constant) (found : Option ValueEntry) →
    ((number : ℕ) → In number (synonym_in found) → constant_of one number ≡ constant_of other number) →
    option_map (value_meaning one) found ≡ option_map (value_meaning other) found
same-meaning one other None same = refl
same-meaning one other (Some (entry.Variable number sort)) same = refl
same-meaning one other (Some (entry.Synonym number sort)) same =
    ap (λ constant. Some (meant.Synonym sort constant))
    (unwrap_or-slice_get one number.0 NoValue ∙ same number.0 (inl refl)
    ∙ sym (unwrap_or-slice_get other number.0 NoValue))

pub same-constant : (one other : List Constant) (synonym : Synonym) →
    ((number : ℕ) → In number (named_by synonym) → constant_of one number ≡ constant_of other number) →
    constant_with one synonym ≡ constant_with other synonym
same-constant one other synonym same =
    let values = visible synonym.values in
    let whole = expr_value synonym.expression.now in
    ap (λ typed. counted synonym.sort (taken_in synonym.sort typed))
    (typed-by-names context.Constant (scope_with one synonym) (scope_with other synonym) whole (λ text. refl)
    (λ name at. meaning-first (value_meaning one) values name.text
    ∙ same-meaning one other (first_of values name.text)
    (λ number here. same number (listed values number at here))
    ∙ sym (meaning-first (value_meaning other) values name.text)))

-- ---- the scopes round a place

pub named-outward : (process block system : List (List ℕ × ValueEntry)) (text : List ℕ) (found : Option ValueEntry) →
    found ≡ first_outward process block system text →
    synonym_in found ≡ synonym_in (first_of (process ++ (block ++ system)) text)
named-outward process block system text found is = ap synonym_in (is ∙ outward-first process block system text)
