-- The lists of names and of faults have what is named and what is broken, and what leads to a circle doesn't settle.
use Rattle.std.proofs.Common.{◌≡◌, ◌∙◌, ◌++◌, ◌⊎◌, ℕ, List, [], ◌∷◌, Option, None, Some, flat_map, refl, ap, sym, subst, inl, inr}
use Rattle.std.specs.List.{slice_get}
use Rattle.std.specs.Option.{unwrap_or}
use Rattle.build_names.proofs.FaultLemmas.{each-of, in-each}
use Rattle.build_names.specs.FaultLaws.{Each, In}
use Rattle.build_names.specs.Faults.{Diagnostic}
use Rattle.build_names.specs.Names.{first_of}
use Rattle.build_expressions.proofs.ConstantLaws.{broken-listed-constant, listed-broken-constant}
use Rattle.build_expressions.proofs.ListedLaws.{each-weaker}
use Rattle.build_expressions.specs.Broken.{IsBrokenConstant, InLinks, InValues, Within}
use Rattle.build_expressions.specs.Broken as broken
use Rattle.build_expressions.specs.declared.scope.Constant.{Constant}
use Rattle.build_expressions.specs.declared.scope.ValueEntry.{ValueEntry}
use Rattle.build_expressions.specs.declared.scope.ValueEntry.TheVariants as entry
use Rattle.build_constants.proofs.NamedLemmas.{listed}
use Rattle.build_constants.specs.SynonymsBroken.{IsBrokenSynonym, LeadsTo, Names, StandsFor}
use Rattle.build_constants.specs.SynonymsBroken as way
use Rattle.build_constants.specs.Named.{named_in, named_in_links, named_in_values, synonym_in}
use Rattle.build_constants.specs.SettledSynonyms.{Settles, named_by, scope_with, synonym_faults}
use Rattle.build_constants.specs.SettledSynonyms as synonyms
use Rattle.build_constants.specs.declared.synonyms.synonym.Synonym.{Synonym}
use Rattle.sdl_tree.specs.Tree.{Expr, Exprs, Links, Numeral, Named, Keyword, Active, Paren, Unary, Chain, NoExpr, AndExpr, NoLink, AndLink}
use Rattle.sdl_tree.specs.Views.{expr_value}
use Rattle.sdl_tree.specs.Words.{Spot}

-- ---- names

in-either : {A : Type 0} (x : A) (xs ys : List A) → In x (xs ++ ys) → In x xs ⊎ In x ys
in-either x [] ys at = inr at
in-either x (y ∷ xs) ys at =
    elim at [
      | inl e ↦ inl (inl e)
      | inr i ↦ elim (in-either x xs ys i) [ inl left ↦ inl (inr left) | inr right ↦ inr right ]
    ]

module _ (values : List (List ℕ × ValueEntry)) (number : ℕ) where
  stands-for : (name : Spot) (found : Option ValueEntry) → first_of values name.text ≡ found →
      In number (synonym_in found) → StandsFor values name number
  stands-for name None is at = absurd at
  stands-for name (Some (entry.Variable variable sort)) is at = absurd at
  stands-for name (Some (entry.Synonym synonym sort)) is at =
      elim at [
        | inl e ↦ record { synonym = synonym; sort = sort; meant = is; numbered = sym e }
        | inr never ↦ absurd never
      ]

  mutual
    found : (whole : Expr) → In number (named_in values whole) →
        (name : Spot) × Within (Named name) whole × StandsFor values name number
    found (Numeral n) at = absurd at
    found (Named name) at = (name, broken.itself, stands-for name (first_of values name.text) refl at)
    found (Keyword value word) at = absurd at
    found (Active word timer inner) at =
        let f = found-values inner at in (f.0, broken.value_of_timer f.1, f.2)
    found (Paren word inner) at = let f = found inner at in (f.0, broken.in_parentheses f.1, f.2)
    found (Unary operator word operand) at = let f = found operand at in (f.0, broken.behind_operator f.1, f.2)
    found (Chain first rest) at =
        elim (in-either number (named_in values first) (named_in_links values rest) at) [
          | inl here ↦ let f = found first here in (f.0, broken.first_operand f.1, f.2)
          | inr later ↦ let f = found-links rest later in (f.0, broken.later_operand f.1, f.2)
        ]

    found-links : (links : Links) → In number (named_in_links values links) →
        (name : Spot) × InLinks (Named name) links × StandsFor values name number
    found-links NoLink at = absurd at
    found-links (AndLink operator word operand rest) at =
        elim (in-either number (named_in values operand) (named_in_links values rest) at) [
          | inl here ↦ let f = found operand here in (f.0, broken.this_operand f.1, f.2)
          | inr later ↦ let f = found-links rest later in (f.0, broken.behind_operand f.1, f.2)
        ]

    found-values : (list : Exprs) → In number (named_in_values values list) →
        (name : Spot) × InValues (Named name) list × StandsFor values name number
    found-values NoExpr at = absurd at
    found-values (AndExpr first rest) at =
        elim (in-either number (named_in values first) (named_in_values values rest) at) [
          | inl here ↦ let f = found first here in (f.0, broken.this_value f.1, f.2)
          | inr later ↦ let f = found-values rest later in (f.0, broken.behind_value f.1, f.2)
        ]

pub listed-named : (values : List (List ℕ × ValueEntry)) (whole : Expr) (number : ℕ) →
    In number (named_in values whole) →
    Names values whole number
listed-named values whole number at =
    let f = found values number whole at in record { name = f.0; within = f.1; stands_for = f.2 }

pub named-listed : (values : List (List ℕ × ValueEntry)) (whole : Expr) (number : ℕ) → Names values whole number →
    In number (named_in values whole)
named-listed values whole number names =
    listed values number names.within
    (subst (λ entry. In number (synonym_in entry)) (sym names.stands_for.meant) (inl (sym names.stands_for.numbered)))

-- ---- circles

-- what one names at once on the way to the other
record Step (list : List Synonym) (other number : ℕ) (synonym : Synonym) : Type 0 where
  next : ℕ
  here : In next (named_by synonym)
  then : (next ≡ other) ⊎ LeadsTo list other next

first-step : (list : List Synonym) (other number : ℕ) (synonym : Synonym) → slice_get list number ≡ Some synonym →
    LeadsTo list other number → Step list other number synonym
first-step list other number synonym at (way.names n s is names) =
    let same : s ≡ synonym = ap (λ f. unwrap_or f s) (sym is ∙ at) in
    record {
      next = other;
      here = subst (λ x. In other (named_by x)) same (named-listed _ _ other names);
      then = inl refl;
    }
first-step list other number synonym at (way.by n s next is names path) =
    let same : s ≡ synonym = ap (λ f. unwrap_or f s) (sym is ∙ at) in
    record {
      next = next;
      here = subst (λ x. In next (named_by x)) same (named-listed _ _ next names);
      then = inr path;
    }

further : (list : List Synonym) (middle last number : ℕ) → LeadsTo list middle number → LeadsTo list last middle →
    LeadsTo list last number
further list middle last number (way.names n s is names) path = way.by n s middle is names path
further list middle last number (way.by n s next is names way') path =
    way.by n s next is names (further list middle last next way' path)

no-circle : (list : List Synonym) (number : ℕ) → Settles list number → LeadsTo list number number → ⊥
no-circle list number (synonyms.settles n synonym at each) circle =
    let step = first-step list n n synonym at circle in
    let names = listed-named _ _ step.next step.here in
    no-circle list step.next (each step.next step.here)
    (elim step.then [
      | inl same ↦ subst (λ m. LeadsTo list m m) (sym same) circle
      | inr path ↦ further list n step.next step.next path (way.names n synonym at names)
    ])

settled-next : (list : List Synonym) (number : ℕ) (synonym : Synonym) → slice_get list number ≡ Some synonym →
    Settles list number → (next : ℕ) → In next (named_by synonym) → Settles list next
settled-next list number synonym at (synonyms.settles n s is each) next here =
    let same : synonym ≡ s = ap (λ f. unwrap_or f synonym) (sym at ∙ is) in
    each next (subst (λ x. In next (named_by x)) same here)

pub circle-unsettled : (list : List Synonym) (circle number : ℕ) → LeadsTo list circle number →
    LeadsTo list circle circle → Settles list number → ⊥
circle-unsettled list circle number (way.names n s at names) round settled =
    no-circle list circle (settled-next list n s at settled circle (named-listed _ _ circle names)) round
circle-unsettled list circle number (way.by n s next at names path) round settled =
    circle-unsettled list circle next path round (settled-next list n s at settled next (named-listed _ _ next names))

-- ---- faults

pub listed-broken : (list : List Synonym) (table : List Constant) →
    Each (IsBrokenSynonym list table) (flat_map (synonym_faults table) list)
listed-broken list table =
    each-of (IsBrokenSynonym list table) (synonym_faults table) list
    (λ synonym at. each-weaker
    (IsBrokenConstant (scope_with table synonym) synonym.sort (expr_value synonym.expression.now))
    (IsBrokenSynonym list table) (synonym_faults table synonym)
    (λ fault is. record { synonym = synonym; listed = at; broken = is })
    (listed-broken-constant (scope_with table synonym) synonym.sort (expr_value synonym.expression.now)))

pub broken-listed : (list : List Synonym) (table : List Constant) (fault : Diagnostic) →
    IsBrokenSynonym list table fault →
    In fault (flat_map (synonym_faults table) list)
broken-listed list table fault at =
    in-each fault (synonym_faults table) list at.synonym at.listed
    (broken-listed-constant (scope_with table at.synonym) at.synonym.sort (expr_value at.synonym.expression.now) fault
    at.broken)
