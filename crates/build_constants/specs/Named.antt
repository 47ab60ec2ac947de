-- The synonyms that an expression names.
use Rattle.std.specs.Prelude.{◌++◌, ℕ, List, [], ◌∷◌, Option, None, Some}
use Rattle.build_names.specs.Names.{first_of}
use Rattle.build_expressions.specs.declared.scope.ValueEntry.{ValueEntry}
use Rattle.build_expressions.specs.declared.scope.ValueEntry.TheVariants as entry
use Rattle.sdl_tree.specs.Tree.{Expr, Exprs, Links, Numeral, Named, Keyword, Active, Paren, Unary, Chain, NoExpr, AndExpr, NoLink, AndLink}

-- the number of the synonym that a name stands for, if it stands for one
abbrev pub synonym_in : Option ValueEntry → List ℕ
synonym_in None = []
synonym_in (Some (entry.Variable number sort)) = []
synonym_in (Some (entry.Synonym number sort)) = number.0 ∷ []

-- the numbers of those that the expression names, in the order of the text, where names stand for these
abbrev mutual
  pub named_in : List (List ℕ × ValueEntry) → Expr → List ℕ
  named_in values (Numeral number) = []
  named_in values (Named name) = synonym_in (first_of values name.text)
  named_in values (Keyword value word) = []
  named_in values (Active word timer inner) = named_in_values values inner
  named_in values (Paren word inner) = named_in values inner
  named_in values (Unary operator word operand) = named_in values operand
  named_in values (Chain first rest) = named_in values first ++ named_in_links values rest

  pub named_in_links : List (List ℕ × ValueEntry) → Links → List ℕ
  named_in_links values NoLink = []
  named_in_links values (AndLink operator word operand rest) = named_in values operand ++ named_in_links values rest

  pub named_in_values : List (List ℕ × ValueEntry) → Exprs → List ℕ
  named_in_values values NoExpr = []
  named_in_values values (AndExpr first rest) = named_in values first ++ named_in_values values rest
