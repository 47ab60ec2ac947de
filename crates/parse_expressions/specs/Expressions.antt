-- Reading of expressions.
use Rattle.std.specs.Prelude.{ℕ, zero, suc, ◌==◌, if◌then◌else◌, Bool, is_some, List, [], ◌∷◌, Option, Some, None, Ok, Err}
use Rattle.sdl_tree.specs.declared.expressions.KeywordValue.{KeywordValue}
use Rattle.sdl_tree.specs.declared.expressions.KeywordValue.TheVariants as value
use Rattle.sdl_tree.specs.declared.expressions.UnaryOperator.{UnaryOperator}
use Rattle.sdl_tree.specs.declared.expressions.UnaryOperator.TheVariants as unary
use Rattle.sdl_tree.specs.declared.expressions.Operator.{Operator}
use Rattle.sdl_tree.specs.declared.expressions.Operator.TheVariants as operator
use Rattle.sdl_tree.specs.declared.mark.Mark.{Mark}
use Rattle.sdl_tree.specs.declared.mark.Mark.TheVariants as mark
use Rattle.sdl_tree.specs.declared.name.Spelling.{Spelling}
use Rattle.sdl_tree.specs.Spells.Expressions.{value_mark, unary_mark, operator_mark, looseness, loosest}
use Rattle.sdl_tree.specs.Tree.{Expr, Numeral, Named, Keyword, Active, Paren, Unary, Chain, Link, exprs_of, links_of}
use Rattle.sdl_tree.specs.Words.{Words, Spot}
use Rattle.parse_expressions.specs.Reading.{Parser, Refused, Deep, and_then, too_deep, refuse, on, ◌⊗◌, behind, before, made, either, maybe, mark_at, sees, sees_name, sees_number, expect, name, number, repeated, in_parentheses}

-- the operator between two operands that a mark is
abbrev pub operator_of : Mark → Option Operator
operator_of mark.Implies = Some operator.Implies
operator_of mark.Or = Some operator.Or
operator_of mark.Xor = Some operator.Xor
operator_of mark.And = Some operator.And
operator_of mark.Equal = Some operator.Equal
operator_of mark.NotEqual = Some operator.NotEqual
operator_of mark.Less = Some operator.Less
operator_of mark.LessOrEqual = Some operator.LessOrEqual
operator_of mark.Greater = Some operator.Greater
operator_of mark.GreaterOrEqual = Some operator.GreaterOrEqual
operator_of mark.Plus = Some operator.Plus
operator_of mark.Minus = Some operator.Minus
operator_of mark.Asterisk = Some operator.Times
operator_of mark.Slash = Some operator.Divide
operator_of mark.Mod = Some operator.Mod
operator_of mark.Rem = Some operator.Rem
operator_of _ = None

-- the operand that a mark is alone
abbrev pub value_of : Mark → Option KeywordValue
value_of mark.True = Some value.True
value_of mark.False = Some value.False
value_of mark.Null = Some value.Null
value_of mark.Now = Some value.Now
value_of mark.SelfPid = Some value.SelfPid
value_of mark.Parent = Some value.Parent
value_of mark.Offspring = Some value.Offspring
value_of mark.Sender = Some value.Sender
value_of _ = None

-- the operator before an operand that a mark is
abbrev pub unary_of : Mark → Option UnaryOperator
unary_of mark.Minus = Some unary.Minus
unary_of mark.Not = Some unary.Not
unary_of _ = None

abbrev pub by_mark : {K : Type 0} → (Mark → Option K) → Option Mark → Option K
by_mark find None = None
by_mark find (Some m) = find m

abbrev pub of_level : ℕ → Option Operator → Option Operator
of_level k None = None
of_level k (Some o) = if looseness o == k then Some o else None

-- the operator of this looseness that stands next
unfoldable pub operator_at : ℕ → Words → Option Operator
operator_at k i = of_level k (by_mark operator_of (mark_at i))

unfoldable pub value_at : Words → Option KeywordValue
value_at i = by_mark value_of (mark_at i)

unfoldable pub unary_at : Words → Option UnaryOperator
unary_at i = by_mark unary_of (mark_at i)

-- one of some marks, with its spelling
abbrev pub marked : {K : Type 0} → (Words → Option K) → (K → Mark) → Parser (K × Spelling)
marked find mark_of = λ i. on (find i) (Err (Refused i)) (λ v. and_then (expect (mark_of v) i) (λ s j. Ok ((v, s), j)))

-- ---- what is read inside one more pair of parentheses

pub record Readers : Type 0 where
  pub paren : Parser Expr
  pub active : Parser Expr
  pub args : Parser (List Expr)

abbrev pub keyword_with : KeywordValue × Spelling → Expr
keyword_with p = Keyword p.0 p.1

abbrev pub paren_with : Spelling × Expr → Expr
paren_with p = Paren p.0 p.1

abbrev pub active_with : Spelling × (Spot × List Expr) → Expr
active_with p = Active p.0 p.1.0 (exprs_of p.1.1)

abbrev pub unary_with : (UnaryOperator × Spelling) × Expr → Expr
unary_with p = Unary p.0.0 p.0.1 p.1

abbrev pub link_with : (Operator × Spelling) × Expr → Link
link_with p = record { operator = p.0.0; word = p.0.1; operand = p.1 }

-- operands with operators between them, or one operand alone
abbrev pub chain_with : Expr → List Link → Expr
chain_with e [] = e
chain_with e (l ∷ ls) = Chain e (links_of (l ∷ ls))

abbrev pub sees_value : Words → Bool
sees_value i = is_some (value_at i)

abbrev pub sees_unary : Words → Bool
sees_unary i = is_some (unary_at i)

abbrev pub sees_operator : ℕ → Words → Bool
sees_operator k i = is_some (operator_at k i)

unfoldable pub primary : Readers → Parser Expr
primary r =
    either sees_name (made Named name)
    (either sees_number (made Numeral number)
    (either sees_value (made keyword_with (marked value_at value_mark))
    (either (sees mark.Open) r.paren
    (either (sees mark.Active) r.active refuse))))

unfoldable pub signed : Readers → Parser Expr
signed r = either sees_unary (made unary_with (marked unary_at unary_mark ⊗ primary r)) (primary r)

-- an operator of this looseness and its operand, if one stands next
unfoldable pub link : Parser Expr → ℕ → Parser (Option Link)
link operand k = maybe (sees_operator k) (made link_with (marked (operator_at k) operator_mark ⊗ operand))

abbrev pub chain : Parser Expr → ℕ → Parser Expr
chain operand k = made (λ p. chain_with p.0 p.1) (operand ⊗ repeated (link operand k))

unfoldable pub level : Readers → ℕ → Parser Expr
level r zero = primary r
level r (suc zero) = signed r
level r (suc (suc k)) = chain (level r (suc k)) (suc (suc k))

abbrev pub expr_by : Readers → Parser Expr
expr_by r = level r loosest

unfoldable pub paren_of : Parser Expr → Parser Expr
paren_of inner = made paren_with (expect mark.Open ⊗ before inner mark.Close)

unfoldable pub active_of : Parser (List Expr) → Parser Expr
active_of args = made active_with (expect mark.Active ⊗ behind mark.Open (before (name ⊗ args) mark.Close))

-- `active`, where its parenthesis would stand inside too many
unfoldable pub deep_active : Parser Expr
deep_active = behind mark.Active (λ i. if sees mark.Open i then Err (Deep i) else Err (Refused i))

abbrev pub no_args : Parser (List Expr)
no_args = λ i. if sees mark.Open i then Err (Deep i) else Ok ([], i)

-- as many parentheses as this may stand inside each other
unfoldable pub readers : ℕ → Readers
readers zero = record { paren = too_deep; active = deep_active; args = no_args }
readers (suc depth) = record { paren = paren_of (expr_by (readers depth)); active = active_of (readers depth).args; args = in_parentheses (expr_by (readers depth)) }

-- expr
abbrev pub expr : ℕ → Parser Expr
expr depth = expr_by (readers depth)
