-- Which words spell which expression.
use Rattle.std.specs.Prelude.{◌≡◌, ℕ, ◌⊎◌, zero, suc, List}
use Rattle.sdl_tree.specs.declared.expressions.KeywordValue.{KeywordValue}
use Rattle.sdl_tree.specs.declared.expressions.KeywordValue.TheVariants as value
use Rattle.sdl_tree.specs.declared.expressions.UnaryOperator.{UnaryOperator}
use Rattle.sdl_tree.specs.declared.expressions.UnaryOperator.TheVariants as unary
use Rattle.sdl_tree.specs.declared.expressions.Operator.{Operator}
use Rattle.sdl_tree.specs.declared.expressions.Operator.TheVariants as operator
use Rattle.sdl_tree.specs.declared.mark.Mark.{Mark}
use Rattle.sdl_tree.specs.declared.mark.Mark.TheVariants as mark
use Rattle.sdl_tree.specs.Spells.Parts.{IsMark, Both, Behind, Before, RepeatedOnce, InParentheses, SpellsName, SpellsNumber}
use Rattle.sdl_tree.specs.Tree.{Expr, Numeral, Named, Keyword, Active, Paren, Unary, Chain, exprs_in, Link, links_in, Applied}
use Rattle.sdl_tree.specs.Words.{Spot, Words}

-- how many parentheses and decisions may stand inside each other
abbrev pub limit : ℕ
limit = 64

abbrev pub value_mark : KeywordValue → Mark
value_mark value.True = mark.True
value_mark value.False = mark.False
value_mark value.Null = mark.Null
value_mark value.Now = mark.Now
value_mark value.SelfPid = mark.SelfPid
value_mark value.Parent = mark.Parent
value_mark value.Offspring = mark.Offspring
value_mark value.Sender = mark.Sender

abbrev pub unary_mark : UnaryOperator → Mark
unary_mark unary.Minus = mark.Minus
unary_mark unary.Not = mark.Not

abbrev pub operator_mark : Operator → Mark
operator_mark operator.Implies = mark.Implies
operator_mark operator.Or = mark.Or
operator_mark operator.Xor = mark.Xor
operator_mark operator.And = mark.And
operator_mark operator.Equal = mark.Equal
operator_mark operator.NotEqual = mark.NotEqual
operator_mark operator.Less = mark.Less
operator_mark operator.LessOrEqual = mark.LessOrEqual
operator_mark operator.Greater = mark.Greater
operator_mark operator.GreaterOrEqual = mark.GreaterOrEqual
operator_mark operator.Plus = mark.Plus
operator_mark operator.Minus = mark.Minus
operator_mark operator.Times = mark.Asterisk
operator_mark operator.Divide = mark.Slash
operator_mark operator.Mod = mark.Mod
operator_mark operator.Rem = mark.Rem

-- A primary has looseness 0 and a unary operator 1; the weakest operator is the loosest.
abbrev pub looseness : Operator → ℕ
looseness operator.Implies = 7
looseness operator.Or = 6
looseness operator.Xor = 6
looseness operator.And = 5
looseness operator.Equal = 4
looseness operator.NotEqual = 4
looseness operator.Less = 4
looseness operator.LessOrEqual = 4
looseness operator.Greater = 4
looseness operator.GreaterOrEqual = 4
looseness operator.Plus = 3
looseness operator.Minus = 3
looseness operator.Times = 2
looseness operator.Divide = 2
looseness operator.Mod = 2
looseness operator.Rem = 2

abbrev pub loosest : ℕ
loosest = 7

-- primary = NUMBER | "true" | "false" | "null" | NAME | "now" | "self" | "parent" | "offspring" | "sender"
--         | "active" "(" NAME [args] ")" | "(" expr ")"
-- `Inner` says what expression may stand in the parentheses, and `Timer` what timer in those behind `active`.
abbrev pub SpellsPrimary : (Expr → Words → Words → Type 0) → (Spot × List Expr → Words → Words → Type 0) → Expr → Words → Words → Type 0
SpellsPrimary Inner Timer (Numeral n) i j = SpellsNumber n i j
SpellsPrimary Inner Timer (Named x) i j = SpellsName x i j
SpellsPrimary Inner Timer (Keyword v w) i j = IsMark (value_mark v) w i j
SpellsPrimary Inner Timer (Active w timer values) i j =
    Both (IsMark mark.Active) (Behind mark.Open (Before Timer mark.Close)) (w, (timer, exprs_in values)) i j
SpellsPrimary Inner Timer (Paren w e) i j = Both (IsMark mark.Open) (Before Inner mark.Close) (w, e) i j
SpellsPrimary Inner Timer (Unary o w e) i j = ⊥
SpellsPrimary Inner Timer (Chain e links) i j = ⊥

-- ("-" | "not") primary
abbrev pub SpellsUnary : (Expr → Words → Words → Type 0) → Expr → Words → Words → Type 0
SpellsUnary Operand (Unary o w e) i j = Both (IsMark (unary_mark o)) Operand (w, e) i j
SpellsUnary Operand _ i j = ⊥

-- an operator of this looseness and the operand behind it
abbrev pub SpellsLink : (Expr → Words → Words → Type 0) → ℕ → Link → Words → Words → Type 0
SpellsLink Operand loose l i j = (looseness l.operator ≡ loose) × Both (IsMark (operator_mark l.operator)) Operand (l.word, l.operand) i j

-- operands with operators of this looseness between them
abbrev pub SpellsChain : (Expr → Words → Words → Type 0) → ℕ → Expr → Words → Words → Type 0
SpellsChain Operand loose (Chain e links) i j = Both Operand (RepeatedOnce (SpellsLink Operand loose)) (e, links_in links) i j
SpellsChain Operand loose _ i j = ⊥

-- an expression of at most this looseness
abbrev pub SpellsAt : (Expr → Words → Words → Type 0) → (Spot × List Expr → Words → Words → Type 0) → ℕ → Expr → Words → Words → Type 0
SpellsAt Inner Timer zero e i j = SpellsPrimary Inner Timer e i j
SpellsAt Inner Timer (suc zero) e i j = SpellsPrimary Inner Timer e i j ⊎ SpellsUnary (SpellsPrimary Inner Timer) e i j
SpellsAt Inner Timer (suc (suc k)) e i j = SpellsAt Inner Timer (suc k) e i j ⊎ SpellsChain (SpellsAt Inner Timer (suc k)) (suc (suc k)) e i j

abbrev mutual
  -- What may stand in parentheses that count, where they and those in them are at most so many inside each other: with
  -- none left, nothing.
  pub SpellsInner : ℕ → Expr → Words → Words → Type 0
  SpellsInner zero e i j = ⊥
  SpellsInner (suc depth) e i j = SpellsAt (SpellsInner depth) (SpellsTimer depth) loosest e i j

  -- NAME [args] behind `active`, where both pairs of parentheses count
  pub SpellsTimer : ℕ → Spot × List Expr → Words → Words → Type 0
  SpellsTimer zero t i j = ⊥
  SpellsTimer (suc depth) t i j = Both SpellsName (InParentheses (SpellsInner depth)) t i j

-- expr, with at most `depth` parentheses inside each other
abbrev pub SpellsExpr : ℕ → Expr → Words → Words → Type 0
SpellsExpr depth e i j = SpellsAt (SpellsInner depth) (SpellsTimer depth) loosest e i j

-- NAME [args], where args = "(" expr {"," expr} ")"
abbrev pub SpellsApplied : ℕ → Applied → Words → Words → Type 0
SpellsApplied depth a i j = Both SpellsName (InParentheses (SpellsExpr depth)) (a.name, a.values) i j
