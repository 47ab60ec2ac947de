-- Reading of the answers of a decision. A reading is a device of the proofs: what the grammar spells, `sdl_tree` says.
use Rattle.std.specs.Prelude.{ℕ, Option, Some, None}
use Rattle.sdl_tree.specs.declared.expressions.Operator.{Operator}
use Rattle.sdl_tree.specs.declared.mark.Mark.TheVariants as mark
use Rattle.sdl_tree.specs.declared.name.Spelling.{Spelling}
use Rattle.sdl_tree.specs.Spells.Expressions.{operator_mark}
use Rattle.sdl_tree.specs.Tree.{Expr, Answer, Value, Range, Compared}
use Rattle.parse_expressions.specs.Expressions.{expr, operator_at, marked, sees_operator}
use Rattle.parse_expressions.specs.Reading.{Parser, ◌⊗◌, behind, made, either, maybe, sees}

-- [":" expr]
unfoldable pub range_end : ℕ → Parser (Option Expr)
range_end depth = maybe (sees mark.Colon) (behind mark.Colon (expr depth))

abbrev pub value_or_range : Expr → Option Expr → Answer
value_or_range e None = Value e
value_or_range e (Some last) = Range e last

-- expr [":" expr]
unfoldable pub value_answer : ℕ → Parser Answer
value_answer depth = made (λ p. value_or_range p.0 p.1) (expr depth ⊗ range_end depth)

abbrev pub compared_with : (Operator × Spelling) × Expr → Answer
compared_with p = Compared p.0.0 p.0.1 p.1

-- answer = expr [":" expr] | ("=" | "/=" | "<" | "<=" | ">" | ">=") expr, where the comparisons have looseness 4
unfoldable pub answer : ℕ → Parser Answer
answer depth = either (sees_operator 4) (made compared_with (marked (operator_at 4) operator_mark ⊗ expr depth)) (value_answer depth)
