-- The word with which an expression begins.
use Rattle.build_names.specs.Faults.{mark_word}
use Rattle.sdl_tree.specs.Spells.Expressions.{unary_mark, value_mark}
use Rattle.sdl_tree.specs.Tree.{Expr, Numeral, Named, Keyword, Active, Paren, Unary, Chain}
use Rattle.sdl_tree.specs.Words.{Spot}
use Rattle.sdl_tree.specs.declared.mark.Mark.TheVariants as mark

abbrev pub first_word : Expr → Spot
first_word (Numeral number) = number.digits
first_word (Named name) = name
first_word (Keyword value word) = mark_word (value_mark value) word
first_word (Active word timer values) = mark_word mark.Active word
first_word (Paren word inner) = mark_word mark.Open word
first_word (Unary operator word operand) = mark_word (unary_mark operator) word
first_word (Chain first rest) = first_word first
