-- What the code keeps of expressions that are resolved.
use Rattle.std.specs.Prelude.{map, option_map}
use Rattle.build_names.specs.Faults.{token_word}
use Rattle.build_expressions.specs.Typing as typing
use Rattle.build_expressions.specs.declared.arguments.Argument.{Argument}
use Rattle.build_expressions.specs.declared.left.Left.{Left}
use Rattle.build_expressions.specs.declared.left.Operands.{Operands}
use Rattle.build_expressions.specs.declared.typed.Typed.{Typed}
use Rattle.sdl_system.specs.Term.{Term, chained, operand_of, term_of}

abbrev pub typed_of : Typed → typing.Typed
typed_of typed = record {
  kind = typed.kind;
  term = option_map term_of typed.expression;
  is_refused = typed.is_refused;
}

abbrev pub operands_term : Operands → Term
operands_term operands = chained (term_of operands.first) (map operand_of operands.rest.items)

-- what stands on the left of an operator
abbrev pub left_of : Left → typing.Typed
left_of left = record {
  kind = left.kind;
  term = option_map operands_term left.operands;
  is_refused = left.is_refused;
}

abbrev pub argument_of : Argument → typing.Argument
argument_of argument = record { word = token_word argument.token; typed = option_map typed_of argument.typed }
