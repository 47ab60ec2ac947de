use Rattle.std.proofs.Common.{◌≡◌, ◌≤◌, take}
use Rattle.sdl_lex.specs.Kind.{decimal}
use Rattle.sdl_lex.proofs.piece.decimal.Given as goal

abbrev pub invariant-loop-b : goal.invariant-loop-b
invariant-loop-b l = record {
  value : l.value ≡ decimal (take l.b-index l.digits);
  small : l.value ≤ 9223372036854775807;
}
