-- Tokens in order lie within the text.
use Rattle.std.proofs.Common.{ℕ, ◌≤◌, List, [], ◌∷◌, arith}
use Rattle.sdl_lex.specs.declared.token.Token.{Token}
use Rattle.std.specs.List.{All, AllByRecursion}
use Rattle.std.proofs.lemmas.List.Elements.{All-from_recursion}
use Rattle.sdl_lex.specs.Token.{InOrder, IsWithin}

InOrder-up : (from : ℕ) (ts : List Token) (to : ℕ) → InOrder from ts to → from ≤ to
InOrder-up from [] to h = h
InOrder-up from (t ∷ ts) to h = let rest = InOrder-up t.end ts to h.2 in omega arith

each_within : (from : ℕ) (ts : List Token) (to : ℕ) → InOrder from ts to → AllByRecursion (IsWithin to) ts
each_within from [] to h = tt
each_within from (t ∷ ts) to h = ((h.1, InOrder-up t.end ts to h.2), each_within t.end ts to h.2)

pub All-from_order : (from : ℕ) (ts : List Token) (to : ℕ) → InOrder from ts to → All (IsWithin to) ts
All-from_order from ts to h = All-from_recursion (IsWithin to) ts (each_within from ts to h)
