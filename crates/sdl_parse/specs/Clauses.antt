-- Reading of `set`. A reading is a device of the proofs: what the grammar spells, `sdl_tree` says.
use Rattle.std.specs.Prelude.{ℕ, zero, suc, Bool, true, false, if◌then◌else◌, List, [], ◌∷◌, Option, Some, None}
use Rattle.sdl_tree.specs.declared.mark.Mark.{Mark}
use Rattle.sdl_tree.specs.declared.mark.Mark.TheVariants as mark
use Rattle.sdl_tree.specs.declared.name.Spelling.{Spelling}
use Rattle.sdl_tree.specs.Tree.{Expr, Applied, SetClause, Action, Set}
use Rattle.sdl_tree.specs.Words.{Words}
use Rattle.sdl_parse.specs.declared.behaviour.clauses.Look.{Look}
use Rattle.sdl_parse.specs.declared.behaviour.clauses.Look.TheVariants as looks
use Rattle.sdl_parse.specs.Actions.{applied}
use Rattle.parse_expressions.specs.Expressions.{expr}
use Rattle.parse_expressions.specs.Parts.{ended}
use Rattle.parse_expressions.specs.Reading.{Parser, ◌⊗◌, behind, before, made, either, mark_by, same_mark, expect, separated}

abbrev pub look_comma : ℕ → Look
look_comma zero = looks.Comma
look_comma (suc inside) = looks.Inside (suc inside)

abbrev pub look_close : ℕ → Look
look_close zero = looks.End
look_close (suc inside) = looks.Inside inside

abbrev pub look_mark : ℕ → Mark → Look
look_mark inside m =
    if same_mark m mark.Semicolon then looks.End
    else (if same_mark m mark.Comma then look_comma inside
    else (if same_mark m mark.Close then look_close inside
    else (if same_mark m mark.Open then looks.Inside (suc inside) else looks.Inside inside)))

-- what a word that stands inside so many parentheses says of the comma of a clause
unfoldable pub look_at : ℕ → Option Mark → Look
look_at inside None = looks.Inside inside
look_at inside (Some m) = look_mark inside m

-- how many parentheses it leaves open
abbrev pub inside_of : Look → ℕ → ℕ
inside_of looks.Comma before = before
inside_of looks.End before = before
inside_of (looks.Inside inside) before = inside

abbrev pub found_by : Look → (ℕ → Bool) → Bool
found_by looks.Comma on = true
found_by looks.End on = false
found_by (looks.Inside inside) on = on inside

-- Whether a comma stands ahead outside parentheses, before a `)` that closes none of them, a `;` and the end of the text.
unfoldable pub comma_ahead : ℕ → Words → Bool
comma_ahead inside [] = false
comma_ahead inside (w ∷ i) = found_by (look_at inside (mark_by (Some w))) (λ now. comma_ahead now i)

abbrev pub timed_with : Expr × Applied → SetClause
timed_with p = record { time = Some p.0; timer = p.1 }

-- expr "," NAME [args] ")"
unfoldable pub timed : ℕ → Parser SetClause
timed depth = made timed_with (before (before (expr depth) mark.Comma ⊗ applied depth) mark.Close)

abbrev pub untimed_with : Applied → SetClause
untimed_with a = record { time = None; timer = a }

-- NAME [args] ")"
unfoldable pub untimed : ℕ → Parser SetClause
untimed depth = made untimed_with (before (applied depth) mark.Close)

-- clause = "(" expr "," NAME [args] ")" | "(" NAME [args] ")"
unfoldable pub clause : ℕ → Parser SetClause
clause depth = behind mark.Open (either (comma_ahead 0) (timed depth) (untimed depth))

abbrev pub set_with : Spelling × List SetClause → Action
set_with p = Set p.0 p.1

-- "set" clause {"," clause} end
unfoldable pub set : ℕ → Parser Action
set depth = made set_with (expect mark.Set ⊗ ended (separated (clause depth)))
