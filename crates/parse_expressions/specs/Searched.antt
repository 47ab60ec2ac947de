-- How far a text was searched for line ends.
use Rattle.std.specs.Prelude.{ℕ, ◌+◌, ◌-◌, Bool, true, false}
use Rattle.sdl_lex.specs.declared.place.Place.{Place}
use Rattle.sdl_lex.specs.declared.token.Kind.{Kind}
use Rattle.sdl_lex.specs.declared.token.Kind.TheVariants as kind
use Rattle.sdl_lex.specs.declared.token.Token.{Token}
use Rattle.parse_expressions.specs.declared.word.Searched.{Searched}

-- whether a line may end in a token of this kind
abbrev pub may_break : Kind → Bool
may_break kind.Word = false
may_break (kind.Number n) = false
may_break kind.Text = true
may_break kind.Mark = false

-- the place that stands so many bytes on in the same line
abbrev pub along : Place → ℕ → Place
along place n = record { line = place.line; column = place.column + n }

abbrev pub behind_by : Bool → Token → Place → Searched
behind_by true t place = record { offset = t.start; place = place }
behind_by false t place = record { offset = t.end; place = along place (t.end - t.start) }

-- after a token at this place, if no line ends in it, and else at its first byte
abbrev pub behind : Token → Place → Searched
behind t place = behind_by (may_break t.kind) t place
