-- What is shown of a text that is refused.
use Rattle.std.specs.Prelude.{◌≡◌, ℕ, Bool, true, false, List, Option, None, Some}
use Rattle.std.specs.String.{string_bytes}
use Rattle.sdl_build.specs.declared.error.BuildError.{BuildError}
use Rattle.sdl_build.specs.declared.error.BuildError.TheVariants as build
use Rattle.sdl_lex.specs.declared.error.LexError.{LexError}
use Rattle.sdl_lex.specs.declared.error.LexError.TheVariants as lex
use Rattle.sdl_lex.specs.declared.place.Place.{Place}
use Rattle.sdl_parse.specs.declared.error.ParseError.{ParseError}
use Rattle.sdl_parse.specs.declared.error.ParseError.TheVariants as parse
use Rattle.parse_expressions.specs.declared.fault.Wanted.TheVariants as wants
use Rattle.sdl_script.specs.declared.script.ScriptError.{ScriptError}
use Rattle.sdl_script.specs.declared.script.ScriptError.TheVariants as script
use Rattle.explain_syntax.specs.Earlier.{IsEarlier, StandsBefore}
use Rattle.explain_syntax.specs.Excerpt.{IsExcerpt, IsNowhere}
use Rattle.explain_syntax.specs.declared.lines.excerpt.Excerpt.{Excerpt}
use Rattle.explain_syntax.specs.declared.lines.explanation.Other.{Other}

-- ---- the line of the refusal

-- where a text is refused that has no tokens; one that is too long is not shown
abbrev pub lex_place : LexError → Option Place
lex_place lex.TooLong = None
lex_place (lex.BadByte place) = Some place
lex_place (lex.OpenComment place) = Some place
lex_place (lex.OpenString place) = Some place
lex_place (lex.NumberTooBig place) = Some place
lex_place (lex.NameTooLong place) = Some place
lex_place lex.Memory = None

-- where a text is refused that is no specification
abbrev pub parse_place : ParseError → Option Place
parse_place (parse.Lex error) = lex_place error
parse_place (parse.Expected place wanted) = Some place
parse_place (parse.LeftOut place word) = Some place
parse_place (parse.TooDeep place) = Some place
parse_place parse.Memory = None

-- whether a text has no tree only because memory is lacking
abbrev pub is_lack : ParseError → Bool
is_lack parse.Memory = true
is_lack (parse.Lex lex.Memory) = true
is_lack _ = false

-- where a rule is broken
abbrev pub build_place : BuildError → Option Place
build_place (build.Broken rule word) = Some word.place
build_place build.Memory = None

-- the number of the line of a script that is refused
abbrev pub script_line : ScriptError → Option ℕ
script_line (script.Syntax number) = Some number
script_line (script.BackInTime number) = Some number
script_line (script.UnknownSignal number) = Some number
script_line (script.Arguments number) = Some number
script_line script.Memory = None

-- the line is shown in which the place lies; nothing, if there is no place or the text has none like it
abbrev pub IsShown : List ℕ → Option Place → Option Excerpt → Type 0
IsShown text None shown = shown ≡ None
IsShown text (Some place) None = IsNowhere text place
IsShown text (Some place) (Some excerpt) = IsExcerpt text place excerpt

-- the line of this number is shown, with a place in it; nothing, if the text has none of that number
abbrev pub IsShownLine : List ℕ → Option ℕ → Option Excerpt → Type 0
IsShownLine text None shown = shown ≡ None
IsShownLine text (Some number) None = IsNowhere text (record { line = number; column = 1 })
IsShownLine text (Some number) (Some excerpt) =
    IsExcerpt text excerpt.place excerpt × (excerpt.place.line ≡ number)

-- ---- the other place

-- If another name has to stand there, just that name is at a place before. If a keyword or a mark has to stand there, it
-- is any place before. No other refusal has another place.
abbrev pub PrecedesFault : List ℕ → ParseError → Other → Type 0
PrecedesFault text (parse.Expected place (wants.ThisName name)) other =
    IsEarlier text (string_bytes name) place other.excerpt
PrecedesFault text (parse.Expected place (wants.Mark mark)) other = StandsBefore text place other.excerpt
PrecedesFault text error other = ⊥

-- the word at which a rule is broken
abbrev pub repeated_by : BuildError → Option (List ℕ)
repeated_by (build.Broken rule word) = Some (string_bytes word.text)
repeated_by build.Memory = None

-- the other place comes before that of the refusal, and the same word is there
abbrev pub Repeats : List ℕ → Option Place → Option (List ℕ) → Other → Type 0
Repeats text (Some place) (Some word) other = IsEarlier text word place other.excerpt
Repeats text (Some place) None other = ⊥
Repeats text None word other = ⊥
