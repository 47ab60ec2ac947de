-- Timers that are set to a time that is always the same.
use Rattle.std.specs.Prelude.{ℕ, ◌==◌, ◌&&◌, ◌||◌, Bool, not, true, false, List, [], ◌∷◌, ◌++◌, if◌then◌else◌}
use Rattle.parse_expressions.specs.declared.word.PlacedWord.{PlacedWord}
use Rattle.parse_expressions.specs.declared.word.Word.{Word}
use Rattle.parse_expressions.specs.declared.word.Word.TheVariants.{Fixed, Name, Number, Text, LeftOut}
use Rattle.sdl_lex.specs.declared.place.Place.{Place}
use Rattle.sdl_tree.specs.declared.mark.Mark.TheVariants as mark
use Rattle.sdl_warnings.specs.Heads.{HeadValue, after, heads, is_outside, nowhere}
use Rattle.sdl_warnings.specs.Sets.{among}
use Rattle.sdl_warnings.specs.Words.{is_mark}
use Rattle.sdl_warnings.specs.declared.heads.Spot.{Spot}
use Rattle.sdl_warnings.specs.declared.suspicion.Suspicion.TheVariants.{ConstantTime}
use Rattle.sdl_warnings.specs.declared.suspicion.Warning.{Warning}
use Rattle.sdl_warnings.specs.declared.timers.Time.{Time}
use Rattle.sdl_warnings.specs.declared.timers.Time.TheVariants.{Opens, Constant, Other}

abbrev pub is_operator : PlacedWord → Bool
is_operator word =
    is_mark mark.Plus word || (is_mark mark.Minus word || (is_mark mark.Asterisk word || (is_mark mark.Slash word
    || (is_mark mark.Open word || is_mark mark.Close word))))

abbrev pub is_constant_by : (List ℕ → Bool) → Word → Bool
is_constant_by is_constant (Number value digits) = true
is_constant_by is_constant (Name text) = is_constant text.now
is_constant_by is_constant (Text text) = false
is_constant_by is_constant (LeftOut lower text) = false
is_constant_by is_constant (Fixed mark case) = false

-- whether a word may be in a constant expression, by which names are constants
abbrev pub is_constant_word : (List ℕ → Bool) → PlacedWord → Bool
is_constant_word is_constant word = is_operator word || is_constant_by is_constant word.word

-- a time goes on with a word at this place, which may be in a constant one
abbrev pub gone_on : Place → Time → Time
gone_on place Opens = Constant place
gone_on place (Constant first) = Constant first
gone_on place Other = Other

-- what a time is after a word, which may be in a constant one or not
abbrev pub next : Bool → Spot → Time → PlacedWord → Time
next goes_on spot time word =
    if is_outside spot && is_mark mark.Open word then Opens
    else if goes_on then gone_on word.place time
    else Other

abbrev pub warned : Time → List Warning
warned Opens = []
warned (Constant first) = record { suspicion = ConstantTime; place = first } ∷ []
warned Other = []

-- the warning of a time that ends before this word
abbrev pub ended : Spot → Time → PlacedWord → List Warning
ended spot time word = if is_mark mark.Comma word && (spot.depth == 1) then warned time else []

-- the warnings from here on
abbrev pub constant_from : (List ℕ → Bool) → Spot → Time → List PlacedWord → List Warning
constant_from is_constant spot time [] = []
constant_from is_constant spot time (word ∷ more) =
    ended spot time word
    ++ constant_from is_constant (after mark.Set spot word) (next (is_constant_word is_constant word) spot time word) more

-- whether a name is a constant, and no variable or parameter in the words of a process
abbrev pub is_constant : List HeadValue → List PlacedWord → List ℕ → Bool
is_constant constants words text =
    among constants text && not (among (heads mark.Dcl words) text || among (heads mark.Fpar words) text)

-- the times of `set` in the words of a process that are numbers, constants and operators alone
abbrev pub constant_times : List HeadValue → List PlacedWord → List Warning
constant_times constants words = constant_from (is_constant constants words) nowhere Other words
