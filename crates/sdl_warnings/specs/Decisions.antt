-- What is suspicious in decisions.
use Rattle.std.specs.Prelude.{ℕ, ◌+◌, ◌-◌, ◌^◌, ◌==◌, ◌&&◌, ◌||◌, Bool, true, false, min, not, List, [], ◌∷◌, ◌++◌, None, if◌then◌else◌, take}
use Rattle.std.specs.List.{list_any}
use Rattle.parse_expressions.specs.declared.word.PlacedWord.{PlacedWord}
use Rattle.sdl_lex.specs.declared.place.Place.{Place}
use Rattle.sdl_tree.specs.declared.mark.Mark.TheVariants as mark
use Rattle.sdl_warnings.specs.Answers.{is_empty, overlap, taken}
use Rattle.sdl_warnings.specs.Colons.{depth_after}
use Rattle.sdl_warnings.specs.Words.{is_mark, is_mark_by, mark_in}
use Rattle.sdl_warnings.specs.declared.answered.Answered.{Answered}
use Rattle.sdl_warnings.specs.declared.answers.Taken.{Taken}
use Rattle.sdl_warnings.specs.declared.answers.Taken.TheVariants.{Numbers, Except, Boolean, Other}
use Rattle.sdl_warnings.specs.declared.answered.Inside.{Inside}
use Rattle.sdl_warnings.specs.declared.suspicion.Behaviour.{Behaviour}
use Rattle.sdl_warnings.specs.declared.suspicion.Behaviour.TheVariants.{Overlap, EmptyRange, MissingAnswer}
use Rattle.sdl_warnings.specs.declared.suspicion.Oddity.{Oddity}

-- ---- the answers of a decision

-- an answer of these words; no words are none
abbrev pub answered : List PlacedWord → List Answered
answered [] = []
answered (word ∷ more) = record { taken = taken (word ∷ more); place = word.place } ∷ []

-- whether the answers end with a word, of which so many parentheses are open, and whether another one begins after it
abbrev pub closes : ℕ → PlacedWord → Bool
closes depth word = (depth == 0) && is_mark mark.Close word

abbrev pub parts : ℕ → PlacedWord → Bool
parts depth word = (depth == 0) && is_mark mark.Comma word

-- the answer that ends with a word
abbrev pub ended_at : ℕ → List PlacedWord → PlacedWord → List Answered
ended_at depth own word = if parts depth word then answered own else []

-- the words of an answer so far
abbrev pub own_after : ℕ → List PlacedWord → PlacedWord → List PlacedWord
own_after depth own word = if parts depth word then [] else own ++ word ∷ []

-- The answers in a parenthesis up to its end. Before the words are those of the answer in which they begin, and so many
-- parentheses of that answer are open.
abbrev pub listed : ℕ → List PlacedWord → List PlacedWord → List Answered
listed depth own [] = []
listed depth own (word ∷ more) =
    if closes depth word then answered own
    else ended_at depth own word ++ listed (depth_after depth word) (own_after depth own word) more

-- how many decisions are begun in it and not ended after a word
abbrev pub inner_after : ℕ → PlacedWord → ℕ
inner_after inner word =
    if is_mark mark.Decision word then min (inner + 1) (2 ^ 64 - 1)
    else if is_mark mark.EndDecision word then inner - 1
    else inner

abbrev pub inside_after : Inside → PlacedWord → Inside
inside_after inside word = record {
  inner = inner_after inside.inner word;
  depth = depth_after inside.depth word;
  before = mark_in word;
}

-- where a decision begins
abbrev pub beginning : Inside
beginning = record { inner = 0; depth = 0; before = None }

-- whether the decision ends with a word
abbrev pub ends : Inside → PlacedWord → Bool
ends inside word = (inside.inner == 0) && is_mark mark.EndDecision word

-- whether its answers come after a word: an open parenthesis that comes after a semicolon or a colon
abbrev pub opens : Inside → PlacedWord → Bool
opens inside word =
    (inside.inner == 0) && ((inside.depth == 0) && (is_mark mark.Open word
    && (is_mark_by mark.Semicolon inside.before || is_mark_by mark.Colon inside.before)))

-- the answers of a decision from here on
abbrev pub answers : Inside → List PlacedWord → List Answered
answers inside [] = []
answers inside (word ∷ more) =
    if ends inside word then []
    else (if opens inside word then listed 0 [] more else []) ++ answers (inside_after inside word) more

-- whether a decision has an `else` from here on
abbrev pub has_else : Inside → List PlacedWord → Bool
has_else inside [] = false
has_else inside (word ∷ more) =
    not (ends inside word)
    && (((inside.inner == 0) && is_mark mark.Else word) || has_else (inside_after inside word) more)

-- ---- what is suspicious of them

-- whether one of these answers has a value of another one
abbrev pub have_value_of : Taken → List Answered → Bool
have_value_of taken answers = list_any (λ (one : Answered). overlap one.taken taken) answers

-- whether one of the first of them has it
abbrev pub is_taken : List Answered → Taken → Bool
is_taken earlier taken = have_value_of taken (take 100 earlier)

abbrev pub told_if : Bool → Behaviour → Place → List Oddity
told_if true behaviour place = record { behaviour = behaviour; place = place } ∷ []
told_if false behaviour place = []

-- an answer that comes after these
abbrev pub of_answer : List Answered → Answered → List Oddity
of_answer earlier one =
    told_if (is_empty one.taken) EmptyRange one.place ++ told_if (is_taken earlier one.taken) Overlap one.place

abbrev pub of_answers : List Answered → List Answered → List Oddity
of_answers earlier [] = []
of_answers earlier (one ∷ more) = of_answer earlier one ++ of_answers (earlier ++ one ∷ []) more

abbrev pub is_unknown : Taken → Bool
is_unknown (Numbers first last) = false
is_unknown (Except one) = false
is_unknown (Boolean truth) = false
is_unknown Other = true

-- whether it isn't known what an answer takes
abbrev pub is_other : Answered → Bool
is_other one = is_unknown one.taken

abbrev pub is_boolean : Bool → Taken → Bool
is_boolean truth (Numbers first last) = false
is_boolean truth (Except one) = false
is_boolean truth Other = false
is_boolean true (Boolean own) = own
is_boolean false (Boolean own) = not own

-- whether this Boolean is an answer
abbrev pub has_boolean : Bool → List Answered → Bool
has_boolean truth answers = list_any (λ (one : Answered). is_boolean truth one.taken) answers

-- whether one Boolean is an answer and the other isn't, all answers are known, and there is no `else`
abbrev pub lacks_one : List Answered → Bool → Bool
lacks_one answers other =
    not other && (not (list_any is_other answers) && ((has_boolean true answers && not (has_boolean false answers))
    || (has_boolean false answers && not (has_boolean true answers))))

-- a decision at this place
abbrev pub of_decision : Place → List Answered → Bool → List Oddity
of_decision place answers other = of_answers [] answers ++ told_if (lacks_one answers other) MissingAnswer place

-- the decision that begins with a word, if one does
abbrev pub decision_at : PlacedWord → List PlacedWord → List Oddity
decision_at word more =
    if is_mark mark.Decision word
    then of_decision word.place (answers beginning more) (has_else beginning more)
    else []

-- the decisions in these words
abbrev pub of_decisions : List PlacedWord → List Oddity
of_decisions [] = []
of_decisions (word ∷ more) = decision_at word more ++ of_decisions more
