-- What the cursor reads at the front of a line. No public clause cites these functions: the proofs show that they read
-- what is spelled there, and nothing else.
use Rattle.std.specs.Prelude.{◌≡◌, ℕ, ◌<◌, ◌-◌, ◌^◌, ◌==◌, min, Option, Some, None, if◌then◌else◌, List, [], ◌∷◌, take, drop}
use Rattle.std.specs.Char.{is_ascii_alphabetic, is_ascii_digit}
use Rattle.std.specs.List.{prefix_len}
use Rattle.sdl_lex.specs.Byte.{is_word_byte}
use Rattle.sdl_lex.specs.Kind.{decimal}
use Rattle.sdl_tree.specs.Keyword.{is_reserved}
use Rattle.sdl_script.specs.declared.value.SpelledValue.{SpelledValue}
use Rattle.sdl_script.specs.Part.{past_spaces}
use Rattle.sdl_script.specs.Spelling.{positive, negative, numbered, instance_number, literal, Receiver, Named, Numbered, Spelled, SpellsSignal, SpellsValues, SpellsWhither, latest_time}

-- what comes of a reading, and what where there is none
abbrev pub on : {A B : Type 0} → Option A → B → (A → B) → B
on None none some = none
on (Some x) none some = some x

abbrev pub mark : ℕ → List ℕ → Option (List ℕ)
mark b [] = None
mark b (first ∷ behind) = if first == b then Some (past_spaces behind) else None

-- a number, at most 2^64 - 1
abbrev pub number : List ℕ → Option (ℕ × List ℕ)
number bytes =
    if prefix_len is_ascii_digit bytes == 0 then None
    else Some (
      min (decimal (take (prefix_len is_ascii_digit bytes) bytes)) (2 ^ 64 - 1),
      past_spaces (drop (prefix_len is_ascii_digit bytes) bytes),
    )

abbrev pub word : List ℕ → Option (List ℕ × List ℕ)
word [] = None
word (first ∷ behind) =
    if is_ascii_alphabetic first
    then Some (
      take (prefix_len is_word_byte (first ∷ behind)) (first ∷ behind),
      past_spaces (drop (prefix_len is_word_byte (first ∷ behind)) (first ∷ behind)),
    )
    else None

-- a number, by what it stands for
abbrev pub number_as : {A : Type 0} → (ℕ → A) → List ℕ → Option (A × List ℕ)
number_as f bytes = on (number bytes) None (λ n. Some (f n.0, n.1))

-- a literal, by what it stands for
abbrev pub literal_in : List ℕ → Option (SpelledValue × List ℕ)
literal_in bytes = on (word bytes) None (λ w. on (literal w.0) None (λ v. Some (v, w.1)))

abbrev pub value : List ℕ → Option (SpelledValue × List ℕ)
value bytes =
    on (mark 35 bytes)
    (on (mark 45 bytes) (on (number bytes) (literal_in bytes) (λ n. Some (positive n.0, n.1))) (number_as negative))
    (number_as numbered)

-- a name: a word that isn't reserved
abbrev pub name : List ℕ → Option (List ℕ × List ℕ)
name bytes = on (word bytes) None (λ w. if is_reserved w.0 then None else Some w)

-- a process by its name, or an instance by its number
abbrev pub receiver : List ℕ → Option (Receiver × List ℕ)
receiver bytes =
    on (mark 35 bytes) (on (name bytes) None (λ w. Some (Named w.0, w.1)))
    (number_as (λ n. Numbered (instance_number n)))

-- no number stands there, or a time that is too late
abbrev pub HasNoTime : List ℕ → Type 0
HasNoTime bytes = (n : ℕ) (rest : List ℕ) → number bytes ≡ Some (n, rest) → latest_time < n

-- no signal is spelled
abbrev pub IsNoSignal : List ℕ → Type 0
IsNoSignal bytes = (signal : Spelled) → ¬ SpellsSignal (Some signal) bytes

-- no `to` with a receiver, and not the end
abbrev pub IsNoWhither : List ℕ → Type 0
IsNoWhither bytes = (to : Option Receiver) → ¬ SpellsWhither to bytes

-- no values and what may follow them
abbrev pub IsNoTail : List ℕ → Type 0
IsNoTail bytes =
    (values : List SpelledValue) (to : Option Receiver) (rest : List ℕ) → SpellsValues values bytes rest
    → ¬ SpellsWhither to rest

-- behind values, whatever follows them is spelled there
abbrev pub IsTail : List ℕ → List ℕ → Type 0
IsTail bytes rest =
    (values : List SpelledValue) (to : Option Receiver) (other : List ℕ) → SpellsValues values bytes other
    → SpellsWhither to other → other ≡ rest
