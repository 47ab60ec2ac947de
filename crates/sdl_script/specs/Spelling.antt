-- How a line of a script is spelled: `TIME [NAME [ "(" value {"," value} ")" ] [ "to" ("#" NUMBER | NAME) ]]`.
use Rattle.std.specs.Prelude.{◌≡◌, ℕ, ◌^◌, ◌≤◌, pos, ◌-ℤ◌, nat_lt, nat_le, Option, Some, None, Bool, true, false, IsTrue, IsFalse, ◌⊎◌, if◌then◌else◌, List, [], ◌∷◌, codes}
use Rattle.std.specs.List.{list_any}
use Rattle.std.specs.Str.{bytes_eq}
use Rattle.sdl_tree.specs.Keyword.{is_reserved}
use Rattle.sdl_script.specs.Part.{past_spaces, SpellsMark, SpellsNumber, SpellsWord}
use Rattle.sdl_script.specs.declared.value.SpelledValue.{SpelledValue}
use Rattle.sdl_script.specs.declared.value.SpelledValue.TheVariants.{Number, Truth, Null, Env, Instance}

-- ---- values

-- a number, a negative number and the number of an instance; none where it doesn't fit: a number has 64 bits signed,
-- that of an instance 32

abbrev pub positive : ℕ → SpelledValue
positive n = Number (if nat_lt n (2 ^ 63) then Some (pos n) else None)

abbrev pub negative : ℕ → SpelledValue
negative n = Number (if nat_le n (2 ^ 63) then Some (pos 0 -ℤ pos n) else None)

abbrev pub instance_number : ℕ → Option ℕ
instance_number n = if nat_lt n (2 ^ 32) then Some n else None

abbrev pub numbered : ℕ → SpelledValue
numbered n = Instance (instance_number n)

abbrev pub is_one_of : List ℕ → List (List ℕ) → Bool
is_one_of word words = list_any (bytes_eq word) words

-- the value of a literal, none for other words
abbrev pub literal : List ℕ → Option SpelledValue
literal word =
    if is_one_of word (codes "true" ∷ codes "True" ∷ codes "TRUE" ∷ []) then Some (Truth true)
    else if is_one_of word (codes "false" ∷ codes "False" ∷ codes "FALSE" ∷ []) then Some (Truth false)
    else if is_one_of word (codes "null" ∷ codes "Null" ∷ codes "NULL" ∷ []) then Some Null
    else if is_one_of word (codes "env" ∷ codes "ENV" ∷ []) then Some Env
    else None

-- The bytes are a value in one of its forms, spaces, and the rest.

abbrev pub SpellsPositive : SpelledValue → List ℕ → List ℕ → Type 0
SpellsPositive v bytes rest = (n : ℕ) × SpellsNumber n bytes rest × (v ≡ positive n)

abbrev pub SpellsNegative : SpelledValue → List ℕ → List ℕ → Type 0
SpellsNegative v bytes rest = (n : ℕ) × (m : List ℕ) × SpellsMark 45 bytes m × SpellsNumber n m rest × (v ≡ negative n)

abbrev pub SpellsNumbered : SpelledValue → List ℕ → List ℕ → Type 0
SpellsNumbered v bytes rest = (n : ℕ) × (m : List ℕ) × SpellsMark 35 bytes m × SpellsNumber n m rest × (v ≡ numbered n)

abbrev pub SpellsLiteral : SpelledValue → List ℕ → List ℕ → Type 0
SpellsLiteral v bytes rest = (word : List ℕ) × SpellsWord word bytes rest × (literal word ≡ Some v)

abbrev pub SpellsValue : SpelledValue → List ℕ → List ℕ → Type 0
SpellsValue v bytes rest =
    SpellsPositive v bytes rest
    ⊎ (SpellsNegative v bytes rest ⊎ (SpellsNumbered v bytes rest ⊎ SpellsLiteral v bytes rest))

-- values, each behind a comma
abbrev pub SpellsMore : List SpelledValue → List ℕ → List ℕ → Type 0
SpellsMore [] bytes rest = bytes ≡ rest
SpellsMore (v ∷ values) bytes rest =
    (m n : List ℕ) × SpellsMark 44 bytes m × SpellsValue v m n × SpellsMore values n rest

-- the bytes are the values, in parentheses and with commas between them, spaces, and the rest; where there are none,
-- they are the rest alone
abbrev pub SpellsValues : List SpelledValue → List ℕ → List ℕ → Type 0
SpellsValues [] bytes rest = bytes ≡ rest
SpellsValues (v ∷ values) bytes rest =
    (k m n : List ℕ) × SpellsMark 40 bytes k × SpellsValue v k m × SpellsMore values m n × SpellsMark 41 n rest

-- ---- receivers

-- a process by its name, or an instance by its number, none where it doesn't fit
pub data Receiver : Type 0 where
  Named : List ℕ → Receiver
  Numbered : Option ℕ → Receiver

-- the bytes are a name, which is no reserved word, spaces, and the rest
abbrev pub SpellsName : List ℕ → List ℕ → List ℕ → Type 0
SpellsName name bytes rest = SpellsWord name bytes rest × IsFalse (is_reserved name)

-- the bytes are a receiver, spaces, and the rest
abbrev pub SpellsReceiver : Receiver → List ℕ → List ℕ → Type 0
SpellsReceiver (Named name) bytes rest = SpellsName name bytes rest
SpellsReceiver (Numbered number) bytes rest =
    (n : ℕ) × (m : List ℕ) × SpellsMark 35 bytes m × SpellsNumber n m rest × (number ≡ instance_number n)

-- the keyword `to`
abbrev pub is_to : List ℕ → Bool
is_to word = is_one_of word (codes "to" ∷ codes "TO" ∷ [])

abbrev pub SpellsTo : List ℕ → List ℕ → Type 0
SpellsTo bytes rest = (word : List ℕ) × SpellsWord word bytes rest × IsTrue (is_to word)

-- the bytes are all of `to` and a receiver, or nothing
abbrev pub SpellsWhither : Option Receiver → List ℕ → Type 0
SpellsWhither None bytes = bytes ≡ []
SpellsWhither (Some receiver) bytes = (m : List ℕ) × SpellsTo bytes m × SpellsReceiver receiver m []

-- ---- lines

-- a signal as it is spelled
pub record Spelled : Type 0 where
  pub name : List ℕ
  pub values : List SpelledValue
  pub to : Option Receiver

-- the bytes are all of a name, its values and a receiver, or nothing
abbrev pub SpellsSignal : Option Spelled → List ℕ → Type 0
SpellsSignal None bytes = bytes ≡ []
SpellsSignal (Some signal) bytes =
    (m n : List ℕ) × SpellsName signal.name bytes m × SpellsValues signal.values m n × SpellsWhither signal.to n

-- the latest time of a script, in ticks
abbrev pub latest_time : ℕ
latest_time = 1000000000000000

-- the line is a time and a signal, or a time alone
abbrev pub SpellsLine : ℕ → Option Spelled → List ℕ → Type 0
SpellsLine at signal line =
    (m : List ℕ) × SpellsNumber at (past_spaces line) m × (at ≤ latest_time) × SpellsSignal signal m

-- no time and signal are spelled by the line
abbrev pub IsNoSpelling : List ℕ → Type 0
IsNoSpelling line = (at : ℕ) (signal : Option Spelled) → ¬ SpellsLine at signal line
