-- What the names of one name space stand for. A scope has a list of its names, in the order of the text, each with
-- what it stands for.
use Rattle.std.specs.Prelude.{◌≡◌, ◌++◌, ℕ, List, [], Option, None, Some}
use Rattle.std.specs.Borrow.{Bor}
use Rattle.std.specs.Map.{lookup}
use Rattle.std.specs.Option.{option_or}
use Rattle.std.specs.Str.{bytes_eq}

-- what the first entry of this text stands for
abbrev pub first_of : {T : Type 0} → List (List ℕ × T) → List ℕ → Option T
first_of names text = lookup (bytes_eq text) names

-- the names of a scope, and none where there is no such scope
abbrev pub names_in : {T : Type 0} → Option (Bor (List (List ℕ × T))) → List (List ℕ × T)
names_in None = []
names_in (Some names) = names.now

-- what a name stands for in a process, in its block and in the system: what it does in the innermost that has it
abbrev pub first_outward : {T : Type 0} → List (List ℕ × T) → List (List ℕ × T) → List (List ℕ × T) → List ℕ → Option T
first_outward process block system text =
    option_or (first_of process text) (option_or (first_of block text) (first_of system text))

-- The names of an inner scope, if it has an entry, and else those of the outer one.
abbrev pub InnerBeforeOuter : Type 0 → Type 0
InnerBeforeOuter T = (inner outer : List (List ℕ × T)) (text : List ℕ) →
    first_of (inner ++ outer) text ≡ option_or (first_of inner text) (first_of outer text)
