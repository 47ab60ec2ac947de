-- What of a run is drawn.
use Rattle.std.specs.Prelude.{ℕ, ◌≤◌, ◌==◌, ◌||◌, Bool, List, length, Option, MatchOption}
use Rattle.std.specs.List.{list_any}
use Rattle.std.specs.Str.{bytes_eq}
use Rattle.std.specs.String.{string_bytes}
use Rattle.view_chart.specs.declared.selection.Selection.{Selection}
use Rattle.view_chart.specs.declared.selection.Wanted.{Wanted}
use Rattle.view_chart.specs.declared.selection.Wanted.TheVariants.{Process, Instance}

-- whether an instance of this number, of a process of this name, is what is wanted
abbrev pub is_one : ℕ → List ℕ → Wanted → Bool
is_one number process (Process name) = bytes_eq (string_bytes name) process
is_one number process (Instance wanted) = wanted == number

-- an instance is drawn if it is one of those that are wanted, or if none are named
abbrev pub has_instance : Selection → ℕ → List ℕ → Bool
has_instance selection number process =
    (length selection.only.items == 0) || list_any (is_one number process) selection.only.items

-- a time isn't before the first one, nor after the last one, if there are such
abbrev pub IsBetween : Option ℕ → Option ℕ → ℕ → Type 0
IsBetween from until at =
    MatchOption from (Unit {0}) (λ first. first ≤ at) × MatchOption until (Unit {0}) (λ last. at ≤ last)
