-- What a function that reads ensures: what its parser gives, unless memory fails.
use Rattle.std.specs.Prelude.{◌≡◌, Result, Ok, Err}
use Rattle.sdl_tree.specs.Words.{Words}
use Rattle.parse_expressions.specs.declared.fault.Fault.{Fault}
use Rattle.parse_expressions.specs.declared.fault.Fault.TheVariants.{Expected, Condition, TooDeep, Memory}
use Rattle.parse_expressions.specs.Reading.{Outcome, Refused, Deep, Barred}

-- The fault is of the word that stands first in what is left.
abbrev pub Fails : {A : Type 0} → Outcome A → Fault → Words → Type 0
Fails outcome (Expected wanted) new = outcome ≡ Err (Refused new)
Fails outcome Condition new = outcome ≡ Err (Barred new)
Fails outcome TooDeep new = outcome ≡ Err (Deep new)
Fails outcome Memory new = Unit {0}

abbrev pub Reads : {A B : Type 0} → (A → B) → Outcome B → Result A Fault → Words → Type 0
Reads view outcome (Ok x) new = outcome ≡ Ok (view x, new)
Reads view outcome (Err e) new = Fails outcome e new
