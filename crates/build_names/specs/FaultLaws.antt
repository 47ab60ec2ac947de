-- What holds of the fault that is told, whatever the checks.
use Rattle.std.specs.Prelude.{◌≡◌, ◌⊎◌, ◌++◌, false, List, [], ◌∷◌, Option, None, Some}
use Rattle.build_names.specs.Faults.{Diagnostic, precedes, least_of}

-- each element of a list is so
abbrev pub Each : {A : Type 0} → (A → Type 0) → List A → Type 0
Each P [] = Unit {0}
Each P (x ∷ xs) = P x × Each P xs

-- the element stands in the list
abbrev pub In : {A : Type 0} → A → List A → Type 0
In x [] = ⊥
In x (y ∷ ys) = (x ≡ y) ⊎ In x ys

-- the fault is one of the list, and none of the list comes before it
pub record IsFirst (faults : List Diagnostic) (fault : Diagnostic) : Type 0 where
  pub listed : In fault faults
  pub first : Each (λ other. precedes other fault ≡ false) faults

-- One part of the checks after the other.
abbrev pub OneAfterTheOther : Type 0
OneAfterTheOther = (old : Option Diagnostic) (xs ys : List Diagnostic) →
    least_of (least_of old xs) ys ≡ least_of old (xs ++ ys)

-- Where no fault is told, there is none.
abbrev pub NoneNoted : Type 0
NoneNoted = (faults : List Diagnostic) → least_of None faults ≡ None → faults ≡ []

-- The fault that is told comes first among all that there are.
abbrev pub FirstNoted : Type 0
FirstNoted = (faults : List Diagnostic) (fault : Diagnostic) → least_of None faults ≡ Some fault → IsFirst faults fault
