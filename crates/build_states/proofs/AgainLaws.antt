-- A list of faults that is noted again changes nothing.
use Rattle.std.proofs.Common.{◌≡◌, ◌∙◌, Bool, true, false, List, [], ◌∷◌, Option, None, Some, ap, if◌then◌else◌, refl, subst}
use Rattle.build_names.proofs.OrderLemmas.{less-asym, not_less-same, not_less-trans}
use Rattle.build_names.specs.FaultLaws.{Each}
use Rattle.build_names.specs.Faults.{Diagnostic, earlier, key, least_of, precedes}

-- a fault that is told, and doesn't come behind this one
abbrev Covers : Option Diagnostic → Diagnostic → Type 0
Covers None fault = ⊥
Covers (Some old) fault = precedes fault old ≡ false

covered : (told : Option Diagnostic) (fault : Diagnostic) → Covers told fault → earlier told fault ≡ told
covered None fault h = absurd h
covered (Some old) fault h = ap (λ b. if b then Some fault else Some old) h

covers-by : (old fault : Diagnostic) (b : Bool) → precedes fault old ≡ b →
    Covers (if b then Some fault else Some old) fault
covers-by old fault true h = not_less-same (key fault)
covers-by old fault false h = h

covers-noted : (told : Option Diagnostic) (fault : Diagnostic) → Covers (earlier told fault) fault
covers-noted None fault = not_less-same (key fault)
covers-noted (Some old) fault = covers-by old fault (precedes fault old) refl

still-by : (old fault next : Diagnostic) (b : Bool) → precedes next old ≡ b → precedes fault old ≡ false →
    Covers (if b then Some next else Some old) fault
still-by old fault next true less h =
    not_less-trans (key next) (key old) (key fault) (less-asym (key next) (key old) less) h
still-by old fault next false less h = h

still-covers : (told : Option Diagnostic) (fault next : Diagnostic) → Covers told fault →
    Covers (earlier told next) fault
still-covers None fault next h = absurd h
still-covers (Some old) fault next h = still-by old fault next (precedes next old) refl h

still-covers-all : (told : Option Diagnostic) (fault : Diagnostic) (xs : List Diagnostic) → Covers told fault →
    Covers (least_of told xs) fault
still-covers-all told fault [] h = h
still-covers-all told fault (x ∷ xs) h = still-covers-all (earlier told x) fault xs (still-covers told fault x h)

covers-all-noted : (told : Option Diagnostic) (xs : List Diagnostic) → Each (Covers (least_of told xs)) xs
covers-all-noted told [] = tt
covers-all-noted told (x ∷ xs) =
    (still-covers-all (earlier told x) x xs (covers-noted told x), covers-all-noted (earlier told x) xs)

all-covered : (told : Option Diagnostic) (xs : List Diagnostic) → Each (Covers told) xs → least_of told xs ≡ told
all-covered told [] each = refl
all-covered told (x ∷ xs) each =
    ap (λ t. least_of t xs) (covered told x each.0) ∙ all-covered told xs each.1

still-each : (told : Option Diagnostic) (xs ys : List Diagnostic) → Each (Covers told) xs →
    Each (Covers (least_of told ys)) xs
still-each told [] ys each = tt
still-each told (x ∷ xs) ys each = (still-covers-all told x ys each.0, still-each told xs ys each.1)

-- what was noted just now
pub noted-again : (told : Option Diagnostic) (xs : List Diagnostic) → least_of (least_of told xs) xs ≡ least_of told xs
noted-again told xs = all-covered (least_of told xs) xs (covers-all-noted told xs)

-- what was noted before, and others behind it
pub noted-before : (told : Option Diagnostic) (xs ys : List Diagnostic) → least_of told xs ≡ told →
    least_of (least_of told ys) xs ≡ least_of told ys
noted-before told xs ys h =
    all-covered (least_of told ys) xs
    (still-each told xs ys (subst (λ t. Each (Covers t) xs) h (covers-all-noted told xs)))
