-- Records by the numbers of their instances.
use Rattle.std.proofs.Common.{◌≡◌, ℕ, zero, suc, ◌+◌, ◌≤◌, ◌==◌, Bool, true, false, List, [], ◌∷◌, ◌++◌, length, take, Option, None, Some, refl, ap, subst, arith, if◌then◌else◌}
use Rattle.std.specs.List.{AllByRecursion}
use Rattle.std.specs.Option.{option_or}
use Rattle.std.proofs.lemmas.Bool.{eq-eqb}
use Rattle.run_record.specs.Record.{RecordValue}
use Rattle.sdl_report.specs.Number.{AreRising, last_of, record_of}

-- the last of them has the number
pub found : (number : ℕ) (before : List RecordValue) (trace : RecordValue) → (trace.pid == number) ≡ true
    → last_of number (before ++ trace ∷ []) ≡ Some trace
found number [] trace is = ap (λ (b : Bool). if b then Some trace else None) is
found number (first ∷ before) trace is =
    ap (λ o. option_or o (if first.pid == number then Some first else None)) (found number before trace is)

-- the last of them has another number
pub passed : (number : ℕ) (before : List RecordValue) (trace : RecordValue) → (trace.pid == number) ≡ false
    → last_of number (before ++ trace ∷ []) ≡ last_of number before
passed number [] trace isnt = ap (λ (b : Bool). if b then Some trace else None) isnt
passed number (first ∷ before) trace isnt =
    ap (λ o. option_or o (if first.pid == number then Some first else None)) (passed number before trace isnt)

-- ---- where none has it

pub none-left : (number : ℕ) (left : List RecordValue) → length left ≡ 0 → last_of number left ≡ None
none-left number [] empty = refl
none-left number (trace ∷ rest) empty = absurd (omega (arith, empty))

abbrev pub HasOther : ℕ → RecordValue → Type 0
HasOther number trace = trace.pid ≡ number → ⊥

beyond : (number low : ℕ) (records : List RecordValue) → AreRising low records → number ≤ low
    → AllByRecursion (HasOther number) records
beyond number low [] rising small = tt
beyond number low (trace ∷ rest) rising small =
    let above = rising.0 in (
      (λ same. omega (arith, same, above, small)),
      beyond number trace.pid rest rising.1 (omega (arith, above, small)),
    )

both-none : (p q : Option RecordValue) → option_or p q ≡ None → (p ≡ None) × (q ≡ None)
both-none None q none = (refl, none)
both-none (Some trace) q none = let both : Some trace ≡ None = none in cc

other : (number : ℕ) (trace : RecordValue) → (if trace.pid == number then Some trace else None) ≡ None
    → HasOther number trace
other number trace none = λ same.
    let both : Some trace ≡ None =
    subst (λ b. (if b then Some trace else None) ≡ None) (eq-eqb trace.pid number same) none in cc

none-below : (number low count : ℕ) (records : List RecordValue) → AreRising low records → number ≤ low + count
    → last_of number (take count records) ≡ None → AllByRecursion (HasOther number) records
none-below number low zero records rising small none = beyond number low records rising (omega (arith, small))
none-below number low (suc count) [] rising small none = tt
none-below number low (suc count) (trace ∷ rest) rising small none =
    let both = both-none (last_of number (take count rest)) (if trace.pid == number then Some trace else None) none in
    let above = rising.0 in (
      other number trace both.1,
      none-below number trace.pid count rest rising.1 (omega (arith, above, small)) both.0,
    )

pub none-has : (number : ℕ) (records : List RecordValue) → AreRising 0 records → record_of number records ≡ None
    → AllByRecursion (HasOther number) records
none-has number records rising none = none-below number 0 number records rising (omega arith) none
