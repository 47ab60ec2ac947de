-- Where the record of a number is, by numbers that rise.
use Rattle.std.proofs.Common.{◌≡◌, ◌∙◌, ◌<◌, ◌≤◌, ◌+◌, ◌-◌, ap, arith, get_or, length, sym, ⊎_elim, ℕ, zero, suc, List, [], ◌∷◌, min, All}
use Rattle.std.proofs.lemmas.Bool.{cases_eq, cases_lt}
use Rattle.std.proofs.lemmas.List.{get_or_default}
use Rattle.run_record.specs.Record.{RecordValue}
use Rattle.settle_meaning.specs.Identities.{AreRising}
use Rattle.settle_checks.proofs.StartLemmas.{rising_less}

-- a number is greater than its place
number_over : (low : ℕ) (records : List RecordValue) (k : ℕ) (d : RecordValue) → AreRising low records
    → k < length records → low + k < (get_or records k d).pid
number_over low [] k d rising within = let wrong : ⊥ = omega (arith, within) in absurd wrong
number_over low (trace ∷ rest) zero d rising within = omega (arith, rising.0)
number_over low (trace ∷ rest) (suc k) d rising within =
    let more : trace.pid + k < (get_or rest k d).pid = number_over trace.pid rest k d rising.1 (omega (arith, within)) in
    omega (arith, rising.0, more)

-- none from this place on has the number
abbrev pub NoneFrom : List RecordValue → ℕ → ℕ → Type 0
NoneFrom records number place =
    (k : ℕ) (d : RecordValue) → place ≤ k → k < length records → (get_or records k d).pid ≡ number → ⊥

pub none_past : (records : List RecordValue) (number end : ℕ) → AreRising 0 records
    → end ≡ min (length records) number → NoneFrom records number end
none_past records number end rising is k d past within same =
    let over : 0 + k < (get_or records k d).pid = number_over 0 records k d rising within in
    omega (arith, is, past, within, over, same)

pub none_here : (records : List RecordValue) (number place next : ℕ) (e : RecordValue) → place + 1 ≡ next
    → place < length records → ((get_or records place e).pid ≡ number → ⊥) → NoneFrom records number next
    → NoneFrom records number place
none_here records number place next e is within_place apart none k d past within same =
    ⊎_elim
    (λ (equal : k ≡ place).
    apart
    (ap (λ (t : RecordValue). t.pid) (get_or_default records place e d within_place)
    ∙ ap (λ n. (get_or records n d).pid) (sym equal) ∙ same))
    (λ (other : k ≡ place → ⊥). none k d (grind (arith, past, other, is)) within same)
    (cases_eq k place)

-- all before this place have less
pub none_before : (records : List RecordValue) (number place : ℕ) (e : RecordValue) → AreRising 0 records
    → place < length records → (get_or records place e).pid < number → NoneFrom records number (place + 1)
    → NoneFrom records number 0
none_before records number place e rising within_place less none k d past within same =
    ⊎_elim
    (λ (before : k < place).
    let smaller : (get_or records k e).pid < (get_or records place e).pid =
    rising_less 0 records k place e rising before within_place in
    let same_one : (get_or records k e).pid ≡ (get_or records k d).pid =
    ap (λ (t : RecordValue). t.pid) (get_or_default records k e d within) in
    let wrong : ⊥ = omega (arith, smaller, less, same_one, same) in absurd wrong)
    (λ (from : place ≤ k).
    ⊎_elim
    (λ (equal : k ≡ place).
    let same_one : (get_or records k d).pid ≡ (get_or records place e).pid =
    ap (λ n. (get_or records n d).pid) equal
    ∙ ap (λ (t : RecordValue). t.pid) (get_or_default records place d e within_place) in
    let wrong : ⊥ = omega (arith, same_one, less, same) in absurd wrong)
    (λ (other : k ≡ place → ⊥). none k d (grind (arith, from, other)) within same)
    (cases_eq k place))
    (cases_lt k place)

-- ---- step by step

-- none has the number
abbrev pub NoneHas : List RecordValue → ℕ → Type 0
NoneHas records number = All (λ (trace : RecordValue). trace.pid ≡ number → ⊥) records

none_at_all : (records : List RecordValue) (number : ℕ) → NoneFrom records number 0 → NoneHas records number
none_at_all records number none k d within same = none k d (omega arith) within same

module _ (records : List RecordValue) (number end : ℕ) (rising : AreRising 0 records)
    (end_is : end ≡ min (length records) number) where
  pub place_first : NoneFrom records number (end - 0)
  place_first k d past within same =
      none_past records number end rising end_is k d (omega (arith, past)) within same

  module _ (back place : ℕ) (e : RecordValue) (before : back < end) (place_is : place ≡ end - 1 - back)
      (none : NoneFrom records number (end - back)) where
    next_is : place + 1 ≡ end - back
    next_is = omega (arith, before, place_is)

    place_within : place < length records
    place_within = omega (arith, before, place_is, end_is)

    pub place_more : ((get_or records place e).pid ≡ number → ⊥) → NoneFrom records number (end - (back + 1))
    place_more apart k d past within same =
        none_here records number place (end - back) e next_is place_within apart none k d
        (omega (arith, past, before, place_is)) within same

    pub place_past : (get_or records place e).pid < number → NoneHas records number
    place_past less =
        none_at_all records number
        (none_before records number place e rising place_within less
        (λ k d past within same. none k d (omega (arith, past, next_is)) within same))

  pub place_never : (back : ℕ) → end ≤ back → NoneFrom records number (end - back) → NoneHas records number
  place_never back done none =
      none_at_all records number (λ k d past within same. none k d (omega (arith, done)) within same)
