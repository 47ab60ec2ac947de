-- Sets of numbers as the bits of words: what changes where a word is written, and which number is the next.
use Rattle.std.proofs.Common.{◌≡◌, ◌≢◌, ◌⊎◌, ◌↔◌, ℕ, zero, suc, ◌+◌, ◌*◌, ◌/◌, ◌%◌, ◌<◌, ◌≤◌, Bool, true, false, List, [], ◌∷◌}
use Rattle.std.proofs.Common.{length, length-set, set, get_or, refl, ap, ◌∙◌, sym, subst, inl, inr, arith, if◌then◌else◌}
use Rattle.std.specs.Int.{bit_at}
use Rattle.std.specs.List.{Contains}
use Rattle.std.proofs.lemmas.Bool.{cases_Bool, cases_eq, cases_lt, eq-eqb, eqb-true}
use Rattle.std.proofs.lemmas.List.{get_or-set_other, get_or-set_same, get_or_past}
use Rattle.std.proofs.lemmas.List.Elements.{Contains-append_cases, Contains-append_right, Contains-push_cases}
use Rattle.std.proofs.lemmas.Nat.Bits.{bit_at-zero}
use Rattle.serial_sweeps.specs.Marks.{is_marked, numbers_below, numbers_in}

-- ---- lists of numbers

none_in_nil : (n : ℕ) → Contains [] n → ⊥
none_in_nil n there = let past : there.0 < 0 = there.1 in omega (arith, past)

here : (m : ℕ) (xs : List ℕ) → Contains (m ∷ xs) m
here m xs = (0, omega arith, refl)

cases_of : (m : ℕ) (xs : List ℕ) (n : ℕ) → Contains (m ∷ xs) n → (m ≡ n) ⊎ Contains xs n
cases_of m xs n there = elim (Contains-append_cases (m ∷ []) xs n there) [
  | inl first ↦ elim (Contains-push_cases [] m n first) [
    | inl nothing ↦ absurd (none_in_nil n nothing)
    | inr e ↦ inl e
  ]
  | inr rest ↦ inr rest
]

-- ---- the numbers below a bound that pass a test

next_passes : (p : ℕ → Bool) (m : ℕ) → p m ≡ true → numbers_below p (suc m) ≡ m ∷ numbers_below p m
next_passes p m is = ap (λ b. if b then m ∷ numbers_below p m else numbers_below p m) is

next_fails : (p : ℕ → Bool) (m : ℕ) → p m ≡ false → numbers_below p (suc m) ≡ numbers_below p m
next_fails p m is = ap (λ b. if b then m ∷ numbers_below p m else numbers_below p m) is

in_below : (p : ℕ → Bool) (m n : ℕ) → n < m → p n ≡ true → Contains (numbers_below p m) n
in_below p zero n lt is = let no : ⊥ = omega (arith, lt) in absurd no
in_below p (suc m) n lt is = elim (cases_eq m n) [
  | inl e ↦ subst (λ xs. Contains xs n) (sym (next_passes p m (ap p e ∙ is)))
      (subst (λ k. Contains (m ∷ numbers_below p m) k) e (here m (numbers_below p m)))
  | inr apart ↦
      let before = in_below p m n (omega (arith, lt, apart)) is in
      elim (cases_Bool (p m)) [
        | inl passes ↦ subst (λ xs. Contains xs n) (sym (next_passes p m passes))
            (Contains-append_right (m ∷ []) (numbers_below p m) n before)
        | inr fails ↦ subst (λ xs. Contains xs n) (sym (next_fails p m fails)) before
      ]
]

from_below : (p : ℕ → Bool) (m n : ℕ) → Contains (numbers_below p m) n → (n < m) × (p n ≡ true)
from_below p zero n there = absurd (none_in_nil n there)
from_below p (suc m) n there = elim (cases_Bool (p m)) [
  | inl passes ↦ elim (cases_of m (numbers_below p m) n (subst (λ xs. Contains xs n) (next_passes p m passes) there)) [
    | inl e ↦ (omega (arith, e), ap p (sym e) ∙ passes)
    | inr rest ↦ let before = from_below p m n rest in (omega (arith, before.0), before.1)
  ]
  | inr fails ↦ let before = from_below p m n (subst (λ xs. Contains xs n) (next_fails p m fails) there) in
      (omega (arith, before.0), before.1)
]

-- fewer pass a test that is within another
no_more : (p q : ℕ → Bool) → ((n : ℕ) → q n ≡ true → p n ≡ true) → (m : ℕ)
    → length (numbers_below q m) ≤ length (numbers_below p m)
no_more p q within zero = omega arith
no_more p q within (suc m) =
    let before = no_more p q within m in
    elim (cases_Bool (q m)) [
      | inl passes ↦
          omega (arith, ap length (next_passes q m passes), ap length (next_passes p m (within m passes)), before)
      | inr fails ↦ elim (cases_Bool (p m)) [
        | inl also ↦ omega (arith, ap length (next_fails q m fails), ap length (next_passes p m also), before)
        | inr neither ↦ omega (arith, ap length (next_fails q m fails), ap length (next_fails p m neither), before)
      ]
    ]

fewer : (p q : ℕ → Bool) → ((n : ℕ) → q n ≡ true → p n ≡ true) → (m x : ℕ) → x < m → p x ≡ true → q x ≡ false
    → length (numbers_below q m) < length (numbers_below p m)
fewer p q within zero x lt was isnt = let no : ⊥ = omega (arith, lt) in absurd no
fewer p q within (suc m) x lt was isnt = elim (cases_eq m x) [
  | inl e ↦
      let before = no_more p q within m in
      omega (arith, ap length (next_fails q m (ap q e ∙ isnt)), ap length (next_passes p m (ap p e ∙ was)), before)
  | inr apart ↦
      let before = fewer p q within m x (omega (arith, lt, apart)) was isnt in
      elim (cases_Bool (q m)) [
        | inl passes ↦
            omega (arith, ap length (next_passes q m passes), ap length (next_passes p m (within m passes)), before)
        | inr fails ↦ elim (cases_Bool (p m)) [
          | inl also ↦ omega (arith, ap length (next_fails q m fails), ap length (next_passes p m also), before)
          | inr neither ↦ omega (arith, ap length (next_fails q m fails), ap length (next_fails p m neither), before)
        ]
      ]
]

-- ---- bits of words

-- the bit of a number
bit_of : List ℕ → ℕ → ℕ
bit_of words n = bit_at (get_or words (n / 64) 0) (n % 64)

pub marked_by : (words : List ℕ) (n : ℕ) → bit_at (get_or words (n / 64) 0) (n % 64) ≡ 1 → is_marked words n ≡ true
marked_by words n is = eq-eqb _ 1 is

pub bit_by : (words : List ℕ) (n : ℕ) → is_marked words n ≡ true → bit_at (get_or words (n / 64) 0) (n % 64) ≡ 1
bit_by words n is = eqb-true _ 1 is

pub unmarked_by : (words : List ℕ) (n : ℕ) → bit_at (get_or words (n / 64) 0) (n % 64) ≡ 0 → is_marked words n ≡ false
unmarked_by words n is = elim (cases_Bool (is_marked words n)) [
  | inl passes ↦ let no : ⊥ = omega (arith, is, bit_by words n passes) in absurd no
  | inr fails ↦ fails
]

-- what is marked lies within the words
pub place_within : (words : List ℕ) (n : ℕ) → is_marked words n ≡ true → n / 64 < length words
place_within words n is = elim (cases_lt (n / 64) (length words)) [
  | inl within ↦ within
  | inr past ↦
      let off : bit_at (get_or words (n / 64) 0) (n % 64) ≡ 0 =
      ap (λ w. bit_at w (n % 64)) (get_or_past words (n / 64) 0 past) ∙ bit_at-zero (n % 64) in
      let no : ⊥ = omega (arith, off, bit_by words n is) in
      absurd no
]

-- the list of the numbers, by their bits
pub has : (words : List ℕ) (n : ℕ) → Contains (numbers_in words) n ↔ (is_marked words n ≡ true)
has words n = (
  λ there. (from_below (is_marked words) (64 * length words) n there).1,
  λ is. let place = place_within words n is in
      in_below (is_marked words) (64 * length words) n (omega (arith, place)) is,
)

-- two numbers of one place with the same bit are the same
same_number : (n m : ℕ) → n / 64 ≡ m / 64 → n % 64 ≡ m % 64 → n ≡ m
same_number n m place bit = omega (arith, place, bit)

-- ---- a word is written

-- the bits of another place, and the other bits of this one
pub kept_apart : (words : List ℕ) (number word : ℕ)
    → ((i : ℕ) → i < 64 → i ≢ number % 64 → bit_at word i ≡ bit_at (get_or words (number / 64) 0) i)
    → (n : ℕ) → n ≢ number → number / 64 < length words
    → bit_at (get_or (set words (number / 64) word) (n / 64) 0) (n % 64) ≡ bit_at (get_or words (n / 64) 0) (n % 64)
kept_apart words number word others n apart within = elim (cases_eq (n / 64) (number / 64)) [
  | inl here ↦
      let other : n % 64 ≢ number % 64 = λ bit. apart (same_number n number here bit) in
      ap (λ p. bit_at (get_or (set words (number / 64) word) p 0) (n % 64)) here
      ∙ ap (λ w. bit_at w (n % 64)) (get_or-set_same words (number / 64) word 0 within)
      ∙ others (n % 64) (omega arith) other
      ∙ ap (λ p. bit_at (get_or words p 0) (n % 64)) (sym here)
  | inr there ↦ ap (λ w. bit_at w (n % 64)) (get_or-set_other words (number / 64) (n / 64) word 0 there)
]

written : (words : List ℕ) (number word b : ℕ) → number / 64 < length words → bit_at word (number % 64) ≡ b
    → bit_at (get_or (set words (number / 64) word) (number / 64) 0) (number % 64) ≡ b
written words number word b within is =
    ap (λ w. bit_at w (number % 64)) (get_or-set_same words (number / 64) word 0 within) ∙ is

-- one number more
pub waked : (old words : List ℕ) (number word : ℕ) → ((j : ℕ) → get_or words j 0 ≡ get_or old j 0)
    → number / 64 < length words → bit_at word (number % 64) ≡ 1
    → ((i : ℕ) → i ≢ number % 64 → bit_at word i ≡ bit_at (get_or words (number / 64) 0) i)
    → (n : ℕ) → Contains (numbers_in (set words (number / 64) word)) n ↔ ((n ≡ number) ⊎ Contains (numbers_in old) n)
waked old words number word grown within is others n = (
  λ there. elim (cases_eq n number) [
    | inl e ↦ inl e
    | inr apart ↦ inr ((has old n).1 (marked_by old n (sym (kept n apart) ∙ bit_by after n ((has after n).0 there))))
  ],
  λ either. elim (cases_eq n number) [
    | inl e ↦ subst (Contains (numbers_in after)) (sym e)
        ((has after number).1 (marked_by after number (written words number word 1 within is)))
    | inr apart ↦ elim either [
      | inl e ↦ absurd (apart e)
      | inr before ↦ (has after n).1 (marked_by after n (kept n apart ∙ bit_by old n ((has old n).0 before)))
    ]
  ],
)
  where
    after : List ℕ
    after = set words (number / 64) word

    kept : (n : ℕ) → n ≢ number
        → bit_at (get_or after (n / 64) 0) (n % 64) ≡ bit_at (get_or old (n / 64) 0) (n % 64)
    kept n apart = kept_apart words number word (λ i _ other. others i other) n apart within
        ∙ ap (λ w. bit_at w (n % 64)) (grown (n / 64))

-- one number less
pub rested : (words : List ℕ) (number word : ℕ) → number / 64 < length words → bit_at word (number % 64) ≡ 0
    → ((i : ℕ) → i < 64 → i ≢ number % 64 → bit_at word i ≡ bit_at (get_or words (number / 64) 0) i)
    → (n : ℕ) → Contains (numbers_in (set words (number / 64) word)) n ↔ (Contains (numbers_in words) n × (n ≢ number))
rested words number word within is others n = (
  λ there. elim (cases_eq n number) [
    | inl e ↦
        let off = written words number word 0 within is in
        let on = bit_by after number ((has after number).0 (subst (Contains (numbers_in after)) e there)) in
        let no : ⊥ = omega (arith, off, on) in
        absurd no
    | inr apart ↦
        ((has words n).1 (marked_by words n (sym (kept n apart) ∙ bit_by after n ((has after n).0 there))), apart)
  ],
  λ both. (has after n).1 (marked_by after n (kept n both.1 ∙ bit_by words n ((has words n).0 both.0))),
)
  where
    after : List ℕ
    after = set words (number / 64) word

    kept : (n : ℕ) → n ≢ number
        → bit_at (get_or after (n / 64) 0) (n % 64) ≡ bit_at (get_or words (n / 64) 0) (n % 64)
    kept n apart = kept_apart words number word others n apart within

-- the list of them is shorter, where it was there
pub shorter : (words : List ℕ) (number word : ℕ) → number / 64 < length words → bit_at word (number % 64) ≡ 0
    → ((i : ℕ) → i < 64 → i ≢ number % 64 → bit_at word i ≡ bit_at (get_or words (number / 64) 0) i)
    → Contains (numbers_in words) number
    → length (numbers_in (set words (number / 64) word)) < length (numbers_in words)
shorter words number word within is others there =
    subst (λ long. length (numbers_below (is_marked after) (64 * long)) < length (numbers_in words))
    (sym (length-set words (number / 64) word))
    (fewer (is_marked words) (is_marked after) less (64 * length words) number (omega (arith, within))
    ((has words number).0 there) (unmarked_by after number (written words number word 0 within is)))
  where
    after : List ℕ
    after = set words (number / 64) word

    less : (n : ℕ) → is_marked after n ≡ true → is_marked words n ≡ true
    less n on = (has words n).0 (((rested words number word within is others n).0 ((has after n).1 on)).0)

-- what isn't there can't be taken away
pub none_past : (words : List ℕ) (number : ℕ) → length words ≤ number / 64
    → (n : ℕ) → Contains (numbers_in words) n ↔ (Contains (numbers_in words) n × (n ≢ number))
none_past words number past n = (
  λ there. (
    there,
    λ e. let within = place_within words n ((has words n).0 there) in omega (arith, ap (λ k. k / 64) e, within, past),
  ),
  λ both. both.0,
)

-- words that were made more by words without a bit
pub grown_same : (old new : List ℕ) (n : ℕ) → length old ≤ n → length new ≡ n
    → ((k d : ℕ) → k < n → k < length old → get_or new k d ≡ get_or old k d)
    → ((k d : ℕ) → length old ≤ k → k < n → get_or new k d ≡ 0) → (j : ℕ) → get_or new j 0 ≡ get_or old j 0
grown_same old new n more long kept added j = elim (cases_lt j (length old)) [
  | inl before ↦ kept j 0 (omega (arith, before, more)) before
  | inr behind ↦ elim (cases_lt j n) [
    | inl within ↦ added j 0 behind within ∙ sym (get_or_past old j 0 behind)
    | inr past ↦ get_or_past new j 0 (omega (arith, long, past)) ∙ sym (get_or_past old j 0 behind)
  ]
]

-- ---- the numbers from one on

-- a bit of the word at a place is a number's
pub is_at : (words : List ℕ) (place low : ℕ) → low < 64 → bit_at (get_or words place 0) low ≡ 1
    → is_marked words (place * 64 + low) ≡ true
is_at words place low lt is =
    let at : (place * 64 + low) / 64 ≡ place = omega arith in
    let bit : (place * 64 + low) % 64 ≡ low = omega arith in
    marked_by words (place * 64 + low)
    (ap (λ p. bit_at (get_or words p 0) ((place * 64 + low) % 64)) at ∙ ap (bit_at (get_or words place 0)) bit ∙ is)

-- a bit of what is left of the word
pub found_from : (words : List ℕ) (from part low : ℕ) → ((i : ℕ) → i < from % 64 → bit_at part i ≡ 0)
    → ((i : ℕ) → from % 64 ≤ i → i < 64 → bit_at part i ≡ bit_at (get_or words (from / 64) 0) i)
    → low < 64 → bit_at part low ≡ 1
    → Contains (numbers_in words) (from / 64 * 64 + low) × (from ≤ from / 64 * 64 + low)
found_from words from part low below kept lt is = elim (cases_lt low (from % 64)) [
  | inl before ↦ let no : ⊥ = omega (arith, is, below low before) in absurd no
  | inr behind ↦ (
    (has words (from / 64 * 64 + low)).1 (is_at words (from / 64) low lt (sym (kept low behind lt) ∙ is)),
    omega (arith, behind),
  )
]

-- none of the word's numbers lies between
pub least_from : (words : List ℕ) (from part low : ℕ)
    → ((i : ℕ) → from % 64 ≤ i → i < 64 → bit_at part i ≡ bit_at (get_or words (from / 64) 0) i)
    → low ≤ 64 → ((i : ℕ) → i < low → bit_at part i ≡ 0)
    → (n : ℕ) → Contains (numbers_in words) n → from ≤ n → from / 64 * 64 + low ≤ n
least_from words from part low kept lt least n there after = elim (cases_eq (n / 64) (from / 64)) [
  | inl same ↦ elim (cases_lt (n % 64) low) [
    | inl before ↦
        let within : n % 64 < 64 = omega arith in
        let off = least (n % 64) before in
        let of_word = kept (n % 64) (omega (arith, same, after)) within in
        let on : bit_at (get_or words (from / 64) 0) (n % 64) ≡ 1 =
        ap (λ p. bit_at (get_or words p 0) (n % 64)) (sym same) ∙ bit_by words n ((has words n).0 there) in
        let no : ⊥ = omega (arith, off, of_word, on) in
        absurd no
    | inr behind ↦ omega (arith, same, behind)
  ]
  | inr apart ↦ omega (arith, apart, after, lt)
]

-- so all are behind a word of which nothing is left
pub behind_word : (words : List ℕ) (from part : ℕ)
    → ((i : ℕ) → from % 64 ≤ i → i < 64 → bit_at part i ≡ bit_at (get_or words (from / 64) 0) i) → part ≡ 0
    → (n : ℕ) → Contains (numbers_in words) n → from ≤ n → 64 * (from / 64 + 1) ≤ n
behind_word words from part kept nothing n there after =
    let whole = least_from words from part 64 kept (omega arith)
    (λ i _. ap (λ w. bit_at w i) nothing ∙ bit_at-zero i) n there after in
    omega (arith, whole)

-- all numbers lie below the words' end
pub below_end : (words : List ℕ) (n : ℕ) → Contains (numbers_in words) n → n < 64 * length words
below_end words n there = let place = place_within words n ((has words n).0 there) in omega (arith, place)
