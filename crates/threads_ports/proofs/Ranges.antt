-- Which numbers of a range pass a test.
use Rattle.std.proofs.Common.{◌≡◌, ◌≢◌, ℕ, zero, suc, ◌+◌, ◌<◌, ◌≤◌, Bool, true, false, cond, not, ◌&&◌, eqb, ltb, List, [], ◌∷◌, ◌++◌, length, Some, slice_get, sym, refl, ap, ◌∙◌, ⊎_elim, arith, eq-eqb, ne_eqb}
use Rattle.std.specs.List.{filter, list_any, range_with_len}
use Rattle.std.proofs.lemmas.Bool.{cases_eq, le-ltb, lt-ltb, ltb-true}
use Rattle.threads_ports.specs.NumberSets.{is_in, with_number, without}

-- ---- the same numbers

-- two tests that agree at each number of a range keep the same ones
pub same_in_range : (p q : ℕ → Bool) (a n : ℕ) → ((k : ℕ) → a ≤ k → k < a + n → p k ≡ q k)
    → filter p (range_with_len a n) ≡ filter q (range_with_len a n)
same_in_range p q a zero same = refl
same_in_range p q a (suc n) same =
    let rest = same_in_range p q (a + 1) n (λ k low high. same k (omega arith) (omega arith)) in
    ap (λ b. cond b (a ∷ filter p (range_with_len (a + 1) n)) (filter p (range_with_len (a + 1) n)))
    (same a (omega arith) (omega arith))
    ∙ ap (λ l. cond (q a) (a ∷ l) l) rest

never : (a n : ℕ) → filter (λ _. false) (range_with_len a n) ≡ []
never a zero = refl
never a (suc n) = never (a + 1) n

pub none_in_range : (p : ℕ → Bool) (a n : ℕ) → ((k : ℕ) → a ≤ k → k < a + n → p k ≡ false)
    → filter p (range_with_len a n) ≡ []
none_in_range p a n fails = same_in_range p (λ _. false) a n fails ∙ never a n

at_most : (b : Bool) (a : ℕ) (l : List ℕ) (n : ℕ) → length l ≤ n → length (cond b (a ∷ l) l) ≤ suc n
at_most true a l n h = omega arith
at_most false a l n h = omega arith

pub length_in_range : (p : ℕ → Bool) (a n : ℕ) → length (filter p (range_with_len a n)) ≤ n
length_in_range p a zero = omega arith
length_in_range p a (suc n) = at_most (p a) a _ n (length_in_range p (a + 1) n)

-- ---- two tests

kept_twice : (f : ℕ → Bool) (b : Bool) (x : ℕ) (ys zs : List ℕ) → filter f ys ≡ zs
    → filter f (cond b (x ∷ ys) ys) ≡ cond (b && f x) (x ∷ zs) zs
kept_twice f true x ys zs e = ap (λ l. cond (f x) (x ∷ l) l) e
kept_twice f false x ys zs e = e

-- what passes two tests one after the other passes both
filter_filter : (f p : ℕ → Bool) (xs : List ℕ) → filter f (filter p xs) ≡ filter (λ k. p k && f k) xs
filter_filter f p [] = refl
filter_filter f p (x ∷ xs) = kept_twice f (p x) x (filter p xs) _ (filter_filter f p xs)

and-false : (x : Bool) → (x && false) ≡ false
and-false true = refl
and-false false = refl

and-true : (x : Bool) → (x && true) ≡ x
and-true true = refl
and-true false = refl

and_agree : (x y t : Bool) → (t ≡ true → x ≡ y) → (x && t) ≡ (y && t)
and_agree x y true same = ap (λ b. b && true) (same refl)
and_agree x y false same = and-false x ∙ sym (and-false y)

-- ---- one number more

parted_here : (b c d : Bool) (a m : ℕ) (l below above : List ℕ) → a ≡ m → b ≡ true → c ≡ false → d ≡ false
    → below ≡ [] → above ≡ l → cond b (a ∷ l) l ≡ cond c (a ∷ below) below ++ m ∷ cond d (a ∷ above) above
parted_here b c d a m l below above here passes low high none all = rw (passes, low, high, none, all, here) refl

parted_later : (b x y : Bool) (a m : ℕ) (l below above : List ℕ) → x ≡ true → y ≡ false → l ≡ below ++ m ∷ above
    → cond b (a ∷ l) l ≡ cond (b && x) (a ∷ below) below ++ m ∷ cond (b && y) (a ∷ above) above
parted_later true x y a m l below above passes fails rest = rw (passes, fails, rest) refl
parted_later false x y a m l below above passes fails rest = rest

-- the numbers that pass are those below one of them, it, and those above it
parted : (p : ℕ → Bool) (m a n : ℕ) → a ≤ m → m < a + n → p m ≡ true
    → filter p (range_with_len a n)
    ≡ filter (λ k. p k && ltb k m) (range_with_len a n) ++ m ∷ filter (λ k. p k && ltb m k) (range_with_len a n)
parted p m a zero low high pass = absurd (omega arith)
parted p m a (suc n) low high pass =
    ⊎_elim
    (λ (here : a ≡ m).
    let none = none_in_range (λ k. p k && ltb k m) (a + 1) n
    (λ k from to. ap (λ b. p k && b) (le-ltb k m (omega arith)) ∙ and-false (p k)) in
    let all = same_in_range (λ k. p k && ltb m k) p (a + 1) n
    (λ k from to. ap (λ b. p k && b) (lt-ltb m k (omega arith)) ∙ and-true (p k)) in
    parted_here (p a) _ _ a m _ _ _ here (ap p here ∙ pass)
    (ap (λ b. p a && b) (le-ltb a m (omega arith)) ∙ and-false (p a))
    (ap (λ b. p a && b) (le-ltb m a (omega arith)) ∙ and-false (p a)) none all)
    (λ (other : a ≢ m).
    parted_later (p a) (ltb a m) (ltb m a) a m _ _ _ (lt-ltb a m (omega arith)) (le-ltb m a (omega arith))
    (parted p m (a + 1) n (omega arith) (omega arith) pass))
    (cases_eq a m)

-- where one number passes besides those that passed
pub one_more : (p q : ℕ → Bool) (m n : ℕ) → m < n → q m ≡ true → ((k : ℕ) → k < n → k ≢ m → q k ≡ p k)
    → filter q (range_with_len 0 n) ≡ with_number m (filter p (range_with_len 0 n))
one_more p q m n within passes others =
    let below = same_in_range (λ k. q k && ltb k m) (λ k. p k && ltb k m) 0 n
    (λ k from to. and_agree (q k) (p k) (ltb k m)
    (λ lt. let less = ltb-true k m lt in others k (omega arith) (λ e. omega arith)))
    ∙ sym (filter_filter (λ k. ltb k m) p (range_with_len 0 n)) in
    let above = same_in_range (λ k. q k && ltb m k) (λ k. p k && ltb m k) 0 n
    (λ k from to. and_agree (q k) (p k) (ltb m k)
    (λ lt. let less = ltb-true m k lt in others k (omega arith) (λ e. omega arith)))
    ∙ sym (filter_filter (λ k. ltb m k) p (range_with_len 0 n)) in
    parted q m 0 n (omega arith) (omega arith) passes
    ∙ ap (λ l. l ++ m ∷ filter (λ k. q k && ltb m k) (range_with_len 0 n)) below
    ∙ ap (λ l. filter (λ k. ltb k m) (filter p (range_with_len 0 n)) ++ m ∷ l) above

-- where one number passes no more
pub one_less : (p q : ℕ → Bool) (m n : ℕ) → q m ≡ false → ((k : ℕ) → k < n → k ≢ m → q k ≡ p k)
    → filter q (range_with_len 0 n) ≡ without m (filter p (range_with_len 0 n))
one_less p q m n fails others =
    same_in_range q (λ k. p k && not (eqb k m)) 0 n (λ k from to.
    ⊎_elim
    (λ (here : k ≡ m). ap q here ∙ fails ∙ sym (ap (λ b. p k && not b) (eq-eqb k m here) ∙ and-false (p k)))
    (λ (other : k ≢ m). others k (omega arith) other ∙ sym (ap (λ b. p k && not b) (ne_eqb k m other) ∙ and-true (p k)))
    (cases_eq k m))
    ∙ sym (filter_filter (λ k. not (eqb k m)) p (range_with_len 0 n))

counted_here : (b c : Bool) (a : ℕ) (l r : List ℕ) → b ≡ true → c ≡ false → l ≡ r
    → length (cond b (a ∷ l) l) ≡ length (cond c (a ∷ r) r) + 1
counted_here b c a l r passes fails same = rw (passes, fails, same) (omega arith)

counted_later : (b c : Bool) (a : ℕ) (l r : List ℕ) → b ≡ c → length l ≡ length r + 1
    → length (cond b (a ∷ l) l) ≡ length (cond c (a ∷ r) r) + 1
counted_later b true a l r same rest = rw same (omega arith)
counted_later b false a l r same rest = rw same rest

one_longer : (p q : ℕ → Bool) (m a n : ℕ) → a ≤ m → m < a + n → q m ≡ true → p m ≡ false
    → ((k : ℕ) → a ≤ k → k < a + n → k ≢ m → q k ≡ p k)
    → length (filter q (range_with_len a n)) ≡ length (filter p (range_with_len a n)) + 1
one_longer p q m a zero low high passes fails others = absurd (omega arith)
one_longer p q m a (suc n) low high passes fails others =
    ⊎_elim
    (λ (here : a ≡ m).
    counted_here (q a) (p a) a _ _ (ap q here ∙ passes) (ap p here ∙ fails)
    (same_in_range q p (a + 1) n (λ k from to. others k (omega arith) (omega arith) (λ e. omega arith))))
    (λ (other : a ≢ m).
    counted_later (q a) (p a) a _ _ (others a (omega arith) (omega arith) other)
    (one_longer p q m (a + 1) n (omega arith) (omega arith) passes fails
    (λ k from to. others k (omega arith) (omega arith))))
    (cases_eq a m)

-- a test that one number more passes keeps one number more
pub one_more_counted : (p q : ℕ → Bool) (m n : ℕ) → m < n → q m ≡ true → p m ≡ false
    → ((k : ℕ) → k < n → k ≢ m → q k ≡ p k)
    → length (filter q (range_with_len 0 n)) ≡ length (filter p (range_with_len 0 n)) + 1
one_more_counted p q m n within passes fails others =
    one_longer p q m 0 n (omega arith) (omega arith) passes fails (λ k from to other. others k (omega arith) other)

-- ---- membership

not_here : (f : ℕ → Bool) (b : Bool) (a : ℕ) (l : List ℕ) (r : Bool) → f a ≡ false → list_any f l ≡ r
    → list_any f (cond b (a ∷ l) l) ≡ r
not_here f true a l r fails rest = rw fails rest
not_here f false a l r fails rest = rest

here_alone : (f : ℕ → Bool) (b : Bool) (a : ℕ) (l : List ℕ) → f a ≡ true → list_any f l ≡ false
    → list_any f (cond b (a ∷ l) l) ≡ b
here_alone f true a l passes none = rw passes refl
here_alone f false a l passes none = none

-- a number that isn't in a range isn't kept
outside : (p : ℕ → Bool) (m a n : ℕ) → ((k : ℕ) → a ≤ k → k < a + n → k ≢ m)
    → is_in m (filter p (range_with_len a n)) ≡ false
outside p m a zero out = refl
outside p m a (suc n) out =
    not_here (λ k. eqb k m) (p a) a _ false (ne_eqb a m (out a (omega arith) (omega arith)))
    (outside p m (a + 1) n (λ k from to. out k (omega arith) (omega arith)))

inside : (p : ℕ → Bool) (m a n : ℕ) → a ≤ m → m < a + n → is_in m (filter p (range_with_len a n)) ≡ p m
inside p m a zero low high = absurd (omega arith)
inside p m a (suc n) low high =
    ⊎_elim
    (λ (here : a ≡ m).
    here_alone (λ k. eqb k m) (p a) a _ (eq-eqb a m here) (outside p m (a + 1) n (λ k from to e. omega arith))
    ∙ ap p here)
    (λ (other : a ≢ m).
    not_here (λ k. eqb k m) (p a) a _ (p m) (ne_eqb a m other) (inside p m (a + 1) n (omega arith) (omega arith)))
    (cases_eq a m)

pub is_in_range : (p : ℕ → Bool) (m n : ℕ) → m < n → is_in m (filter p (range_with_len 0 n)) ≡ p m
is_in_range p m n within = inside p m 0 n (omega arith) (omega arith)

pub is_in_beyond : (p : ℕ → Bool) (m n : ℕ) → n ≤ m → is_in m (filter p (range_with_len 0 n)) ≡ false
is_in_beyond p m n past = outside p m 0 n (λ k from to e. omega arith)

-- ---- the least

first_here : (b : Bool) (a r : ℕ) (l : List ℕ) → b ≡ true → a ≡ r → slice_get (cond b (a ∷ l) l) 0 ≡ Some r
first_here b a r l passes here = rw passes (ap Some here)

first_later : (b : Bool) (a r : ℕ) (l : List ℕ) → b ≡ false → slice_get l 0 ≡ Some r
    → slice_get (cond b (a ∷ l) l) 0 ≡ Some r
first_later b a r l fails rest = rw fails rest

first_from : (p : ℕ → Bool) (r a n : ℕ) → a ≤ r → r < a + n → p r ≡ true → ((k : ℕ) → k < r → p k ≡ false)
    → slice_get (filter p (range_with_len a n)) 0 ≡ Some r
first_from p r a zero low high passes before = absurd (omega arith)
first_from p r a (suc n) low high passes before =
    ⊎_elim
    (λ (here : a ≡ r). first_here (p a) a r _ (ap p here ∙ passes) here)
    (λ (other : a ≢ r).
    first_later (p a) a r _ (before a (omega arith))
    (first_from p r (a + 1) n (omega arith) (omega arith) passes before))
    (cases_eq a r)

-- the first number that passes
pub first_in_range : (p : ℕ → Bool) (r n : ℕ) → r < n → p r ≡ true → ((k : ℕ) → k < r → p k ≡ false)
    → slice_get (filter p (range_with_len 0 n)) 0 ≡ Some r
first_in_range p r n within passes before = first_from p r 0 n (omega arith) (omega arith) passes before
