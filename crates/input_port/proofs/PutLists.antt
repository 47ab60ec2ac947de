use Rattle.std.proofs.Common.{◌≡◌, ◌≢◌, ℕ, zero, suc, ◌+◌, ◌<◌, ◌≤◌, Bool, true, false, cond, nat_eq, nat_lt, List, [], ◌∷◌, ◌++◌, length, get_or, map, take, drop, All, sym, refl, ap, ◌∙◌, arith, append_assoc, append-nil, length-append, eq-eqb, ne_eqb}
use Rattle.std.proofs.lemmas.Bool.{ltb-true, ltb-false}
use Rattle.std.proofs.lemmas.Grind.{common_steps}
use Rattle.std.proofs.lemmas.List.{append_cancel_left, get_or_at, get_or-map, nil_from_length, take_at, take-append-le, take-append-drop}
use Rattle.std.proofs.lemmas.List.Elements.{filter-append}
use Rattle.input_port.specs.QueueWords.{longer, of, one_to, shorter, Placed, StartsWith}

-- the entries of one number in two lists, one after the other
pub of-append : (n : ℕ) (xs ys : List Placed) → of n (xs ++ ys) ≡ of n xs ++ of n ys
of-append n xs ys = filter-append (λ (p : Placed). nat_eq p.number n) xs ys

pub of_same : (n : ℕ) (xs : List Placed) (x : Placed) → x.number ≡ n → of n (xs ++ x ∷ []) ≡ of n xs ++ x ∷ []
of_same n xs x e = of-append n xs (x ∷ []) ∙ ap (λ b. of n xs ++ cond b (x ∷ []) []) (eq-eqb x.number n e)

pub of_other : (n : ℕ) (xs : List Placed) (x : Placed) → x.number ≢ n → of n (xs ++ x ∷ []) ≡ of n xs
of_other n xs x other = of-append n xs (x ∷ []) ∙ ap (λ b. of n xs ++ cond b (x ∷ []) []) (ne_eqb x.number n other) ∙ append-nil (of n xs)

pub of_none : (n : ℕ) (xs ys : List Placed) → of n ys ≡ [] → of n (xs ++ ys) ≡ of n xs
of_none n xs ys none = of-append n xs ys ∙ ap (λ l. of n xs ++ l) none ∙ append-nil (of n xs)

pub of_here : (n : ℕ) (x : Placed) (xs : List Placed) → x.number ≡ n → of n (x ∷ xs) ≡ x ∷ of n xs
of_here n x xs e = ap (λ b. cond b (x ∷ of n xs) (of n xs)) (eq-eqb x.number n e)

-- a number above all that were given stands nowhere
pub of_new : (given n : ℕ) (ps : List Placed) → All (λ p. (0 < p.number) × (p.number ≤ given)) ps → given < n → of n ps ≡ []
of_new given n [] all above = refl
of_new given n (p ∷ ps) all above =
    let here : p.number ≤ given = (all 0 p (omega arith)).1 in
    rw (ne_eqb p.number n (λ e. omega arith)) (of_new given n ps (λ k d lt. all (suc k) d (omega arith)) above)

nil_left : (xs ys : List Placed) → xs ++ ys ≡ [] → xs ≡ []
nil_left xs ys e = nil_from_length xs (let none = ap length e in omega (arith, length-append xs ys))

pub starts_all : (xs : List Placed) → StartsWith xs xs
starts_all xs = ([], sym (append-nil xs))

pub starts_through : (xs ys zs : List Placed) → StartsWith xs ys → StartsWith ys zs → StartsWith xs zs
starts_through xs ys zs a b = (b.0 ++ a.0, a.1 ∙ ap (λ l. l ++ a.0) b.1 ∙ append_assoc zs b.0 a.0)

pub starts_more : (xs ys : List Placed) (x : Placed) → StartsWith xs ys → StartsWith (xs ++ x ∷ []) ys
starts_more xs ys x s = (s.0 ++ x ∷ [], ap (λ l. l ++ x ∷ []) s.1 ∙ append_assoc ys s.0 (x ∷ []))

-- where the beginning has all of a number, the rest has none
pub rest_none : (n : ℕ) (puts seen : List Placed) (s : StartsWith puts seen) → of n puts ≡ of n seen → of n s.0 ≡ []
rest_none n puts seen s own =
    append_cancel_left (of n seen) (of n s.0) [] (sym (of-append n seen s.0) ∙ ap (of n) (sym s.1) ∙ own ∙ sym (append-nil (of n seen)))

-- what stands between such a beginning and the whole has all of it too
pub own_kept : (n : ℕ) (puts mid seen : List Placed) → StartsWith puts mid → StartsWith mid seen → of n puts ≡ of n seen → of n puts ≡ of n mid
unfolding starts_through
own_kept n puts mid seen a b own =
    let none = nil_left (of n b.0) (of n a.0) (sym (of-append n b.0 a.0) ∙ rest_none n puts seen (starts_through puts mid seen a b) own) in
    own ∙ sym (ap (of n) b.1 ∙ of_none n seen b.0 none)

-- of two beginnings of one list the one that is no longer begins the other
pub no_longer : (puts xs ys : List Placed) → StartsWith puts xs → StartsWith puts ys → length xs ≤ length ys → StartsWith ys xs
no_longer puts xs ys sx sy le =
    let n : ℕ = length xs in
    let front : take n ys ≡ xs =
    sym (take-append-le n ys sy.0 le) ∙ ap (take n) (sym sy.1 ∙ sx.1) ∙ take_at xs sx.0 n refl in
    (drop n ys, sym (take-append-drop n ys) ∙ ap (λ l. l ++ drop n ys) front)

-- the longer of two beginnings begins the list too, and begins with both
pub record IsLonger (puts xs ys long least : List Placed) : Type 0 where
  pub whole : StartsWith puts long
  pub left : StartsWith long xs
  pub right : StartsWith long ys
  pub short : StartsWith long least

pub longer_starts : (puts xs ys : List Placed) → StartsWith puts xs → StartsWith puts ys → IsLonger puts xs ys (longer xs ys) (shorter xs ys)
longer_starts puts xs ys sx sy = by (nat_lt (length xs) (length ys)) refl
  where
    by : (b : Bool) → nat_lt (length xs) (length ys) ≡ b → IsLonger puts xs ys (cond b ys xs) (cond b xs ys)
    by true is =
        let begins = no_longer puts xs ys sx sy (let lt = ltb-true (length xs) (length ys) is in omega arith) in
        record { whole = sy; left = begins; right = starts_all ys; short = begins }
    by false is =
        let begins = no_longer puts ys xs sy sx (ltb-false (length xs) (length ys) is) in
        record { whole = sx; left = starts_all xs; right = begins; short = begins }

-- where the longer of two lists begins with the shorter, it begins with both
pub both_told : (xs ys : List Placed) → StartsWith (longer xs ys) (shorter xs ys) → StartsWith (longer xs ys) xs × StartsWith (longer xs ys) ys
both_told xs ys =
    elim (nat_lt (length xs) (length ys)) as
    (λ b. StartsWith (cond b ys xs) (cond b xs ys) → StartsWith (cond b ys xs) xs × StartsWith (cond b ys xs) ys)
    [ true ↦ λ s. (s, starts_all ys) | false ↦ λ s. (starts_all xs, s) ]

-- a list that begins with another, and is a beginning of it, is the other
pub begins_back : (drawn seen : List Placed) → StartsWith drawn seen → StartsWith seen drawn → seen ≡ drawn
begins_back drawn seen a b =
    let none = nil_left b.0 a.0 (append_cancel_left drawn (b.0 ++ a.0) [] (sym (append_assoc drawn b.0 a.0) ∙ ap (λ l. l ++ a.0) (sym b.1) ∙ sym a.1 ∙ sym (append-nil drawn))) in
    b.1 ∙ ap (λ l. drawn ++ l) none ∙ append-nil drawn

pub all_mid : (P : Placed → Type 0) (xs : List Placed) (x : Placed) (ys : List Placed) → All P (xs ++ x ∷ ys) → P x
all_mid P xs x ys all =
    rw (get_or_at xs x ys x (length xs) refl) at (all (length xs) x (omega (arith, length-append xs (x ∷ ys))))

length_one_to : (n : ℕ) → length (one_to n) ≡ n
length_one_to zero = refl
length_one_to (suc n) = let before = length_one_to n in omega (arith, length-append (one_to n) (suc n ∷ []))

one_to_at : (n k d : ℕ) → k < n → get_or (one_to n) k d ≡ suc k
one_to_at zero k d lt = absurd (omega arith)
one_to_at (suc n) k d lt = let long = length_one_to n in let rest = one_to_at n k d in grind (arith, common_steps)

-- in a list that is counted 1, 2, .. each count is one more than the number of those before
pub counted_at : (before : List Placed) (x : Placed) (rest : List Placed)
    → map (λ (p : Placed). p.count) (before ++ x ∷ rest) ≡ one_to (length (before ++ x ∷ rest)) → x.count ≡ length before + 1
counted_at before x rest counted =
    let within : length before < length (before ++ x ∷ rest) = omega (arith, length-append before (x ∷ rest)) in
    let here = ap (λ (p : Placed). p.count) (get_or_at before x rest x (length before) refl) in
    let read = get_or-map (λ (p : Placed). p.count) (before ++ x ∷ rest) (length before) x 0 within in
    let counts = ap (λ l. get_or l (length before) 0) counted in
    let next = one_to_at (length (before ++ x ∷ rest)) (length before) 0 within in omega arith
