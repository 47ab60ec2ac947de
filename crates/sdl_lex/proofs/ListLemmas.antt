-- Two ways to cut one list, and the longest front that passes a test.
use Rattle.std.proofs.Common.{◌≡◌, ◌≢◌, ℕ, zero, suc, ◌+◌, Bool, true, false, cond, ◌⊎◌, List, [], ◌∷◌, ◌++◌, length, sym, refl, ap, ◌∙◌, subst, inl, inr, ⊎_elim, arith}
use Rattle.std.specs.List.{prefix_len, list_all}
use Rattle.std.proofs.lemmas.Bool.{cases_Bool, and_parts, and_from, both_ways}

-- c is a with something after it
abbrev pub GoesOn : List ℕ → List ℕ → List ℕ → List ℕ → Type 0
GoesOn a b c d = (more : List ℕ) × (c ≡ a ++ more) × (b ≡ more ++ d)

pub two_cuts : (a b c d : List ℕ) → a ++ b ≡ c ++ d → GoesOn a b c d ⊎ GoesOn c d a b
two_cuts [] b c d e = inl (c, refl, e)
two_cuts (x ∷ a) b [] d e = inr (x ∷ a, refl, sym e)
two_cuts (x ∷ a) b (y ∷ c) d e =
    let same : x ≡ y = cc in
    ⊎_elim
    (λ s. inl (s.0, (λ i. sym same i ∷ s.1 i), s.2))
    (λ s. inr (s.0, (λ i. same i ∷ s.1 i), s.2))
    (two_cuts a b c d (cc))

-- the next element, if there is one, fails
abbrev pub Stops : (ℕ → Bool) → List ℕ → Type 0
Stops p [] = Unit {0}
Stops p (b ∷ bytes) = p b ≡ false

stops_first : (p : ℕ → Bool) (after : List ℕ) → zero ≡ prefix_len p after → Stops p after
stops_first p [] e = tt
stops_first p (b ∷ after) e =
    ⊎_elim (λ pass. absurd (let n : zero ≡ 1 + prefix_len p after = e ∙ ap (λ t. cond t (1 + prefix_len p after) 0) pass in omega arith)) (λ fail. fail) (cases_Bool (p b))

-- a front as long as the longest one that passes is that one
pub stops_at : (p : ℕ → Bool) (front after : List ℕ) → length front ≡ prefix_len p (front ++ after) → (list_all p front ≡ true) × Stops p after
stops_at p [] after e = (refl, stops_first p after e)
stops_at p (b ∷ front) after e =
    ⊎_elim
    (λ pass.
    let n : suc (length front) ≡ 1 + prefix_len p (front ++ after) = e ∙ ap (λ t. cond t (1 + prefix_len p (front ++ after)) 0) pass in
    let rest = stops_at p front after (omega arith) in
    (and_from (p b) (list_all p front) pass rest.0, rest.1))
    (λ fail. absurd (let n : suc (length front) ≡ 0 = e ∙ ap (λ t. cond t (1 + prefix_len p (front ++ after)) 0) fail in omega arith))
    (cases_Bool (p b))

pub list_all-split : (p : ℕ → Bool) (front more : List ℕ) → list_all p (front ++ more) ≡ true → list_all p more ≡ true
list_all-split p [] more h = h
list_all-split p (b ∷ front) more h = list_all-split p front more (and_parts (p b) (list_all p (front ++ more)) h).1

-- where the test stops, nothing more passes
pub none_passes : (p : ℕ → Bool) (after more others : List ℕ) → Stops p after → after ≡ more ++ others → more ≢ [] → list_all p more ≡ true → ⊥
none_passes p after [] others stops e some h = some refl
none_passes p after (b ∷ more) others stops e some h =
    let here : p b ≡ false = subst (Stops p) e stops in
    both_ways (p b) here (and_parts (p b) (list_all p more) h).0
