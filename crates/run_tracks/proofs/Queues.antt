-- What is known to be in a queue.
use Rattle.std.proofs.Common.{◌≡◌, ◌⊎◌, ◌∙◌, ◌+◌, ◌<◌, ℕ, zero, suc, Bool, true, List, [], ◌∷◌, ◌++◌, Contains, Some, ap, arith, inl, inr, length, refl, set, slice_get, subst, sym}
use Rattle.std.specs.List.{range_with_len}
use Rattle.std.proofs.lemmas.List.{map-id}
use Rattle.std.proofs.lemmas.List.Elements.{Contains-append_left, Contains-push}
use Rattle.std.proofs.lemmas.List.FromFn.{get_or-range_with_len, length-range_with_len, map-range_with_len_more}
use Rattle.std.proofs.lemmas.Option.{slice_get_within}
use Rattle.run_tracks.specs.WorkList.{AreQueued}

-- one number more, from 1 on
pub range_more : (n : ℕ) → range_with_len 1 (n + 1) ≡ range_with_len 1 n ++ (n + 1) ∷ []
range_more n =
    sym (map-id (range_with_len 1 (n + 1))) ∙ map-range_with_len_more (λ x. x) 1 n (n + 1) (omega arith)
    ∙ ap (λ (ns : List ℕ). ns ++ (n + 1) ∷ []) (map-id (range_with_len 1 n))

pub all_queued : (n : ℕ) (queued : List Bool) (waking : List ℕ) → length queued ≡ n → waking ≡ range_with_len 1 n
    → AreQueued queued waking
all_queued n queued waking many is place flagged =
    let short : place < length queued = slice_get_within queued place true flagged in
    let within : place < n = omega (arith, short, many) in
    let there : place < length (range_with_len 1 n) = omega (arith, within, length-range_with_len 1 n) in
    let flip : 1 + place ≡ place + 1 = omega arith in
    subst (λ (ns : List ℕ). Contains ns (place + 1)) (sym is)
    (place, there, get_or-range_with_len 1 n place (place + 1) within ∙ flip)

-- what stands in a list where one place is changed
at_set : {X : Type 0} (xs : List X) (place k : ℕ) (new i : X) → slice_get (set xs place new) k ≡ Some i
    → (k ≡ place) ⊎ (slice_get xs k ≡ Some i)
at_set [] place k new i e = let no : ⊥ = cc in absurd no
at_set (x ∷ xs) zero zero new i e = inl refl
at_set (x ∷ xs) zero (suc k) new i e = inr e
at_set (x ∷ xs) (suc place) zero new i e = inr e
at_set (x ∷ xs) (suc place) (suc k) new i e =
    elim (at_set xs place k new i e) [
      | inl w ↦ inl (ap suc w)
      | inr w ↦ inr w
    ]

-- one more is queued
pub queued_more : (queued : List Bool) (waking new : List ℕ) (place number : ℕ) → AreQueued queued waking
    → number ≡ place + 1 → new ≡ waking ++ number ∷ [] → AreQueued (set queued place true) new
queued_more queued waking new place number are is more = λ at flagged.
    elim (at_set queued place at true true flagged) [
      | inl here ↦
          let same : number ≡ at + 1 = omega (arith, here, is) in
          subst (λ (ns : List ℕ). Contains ns (at + 1)) (sym more)
          (subst (λ n. Contains (waking ++ n ∷ []) (at + 1)) (sym same) (Contains-push waking (at + 1)))
      | inr there ↦
          subst (λ (ns : List ℕ). Contains ns (at + 1)) (sym more)
          (Contains-append_left waking (number ∷ []) (at + 1) (are at there))
    ]
