-- When two answers take the same value.
use Rattle.std.proofs.Common.{◌≡◌, ◌≢◌, ℤ, pos, ◌+ℤ◌, ◌≤ℤ◌, ◌&&◌, Bool, true, false, List, arith, inl, inr, int_le, not, refl, sym, take, ◌∙◌, ⊎_elim}
use Rattle.std.proofs.lemmas.Bool.{and_parts, and_from, false≢true}
use Rattle.std.proofs.lemmas.Bool.Decides.{Decides-at}
use Rattle.std.proofs.lemmas.Int.{by_lt_z, ints}
use Rattle.std.proofs.lemmas.List.Folds.{Any-from_list_any, list_any-from_Any}
use Rattle.std.specs.Bool.{Decides}
use Rattle.std.specs.List.{Any, list_any}
use Rattle.sdl_warnings.specs.Answers.{Share, overlap}
use Rattle.sdl_warnings.specs.Decisions.{is_taken}
use Rattle.sdl_warnings.specs.declared.answered.Answered.{Answered}
use Rattle.sdl_warnings.specs.declared.answers.Taken.{Taken}
use Rattle.sdl_warnings.specs.declared.answers.Taken.TheVariants.{Numbers, Except, Boolean, Other}

le_from : (a b : ℤ) → int_le a b ≡ true → a ≤ℤ b
le_from a b is = grind (arith, ints)

le_to : (a b : ℤ) → a ≤ℤ b → int_le a b ≡ true
le_to a b is = grind (arith, ints)

not_both : (a b : Bool) → (a ≡ true → b ≡ true → ⊥) → not (a && b) ≡ true
not_both true true never = absurd (never refl refl)
not_both true false never = refl
not_both false b never = refl

not_one : (a b : Bool) → not (a && b) ≡ true → a ≡ true → b ≡ true → ⊥
not_one true true is first second = false≢true is
not_one true false is first second = false≢true second
not_one false b is first second = false≢true first

module _ (first last from to : ℤ) where
  ranges_share : overlap (Numbers first last) (Numbers from to) ≡ true → Share (Numbers first last) (Numbers from to)
  ranges_share is =
      let both = and_parts _ _ is in
      let one = and_parts _ _ both.0 in
      let two = and_parts _ _ both.1 in
      let own : first ≤ℤ last = le_from first last one.0 in
      let other : from ≤ℤ to = le_from from to one.1 in
      let before : first ≤ℤ to = le_from first to two.0 in
      let after : from ≤ℤ last = le_from from last two.1 in
      by_lt_z from first
      (λ below. inl (first, ((omega (arith, ints), own), (omega (arith, ints), before))))
      (λ above. inl (from, ((above, after), (omega (arith, ints), other))))

  shared_ranges : Share (Numbers first last) (Numbers from to) → overlap (Numbers first last) (Numbers from to) ≡ true
  shared_ranges share =
      ⊎_elim
      (λ found.
      let a : first ≤ℤ found.0 = found.1.0.0 in
      let b : found.0 ≤ℤ last = found.1.0.1 in
      let c : from ≤ℤ found.0 = found.1.1.0 in
      let d : found.0 ≤ℤ to = found.1.1.1 in
      and_from _ _
      (and_from _ _ (le_to first last (omega (arith, ints))) (le_to from to (omega (arith, ints))))
      (and_from _ _ (le_to first to (omega (arith, ints))) (le_to from last (omega (arith, ints)))))
      (λ found. absurd found.1.0)
      share

module _ (first last one : ℤ) where
  within_share : overlap (Numbers first last) (Except one) ≡ true → Share (Numbers first last) (Except one)
  within_share is =
      let parts = and_parts _ _ is in
      let own : first ≤ℤ last = le_from first last parts.0 in
      by_lt_z first one
      (λ below. inl (first, ((omega (arith, ints), own), (λ same. omega (arith, ints)))))
      (λ above. by_lt_z one last
      (λ below. inl (last, ((own, omega (arith, ints)), (λ same. omega (arith, ints)))))
      (λ under. absurd (not_one _ _ parts.1 (le_to one first above) (le_to last one under))))

  shared_within : Share (Numbers first last) (Except one) → overlap (Numbers first last) (Except one) ≡ true
  shared_within share =
      ⊎_elim
      (λ found.
      let a : first ≤ℤ found.0 = found.1.0.0 in
      let b : found.0 ≤ℤ last = found.1.0.1 in
      let differs : found.0 ≢ one = found.1.1 in
      and_from _ _ (le_to first last (omega (arith, ints)))
      (not_both _ _ (λ low high.
      let under : one ≤ℤ first = le_from one first low in
      let over : last ≤ℤ one = le_from last one high in
      differs (omega (arith, ints)))))
      (λ found. absurd found.1.0)
      share

turned : (a b : Taken) → Share a b → Share b a
turned a b share =
    ⊎_elim (λ found. inl (found.0, (found.1.1, found.1.0))) (λ found. inr (found.0, (found.1.1, found.1.0))) share

excepts : (one other : ℤ) → Share (Except one) (Except other)
excepts one other =
    by_lt_z one other
    (λ below. inl (other +ℤ pos 1, ((λ same. omega (arith, ints)), (λ same. omega (arith, ints)))))
    (λ above. inl (one +ℤ pos 1, ((λ same. omega (arith, ints)), (λ same. omega (arith, ints)))))

-- answers of which one takes nothing that the other may take
none_shared : (a b : Taken) → overlap a b ≡ false → (Share a b → ⊥) → Decides (overlap a b) (Share a b)
none_shared a b is never = ((λ yes. absurd (false≢true (sym is ∙ yes))), (λ share. absurd (never share)))

pub overlaps : (a b : Taken) → Decides (overlap a b) (Share a b)
overlaps (Numbers first last) (Numbers from to) = (ranges_share first last from to, shared_ranges first last from to)
overlaps (Numbers first last) (Except one) = (within_share first last one, shared_within first last one)
overlaps (Numbers first last) (Boolean truth) =
    none_shared (Numbers first last) (Boolean truth) refl (λ share. ⊎_elim (λ found. found.1.1) (λ found. found.1.0) share)
overlaps (Numbers first last) Other =
    none_shared (Numbers first last) Other refl (λ share. ⊎_elim (λ found. found.1.1) (λ found. found.1.0) share)
overlaps (Except one) (Numbers first last) = (
  (λ is. turned (Numbers first last) (Except one) (within_share first last one is)),
  (λ share. shared_within first last one (turned (Except one) (Numbers first last) share)),
)
overlaps (Except one) (Except other) = ((λ is. excepts one other), (λ share. refl))
overlaps (Except one) (Boolean truth) =
    none_shared (Except one) (Boolean truth) refl (λ share. ⊎_elim (λ found. found.1.1) (λ found. found.1.0) share)
overlaps (Except one) Other =
    none_shared (Except one) Other refl (λ share. ⊎_elim (λ found. found.1.1) (λ found. found.1.0) share)
overlaps (Boolean true) (Boolean true) = ((λ is. inr (true, (refl, refl))), (λ share. refl))
overlaps (Boolean true) (Boolean false) =
    none_shared (Boolean true) (Boolean false) refl
    (λ share. ⊎_elim (λ found. found.1.0) (λ found. let a : true ≡ found.0 = found.1.0 in let b : false ≡ found.0 = found.1.1 in cc) share)
overlaps (Boolean false) (Boolean true) =
    none_shared (Boolean false) (Boolean true) refl
    (λ share. ⊎_elim (λ found. found.1.0) (λ found. let a : false ≡ found.0 = found.1.0 in let b : true ≡ found.0 = found.1.1 in cc) share)
overlaps (Boolean false) (Boolean false) = ((λ is. inr (false, (refl, refl))), (λ share. refl))
overlaps (Boolean truth) (Numbers first last) =
    none_shared (Boolean truth) (Numbers first last) refl (λ share. ⊎_elim (λ found. found.1.0) (λ found. found.1.1) share)
overlaps (Boolean truth) (Except one) =
    none_shared (Boolean truth) (Except one) refl (λ share. ⊎_elim (λ found. found.1.0) (λ found. found.1.1) share)
overlaps (Boolean truth) Other =
    none_shared (Boolean truth) Other refl (λ share. ⊎_elim (λ found. found.1.0) (λ found. found.1.1) share)
overlaps Other b = none_shared Other b refl (λ share. ⊎_elim (λ found. found.1.0) (λ found. found.1.0) share)

pub any_shares : (answers : List Answered) (taken : Taken)
    → Decides (list_any (λ (one : Answered). overlap one.taken taken) answers)
    (Any (λ (one : Answered). Share one.taken taken) answers)
any_shares answers taken = (
  (λ is.
      let found = Any-from_list_any (λ (one : Answered). overlap one.taken taken) answers is in
      (found.0, found.1, found.2, found.3, (overlaps found.1.taken taken).0 found.4)),
  (λ found.
      list_any-from_Any (λ (one : Answered). overlap one.taken taken) answers
      (found.0, found.1, found.2, found.3, (overlaps found.1.taken taken).1 found.4)),
)

pub taken_shares : (earlier : List Answered) (taken : Taken) (result : Bool) → result ≡ is_taken earlier taken
    → Decides result (Any (λ (one : Answered). Share one.taken taken) (take 100 earlier))
taken_shares earlier taken result is = Decides-at result (is_taken earlier taken) is (any_shares (take 100 earlier) taken)
