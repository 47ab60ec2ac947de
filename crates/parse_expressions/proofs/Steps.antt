-- What the steps of a reading say, and the tools of which the laws are made.
use denote.Enum.Bare.{same_true, true_same}
use Rattle.sdl_tree.specs.contracts.mark.Mark.{the_type}
use Rattle.parse_expressions.proofs.Grammar.{Mark, Spelling, AreAlike, IsBarred, Word, Words, Spot, Fixed, Parser, Outcome, Refusal, Refused, Deep, Barred, and_then, is_fixed, front, rest, sees, same_mark, expect, ◌≡◌, ◌⊎◌, inl, inr, Bool, true, false, if◌then◌else◌, [], ◌∷◌, ◌++◌, Option, Some, None, Ok, Err, refl, sym, ap, ◌∙◌, subst, true≢false, append_assoc}
use Rattle.sdl_tree.specs.Tree as plain
use Rattle.sdl_tree.specs.Words as word

-- that this was read, up to the rest
abbrev pub read_as : {A : Type 0} → A → Words → Outcome A
read_as x j = Ok (x, j)

-- that nothing was there to be read
abbrev pub none_as : {A : Type 0} → Words → Outcome (Option A)
none_as j = Ok (None, j)

abbrev pub some_as : {A : Type 0} → A → Words → Outcome (Option A)
some_as x j = Ok (Some x, j)

-- the first word, where there is one
abbrev pub first_word : Word → Words → Word
first_word v [] = v
first_word v (w ∷ i) = w

-- the second words are what is left of the first
abbrev pub IsRest : Words → Words → Type 0
IsRest i j = (u : Words) × (i ≡ u ++ j)

pub rest_here : (i : Words) → IsRest i i
rest_here i = ([], refl)

pub rest_on : (i m j : Words) → IsRest i m → IsRest m j → IsRest i j
rest_on i m j a b = (a.0 ++ b.0, a.1 ∙ ap (λ k. a.0 ++ k) b.1 ∙ sym (append_assoc a.0 b.0 j))

pub true_or_false : (b : Bool) → (b ≡ true) ⊎ (b ≡ false)
true_or_false true = inl refl
true_or_false false = inr refl

pub swapped : {X Y : Type 0} → X ⊎ Y → Y ⊎ X
swapped (inl x) = inr x
swapped (inr y) = inl y

-- ---- outcomes

pub same_pair : {A : Type 0} (x y : A) (j k : Words) → read_as x j ≡ read_as y k → ◌≡◌ {A = A × Words} (x, j) (y, k)
same_pair x y j k e = cc

pub same_value : {A : Type 0} (x y : A) (j k : Words) → read_as x j ≡ read_as y k → x ≡ y
same_value x y j k e = ap (λ p. p.0) (same_pair x y j k e)

pub same_rest : {A : Type 0} (x y : A) (j k : Words) → read_as x j ≡ read_as y k → j ≡ k
same_rest x y j k e = ap (λ p. p.1) (same_pair x y j k e)

-- what holds of one outcome holds of an equal one
pub as_read : {A : Type 0} (P : A → Words → Type 0) (x y : A) (j k : Words) → read_as x j ≡ read_as y k → P x j → P y k
as_read {A} P x y j k e s = let Q : A × Words → Type 0 = λ p. P p.0 p.1 in subst Q (same_pair x y j k e) s

pub not_read : {A : Type 0} {P : Type 0} (r : Refusal) (x : A) (j : Words) → Err r ≡ read_as x j → P
not_read r x j e = cc

pub not_refused : {A : Type 0} {P : Type 0} (x : A) (j : Words) (r : Refusal) → read_as x j ≡ Err r → P
not_refused x j r e = cc

pub not_some : {A : Type 0} {P : Type 0} (x : A) (i j : Words) → none_as i ≡ some_as x j → P
not_some {A} x i j e = let apart : ◌≡◌ {A = Option A} None (Some x) = same_value {A = Option A} None (Some x) i j e in absurd cc

-- where a refusal stands
abbrev pub StandsAt : Words → Refusal → Type 0
StandsAt i (Refused left) = IsRest i left
StandsAt i (Deep left) = IsRest i left
StandsAt i (Barred left) = IsRest i left × IsBarred i left

-- what is refused in the rest of words is in these
pub stands_on : (i m : Words) (r : Refusal) → IsRest i m → StandsAt m r → StandsAt i r
stands_on i m (Refused left) a s = rest_on i m left a s
stands_on i m (Deep left) a s = rest_on i m left a s
stands_on i m (Barred left) a s =
    (rest_on i m left a s.0, (a.0 ++ s.1.0, s.1.1, a.1 ∙ ap (λ k. a.0 ++ k) s.1.2 ∙ sym (append_assoc a.0 s.1.0 s.1.1), s.1.3, s.1.4, s.1.5))

pub bind_is : {A B : Type 0} (o : Outcome A) (f : A → Parser B) (a : A) (m : Words) → o ≡ read_as a m → and_then o f ≡ f a m
bind_is o f a m e = ap (λ q. and_then q f) e

-- ---- choices

-- which way a test went
pub chosen : {A : Type 0} (b : Bool) (x y z : A) → (if b then x else y) ≡ z → ((b ≡ true) × (x ≡ z)) ⊎ ((b ≡ false) × (y ≡ z))
chosen true x y z e = inl (refl, e)
chosen false x y z e = inr (refl, e)

pub if_true : {A : Type 0} (b : Bool) (x y : A) → b ≡ true → (if b then x else y) ≡ x
if_true b x y e = ap (λ t. if t then x else y) e

pub if_false : {A : Type 0} (b : Bool) (x y : A) → b ≡ false → (if b then x else y) ≡ y
if_false b x y e = ap (λ t. if t then x else y) e

-- ---- the next word

pub same_mark_ok : (m n : Mark) → same_mark m n ≡ true → m ≡ n
unfolding same_mark
same_mark_ok m n e = same_true the_type tt m n e

pub same_mark_again : (m : Mark) → same_mark m m ≡ true
unfolding same_mark
same_mark_again m = true_same the_type m m refl

-- the mark that is seen stands there
pub sees_ok : (m : Mark) (i : Words) → sees m i ≡ true → (s : Spelling) × (i ≡ Fixed m s ∷ rest i)
unfolding sees front rest
sees_ok m (Fixed n s ∷ i) e = (s, ap (λ k. Fixed k s ∷ i) (same_mark_ok n m e))
sees_ok m i e = absurd (true≢false (sym e))

pub sees_again : (m : Mark) (s : Spelling) (i : Words) → sees m (Fixed m s ∷ i) ≡ true
unfolding sees front
sees_again m s i = same_mark_again m

-- it is seen wherever the same stands next
pub sees_front : (m : Mark) (i k : Words) → front i ≡ front k → sees m i ≡ sees m k
unfolding sees
sees_front m i k e = ap (is_fixed m) e

-- it is seen wherever it stands
pub sees_at : (m : Mark) (s : Spelling) (i j : Words) → i ≡ Fixed m s ∷ j → sees m i ≡ true
sees_at m s i j e = ap (sees m) e ∙ sees_again m s j

pub sees_last : (m : Mark) → sees m [] ≡ false
unfolding sees front
sees_last m = refl

-- another mark isn't seen
pub sees_other : (m n : Mark) → same_mark n m ≡ false → (s : Spelling) (j : Words) → sees m (Fixed n s ∷ j) ≡ false
unfolding sees front
sees_other m n apart s j = apart

pub expect_again : (m : Mark) (s : Spelling) (i : Words) → expect m (Fixed m s ∷ i) ≡ read_as s i
unfolding expect front rest
expect_again m s i = if_true (same_mark m m) (Ok (s, i)) (Err (Refused (Fixed m s ∷ i))) (same_mark_again m)

-- ---- words that differ in places and spellings alone

pub alike_fixed : (m : Mark) (s : Spelling) (i k : Words) → AreAlike (Fixed m s ∷ i) k → (t : Spelling) × (l : Words) × (k ≡ Fixed m t ∷ l) × AreAlike i l
alike_fixed m s i [] a = absurd a
alike_fixed m s i (Fixed n t ∷ l) a = (t, l, ap (λ o. Fixed o t ∷ l) (sym a.0), a.1)
alike_fixed m s i (w ∷ l) a = absurd a.0

pub alike_name : (x : Spot) (i k : Words) → AreAlike (word.Name x ∷ i) k → (y : Spot) × (l : Words) × (k ≡ word.Name y ∷ l) × AreAlike i l × (y.text ≡ x.text)
alike_name x i [] a = absurd a
alike_name x i (word.Name y ∷ l) a = (y, l, refl, a.1, sym a.0)
alike_name x i (w ∷ l) a = absurd a.0

pub alike_number : (x : plain.Number) (i k : Words) → AreAlike (word.Number x.value x.digits ∷ i) k
    → (y : plain.Number) × (l : Words) × (k ≡ word.Number y.value y.digits ∷ l) × AreAlike i l × (y.value ≡ x.value)
alike_number x i [] a = absurd a
alike_number x i (word.Number n y ∷ l) a = (record { value = n; digits = y }, l, refl, a.1, sym a.0)
alike_number x i (w ∷ l) a = absurd a.0

pub alike_text : (x : Spot) (i k : Words) → AreAlike (word.Text x ∷ i) k → (y : Spot) × (l : Words) × (k ≡ word.Text y ∷ l) × AreAlike i l
alike_text x i [] a = absurd a
alike_text x i (word.Text y ∷ l) a = (y, l, refl, a.1)
alike_text x i (w ∷ l) a = absurd a.0

-- words equal to others are alike what those are
pub alike_from : (i j k : Words) → i ≡ j → AreAlike i k → AreAlike j k
alike_from i j k e a = let P : Words → Type 0 = λ l. AreAlike l k in subst P e a
