-- Whose events are told, one after the other.
use Rattle.std.proofs.Common.{◌≡◌, ℕ, ◌+◌, ◌<◌, ◌≤◌, ◌==◌, Bool, true, false, not, List, [], ◌∷◌, ◌++◌, length, take, drop, get_or, Option, None, Some, Result, Ok, Err, refl, sym, ◌∙◌, ap, subst, append-nil, append_assoc, if◌then◌else◌}
use Rattle.std.specs.Prelude.{IfOk, IsTrue, MatchOption}
use Rattle.std.proofs.lemmas.Bool.{ne_eqb}
use Rattle.std.proofs.lemmas.List.{drop_more, take-append-drop, take_all, take_more}
use Rattle.view_timeline.specs.Events.{TellsBefore, TellsIn}
use Rattle.view_timeline.specs.Parts.{by_all, instances_in}
use Rattle.view_timeline.specs.Did.{Did}

instances-append : (xs ys : List ℕ) → instances_in (xs ++ ys) ≡ instances_in xs ++ instances_in ys
instances-append [] ys = refl
instances-append (x ∷ xs) ys = by (not (x == 0)) refl (instances-append xs ys)
  where
    by : (b : Bool) → not (x == 0) ≡ b → instances_in (xs ++ ys) ≡ instances_in xs ++ instances_in ys
        → instances_in (x ∷ (xs ++ ys)) ≡ instances_in (x ∷ xs) ++ instances_in ys
    by true is rest =
        ap (λ b. if b then x ∷ instances_in (xs ++ ys) else instances_in (xs ++ ys)) is
        ∙ ap (λ l. x ∷ l) rest
        ∙ ap (λ b. (if b then x ∷ instances_in xs else instances_in xs) ++ instances_in ys) (sym is)
    by false is rest =
        ap (λ b. if b then x ∷ instances_in (xs ++ ys) else instances_in (xs ++ ys)) is
        ∙ rest
        ∙ ap (λ b. (if b then x ∷ instances_in xs else instances_in xs) ++ instances_in ys) (sym is)

pub tells-none : (old : List Did) → TellsIn [] old old
tells-none old = sym (append-nil (by_all old))

-- the environment does no event of a record
pub tells-line : (number : ℕ) (old : List Did) → number ≡ 0 → TellsIn (number ∷ []) old old
tells-line number old is =
    subst (λ (n : ℕ). TellsIn (n ∷ []) old old) (sym is) (sym (append-nil (by_all old)))

pub tells-one : (number : ℕ) (old new : List Did) → (number ≡ 0 → ⊥) → by_all new ≡ by_all old ++ number ∷ []
    → TellsIn (number ∷ []) old new
tells-one number old new some all =
    all ∙ ap (λ b. by_all old ++ (if not b then number ∷ [] else [])) (sym (ne_eqb number 0 some))

pub tells-more : (first second : List ℕ) (old at new : List Did) → TellsIn first old at → TellsIn second at new
    → TellsIn (first ++ second) old new
tells-more first second old at new one other =
    other ∙ ap (λ l. l ++ instances_in second) one
    ∙ append_assoc (by_all old) (instances_in first) (instances_in second)
    ∙ ap (λ l. by_all old ++ l) (sym (instances-append first second))

-- ---- one after the other

-- once the next one of an order is told
pub tells-next : (tellers : List ℕ) (i number : ℕ) (old at new : List Did) → i < length tellers
    → number ≡ get_or tellers i 0 → TellsIn (take i tellers) old at → TellsIn (number ∷ []) at new
    → TellsIn (take (i + 1) tellers) old new
tells-next tellers i number old at new lt is before here =
    subst (λ l. TellsIn l old new)
    (ap (λ (x : ℕ). take i tellers ++ x ∷ []) is ∙ sym (take_more tellers i 0 lt))
    (tells-more (take i tellers) (number ∷ []) old at new before here)

-- where the next one isn't told
pub tells-before : (tellers : List ℕ) (i number : ℕ) (old at new : List Did) → i < length tellers
    → number ≡ get_or tellers i 0 → TellsIn (take i tellers) old at → new ≡ at
    → TellsBefore number tellers old new
tells-before tellers i number old at new lt is before same = record {
  before = take i tellers;
  later = drop (i + 1) tellers;
  all =
      sym (take-append-drop i tellers)
      ∙ ap (λ l. take i tellers ++ l) (drop_more tellers i 0 lt)
      ∙ ap (λ (x : ℕ). take i tellers ++ x ∷ drop (i + 1) tellers) (sym is);
  tells = subst (λ l. TellsIn (take i tellers) old l) (sym same) before;
}

-- all of them
pub tells-all : (tellers : List ℕ) (i : ℕ) (old new : List Did) → length tellers ≤ i
    → TellsIn (take i tellers) old new → TellsIn tellers old new
tells-all tellers i old new past all = subst (λ l. TellsIn l old new) (take_all i tellers past) all

-- ---- results

pub if-told : {E : Type 0} (result : Result Bool E) (P Q : Type 0) → (P → Q)
    → IfOk result (λ told. IsTrue told → P) → IfOk result (λ told. IsTrue told → Q)
if-told (Ok b) P Q so was = λ is. so (was is)
if-told (Err e) P Q so was = tt

-- what is said where none is there
pub tells-none-left : (o : Option ℕ) (P : Type 0) (Q : ℕ → Type 0) → ((number : ℕ) → o ≡ Some number → ⊥)
    → MatchOption o P Q → P
tells-none-left None P Q never is = is
tells-none-left (Some number) P Q never is = absurd (never number refl)
