use Rattle.std.proofs.Common.{◌≡◌, ◌<◌, ◌≤◌, ◌+◌, ◌++◌, ◌∷◌, [], ℕ, List, arith, get_or, length, refl, subst, sym, take}
use Rattle.std.proofs.lemmas.List.{take_all, take_more}
use Rattle.std.proofs.lemmas.List.Elements.{AllZip-get_or, length_all_zip}
use Rattle.std.proofs.lemmas.Slice.Zip.{all_zipped_more}
use Rattle.std.specs.List.{AllZip}
use Rattle.run_order.proofs.Timing.{not_so}
use Rattle.run_order.proofs.chronicle.all_say_same.Goals as goal
use Rattle.run_order.specs.Comparing.{SaySame}
use Rattle.run_record.specs.Record.{RecordValue}

-- one more of each
pair_more : {A B : Type 0} (R : A → B → Type 0) (xs : List A) (ys : List B) (i : ℕ) (x : A) (y : B) → i < length xs
    → i < length ys → x ≡ get_or xs i x → y ≡ get_or ys i y → AllZip R (take i xs) (take i ys) → R x y
    → AllZip R (take (i + 1) xs) (take (i + 1) ys)
pair_more R xs ys i x y inside within is same all one =
    subst (λ firsts. AllZip R firsts (take (i + 1) ys)) (sym (take_more xs i x inside))
    (subst (λ firsts. AllZip R (take i xs ++ get_or xs i x ∷ []) firsts) (sym (take_more ys i y within))
    (all_zipped_more R (take i xs) (take i ys) (get_or xs i x) (get_or ys i y) all
    (subst (λ z. R z (get_or ys i y)) is (subst (R x) same one))))

-- no more is left
pair_all : {A B : Type 0} (R : A → B → Type 0) (xs : List A) (ys : List B) (i : ℕ) → length xs ≤ i → length ys ≤ i
    → AllZip R (take i xs) (take i ys) → AllZip R xs ys
pair_all R xs ys i inside within all =
    subst (λ firsts. AllZip R firsts ys) (take_all i xs inside)
    (subst (λ firsts. AllZip R (take i xs) firsts) (take_all i ys within) all)

-- the two at a place
pair_at : (xs ys : List RecordValue) (i : ℕ) (x y : RecordValue) → i < length xs → x ≡ get_or xs i x
    → y ≡ get_or ys i y → AllZip SaySame xs ys → SaySame x y
pair_at xs ys i x y inside is same all =
    subst (λ z. SaySame z y) (sym is)
    (subst (SaySame (get_or xs i x)) (sym same) (AllZip-get_or SaySame xs ys i x y all inside))

pub loop-place-preserved : goal.loop-place-preserved
loop-place-preserved c =
    pair_more SaySame c.args.left.now c.args.right.now c.loop-place.place c.index-left-place.result
    c.index-right-place.result (omega arith) (omega arith) c.index-left-place.is c.index-right-place.is
    c.loop-place.invariant (c.say_same.ensures.0 c.if-not-say_same.false)

-- ---- where they differ

pub returns-then-left-right : goal.returns-then-left-right
returns-then-left-right c = (
  λ yes. let no : ⊥ = cc in absurd no,
  λ all. absurd (c.if-left-right.true (length_all_zip SaySame c.args.left.now c.args.right.now all)),
)

pub returns-then-not-say_same : goal.returns-then-not-say_same
returns-then-not-say_same c = (
  λ yes. let no : ⊥ = cc in absurd no,
  λ all.
      absurd (not_so c.say_same.result c.if-not-say_same.true c.say_same.ensures.1
      (pair_at c.args.left.now c.args.right.now c.loop-place.place c.index-left-place.result
      c.index-right-place.result (omega arith) c.index-left-place.is c.index-right-place.is all)),
)

pub returns : goal.returns
returns c = (
  λ yes.
      pair_all SaySame c.args.left.now c.args.right.now c.loop-place.place (omega arith) (omega arith)
      c.loop-place.invariant,
  λ all. refl,
)
