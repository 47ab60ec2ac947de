-- Lists of faults: what is told of them, what each of them is, and what stands in them.
use Rattle.std.proofs.Common.{◌≡◌, ◌⊎◌, inl, inr, ◌++◌, Bool, true, false, List, [], ◌∷◌, Option, None, Some, flat_map, if◌then◌else◌, refl, sym, subst}
use Rattle.std.proofs.lemmas.List.Sums.{fold-append}
use Rattle.sdl_tree.specs.Words.{Spot}
use Rattle.build_names.specs.declared.faults.fault.Rule.{Rule}
use Rattle.build_names.specs.FaultLaws.{Each, In, IsFirst}
use Rattle.build_names.specs.Faults.{Diagnostic, diagnostic_at, key, precedes, earlier, least_of, fault_if}
use Rattle.build_names.proofs.OrderLemmas.{not_less-trans, less-asym, not_less-same}

-- ---- what is told

pub both_noted : (old : Option Diagnostic) (xs ys : List Diagnostic) →
    least_of (least_of old xs) ys ≡ least_of old (xs ++ ys)
both_noted old xs ys = sym (fold-append earlier old xs ys)

-- a fault that was noted stays, or an earlier one is told
one_told : (old x : Diagnostic) (xs : List Diagnostic) → (least_of (Some x) xs ≡ None → ⊥) →
    (least_of (Some old) xs ≡ None → ⊥) → (b : Bool) → least_of (if b then Some x else Some old) xs ≡ None → ⊥
one_told old x xs by_x by_old true h = by_x h
one_told old x xs by_x by_old false h = by_old h

some_told : (old : Diagnostic) (xs : List Diagnostic) → least_of (Some old) xs ≡ None → ⊥
some_told old [] h = cc
some_told old (x ∷ xs) h = one_told old x xs (some_told x xs) (some_told old xs) (precedes x old) h

pub none_noted : (faults : List Diagnostic) → least_of None faults ≡ None → faults ≡ []
none_noted [] h = refl
none_noted (x ∷ xs) h = absurd (some_told x xs h)

-- the fault that is told once these are noted behind an old one
record IsFirstFrom (old : Diagnostic) (xs : List Diagnostic) (fault : Diagnostic) : Type 0 where
  among : (fault ≡ old) ⊎ In fault xs
  old_first : precedes old fault ≡ false
  first : Each (λ other. precedes other fault ≡ false) xs

one_first : (old x : Diagnostic) (xs : List Diagnostic) (fault : Diagnostic) →
    (least_of (Some x) xs ≡ Some fault → IsFirstFrom x xs fault) →
    (least_of (Some old) xs ≡ Some fault → IsFirstFrom old xs fault) → (b : Bool) → precedes x old ≡ b →
    least_of (if b then Some x else Some old) xs ≡ Some fault → IsFirstFrom old (x ∷ xs) fault
one_first old x xs fault by_x by_old true less h =
    let rest = by_x h in
    record {
      among = inr rest.among;
      old_first = not_less-trans (key fault) (key x) (key old) rest.old_first (less-asym (key x) (key old) less);
      first = (rest.old_first, rest.first);
    }
one_first old x xs fault by_x by_old false less h =
    let rest = by_old h in
    record {
      among = elim rest.among [ inl e ↦ inl e | inr i ↦ inr (inr i) ];
      old_first = rest.old_first;
      first = (not_less-trans (key fault) (key old) (key x) rest.old_first less, rest.first);
    }

first_from : (old : Diagnostic) (xs : List Diagnostic) (fault : Diagnostic) → least_of (Some old) xs ≡ Some fault →
    IsFirstFrom old xs fault
first_from old [] fault h =
    let same : old ≡ fault = cc in
    record {
      among = inl (sym same);
      old_first = subst (λ f. precedes old f ≡ false) same (not_less-same (key old));
      first = tt;
    }
first_from old (x ∷ xs) fault h =
    one_first old x xs fault (first_from x xs fault) (first_from old xs fault) (precedes x old) refl h

pub first_noted : (faults : List Diagnostic) (fault : Diagnostic) → least_of None faults ≡ Some fault →
    IsFirst faults fault
first_noted [] fault h = cc
first_noted (x ∷ xs) fault h =
    let from = first_from x xs fault h in
    record { listed = from.among; first = (from.old_first, from.first) }

-- ---- what each fault is

pub each-both : {A : Type 0} (P : A → Type 0) (xs ys : List A) → Each P xs → Each P ys → Each P (xs ++ ys)
each-both P [] ys left right = right
each-both P (x ∷ xs) ys left right = (left.0, each-both P xs ys left.1 right)

pub each-of : {A B : Type 0} (P : A → Type 0) (f : B → List A) (xs : List B) → ((x : B) → In x xs → Each P (f x)) →
    Each P (flat_map f xs)
each-of P f [] of = tt
each-of P f (x ∷ xs) of = each-both P (f x) (flat_map f xs) (of x (inl refl)) (each-of P f xs (λ y i. of y (inr i)))

pub each-in : {A : Type 0} (P : A → Type 0) (xs : List A) (x : A) → Each P xs → In x xs → P x
each-in P [] x each at = absurd at
each-in P (y ∷ ys) x each at = elim at [ inl e ↦ subst P (sym e) each.0 | inr i ↦ each-in P ys x each.1 i ]

pub each-if : (P : Diagnostic → Type 0) (broken : Bool) (rule : Rule) (word : Spot) →
    (broken ≡ true → P (diagnostic_at rule word)) → Each P (fault_if broken rule word)
each-if P true rule word is = (is refl, tt)
each-if P false rule word is = tt

-- ---- what stands in a list of faults

pub in-left : {A : Type 0} (x : A) (xs ys : List A) → In x xs → In x (xs ++ ys)
in-left x [] ys at = absurd at
in-left x (y ∷ xs) ys at = elim at [ inl e ↦ inl e | inr i ↦ inr (in-left x xs ys i) ]

pub in-right : {A : Type 0} (x : A) (xs ys : List A) → In x ys → In x (xs ++ ys)
in-right x [] ys at = at
in-right x (y ∷ xs) ys at = inr (in-right x xs ys at)

pub in-each : {A B : Type 0} (x : A) (f : B → List A) (xs : List B) (y : B) → In y xs → In x (f y) →
    In x (flat_map f xs)
in-each x f [] y at here = absurd at
in-each x f (z ∷ xs) y at here =
    elim at [
      | inl e ↦ in-left x (f z) (flat_map f xs) (subst (λ w. In x (f w)) e here)
      | inr i ↦ in-right x (f z) (flat_map f xs) (in-each x f xs y i here)
    ]

pub in-if : (broken : Bool) (rule : Rule) (word : Spot) → broken ≡ true →
    In (diagnostic_at rule word) (fault_if broken rule word)
in-if true rule word is = inl refl
in-if false rule word is = cc
