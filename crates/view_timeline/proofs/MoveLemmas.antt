-- Moves, one after the other, and their times.
use Rattle.std.proofs.Common.{◌≡◌, ℕ, zero, suc, ◌+◌, ◌-◌, ◌<◌, ◌≤◌, ◌==◌, Bool, true, false, List, [], ◌∷◌, ◌++◌, length, set, take, drop, slice_get, Option, None, Some, refl, sym, ◌∙◌, ap, subst, arith, append-nil, append_assoc, if◌then◌else◌}
use Rattle.std.specs.List.{AllByRecursion, flat_map}
use Rattle.std.specs.Prelude.{slice_range}
use Rattle.run_record.specs.Event.{Event}
use Rattle.run_record.specs.Record.{RecordValue}
use Rattle.view_timeline.specs.Did.{Did, begins, time_of}
use Rattle.view_timeline.specs.Moves.{GoOn, IsNotLater, IsUpTo, NeverFall, began, began_at, moves_of, times}
use Rattle.view_timeline.proofs.Gathering.{all-append}
use Rattle.view_timeline.specs.declared.moves.Move.{Move}

-- ---- lists

pub get-both : {A B : Type 0} (xs : List A) (ys : List B) → length xs ≡ length ys → (k : ℕ) (x : A)
    → slice_get xs k ≡ Some x → (y : B) × (slice_get ys k ≡ Some y)
get-both [] ys same k x is = let no : ⊥ = cc in absurd no
get-both (a ∷ xs) [] same k x is = let no : ⊥ = omega (arith, same) in absurd no
get-both (a ∷ xs) (b ∷ ys) same zero x is = (b, refl)
get-both (a ∷ xs) (b ∷ ys) same (suc k) x is = get-both xs ys (omega (arith, same)) k x is

pub get-set_same : {A : Type 0} (xs : List A) (k : ℕ) (x y : A) → slice_get xs k ≡ Some x
    → slice_get (set xs k y) k ≡ Some y
get-set_same [] k x y is = let no : ⊥ = cc in absurd no
get-set_same (a ∷ xs) zero x y is = refl
get-set_same (a ∷ xs) (suc k) x y is = get-set_same xs k x y is

pub get-set_other : {A : Type 0} (xs : List A) (k j : ℕ) (y : A) → (j ≡ k → ⊥)
    → slice_get (set xs k y) j ≡ slice_get xs j
get-set_other [] k j y apart = refl
get-set_other (a ∷ xs) zero zero y apart = absurd (apart refl)
get-set_other (a ∷ xs) zero (suc j) y apart = refl
get-set_other (a ∷ xs) (suc k) zero y apart = refl
get-set_other (a ∷ xs) (suc k) (suc j) y apart = get-set_other xs k j y (λ e. apart (ap suc e))

pub get-middle : {A : Type 0} (xs : List A) (x : A) (ys : List A) → slice_get (xs ++ x ∷ ys) (length xs) ≡ Some x
get-middle [] x ys = refl
get-middle (a ∷ xs) x ys = get-middle xs x ys

pub drop-left : {A : Type 0} (xs ys : List A) → drop (length xs) (xs ++ ys) ≡ ys
drop-left [] ys = refl
drop-left (x ∷ xs) ys = drop-left xs ys

take-left : {A : Type 0} (xs ys : List A) → take (length xs) (xs ++ ys) ≡ xs
take-left [] ys = refl
take-left (x ∷ xs) ys = ap (λ l. x ∷ l) (take-left xs ys)

pub get-within : {A : Type 0} (xs : List A) (k : ℕ) (x : A) → slice_get xs k ≡ Some x → k < length xs
get-within [] k x is = let no : ⊥ = cc in absurd no
get-within (a ∷ xs) zero x is = omega arith
get-within (a ∷ xs) (suc k) x is = let rest = get-within xs k x is in omega (arith, rest)

-- the part between two others
pub range-middle : {A : Type 0} (all xs ys zs : List A) (from to : ℕ) → all ≡ xs ++ (ys ++ zs) → length xs ≡ from
    → to ≡ from + length ys → slice_range all from to ≡ ys
range-middle all xs ys zs from to is at upto =
    let many : to - from ≡ length ys = omega (arith, upto) in
    ap (λ n. take n (drop from all)) many
    ∙ ap (λ l. take (length ys) (drop from l)) is
    ∙ ap (λ n. take (length ys) (drop n (xs ++ (ys ++ zs)))) (sym at)
    ∙ ap (take (length ys)) (drop-left xs (ys ++ zs)) ∙ take-left ys zs

pub flat_map-last : {A B : Type 0} (f : A → List B) (xs : List A) (x : A)
    → flat_map f (xs ++ x ∷ []) ≡ flat_map f xs ++ f x
flat_map-last f [] x = append-nil (f x)
flat_map-last f (a ∷ xs) x =
    ap (λ l. f a ++ l) (flat_map-last f xs x) ∙ sym (append_assoc (f a) (flat_map f xs) (f x))

-- ---- the moves of a record

pub moves_of-own : (place : ℕ) (moves : List Move) (m : Move) → (m.record.0 == place) ≡ true
    → moves_of place (moves ++ m ∷ []) ≡ moves_of place moves ++ m ∷ []
moves_of-own place [] m own = ap (λ b. if b then m ∷ [] else []) own
moves_of-own place (a ∷ moves) m own = by (a.record.0 == place) refl (moves_of-own place moves m own)
  where
    by : (b : Bool) → (a.record.0 == place) ≡ b
        → moves_of place (moves ++ m ∷ []) ≡ moves_of place moves ++ m ∷ []
        → moves_of place (a ∷ (moves ++ m ∷ [])) ≡ moves_of place (a ∷ moves) ++ m ∷ []
    by true here rest =
        ap (λ b. if b then a ∷ moves_of place (moves ++ m ∷ []) else moves_of place (moves ++ m ∷ [])) here
        ∙ ap (λ l. a ∷ l) rest
        ∙ ap (λ b. (if b then a ∷ moves_of place moves else moves_of place moves) ++ m ∷ []) (sym here)
    by false other rest =
        ap (λ b. if b then a ∷ moves_of place (moves ++ m ∷ []) else moves_of place (moves ++ m ∷ [])) other
        ∙ rest
        ∙ ap (λ b. (if b then a ∷ moves_of place moves else moves_of place moves) ++ m ∷ []) (sym other)

pub moves_of-other : (place : ℕ) (moves : List Move) (m : Move) → (m.record.0 == place) ≡ false
    → moves_of place (moves ++ m ∷ []) ≡ moves_of place moves
moves_of-other place [] m other = ap (λ b. if b then m ∷ [] else []) other
moves_of-other place (a ∷ moves) m other =
    ap (λ l. if a.record.0 == place then a ∷ l else l) (moves_of-other place moves m other)

pub go_on-last : (from : ℕ) (moves : List Move) (end : ℕ) (m : Move) → GoOn from moves end → m.first.0 ≡ end
    → GoOn from (moves ++ m ∷ []) m.end.0
go_on-last from [] end m goes at = (at ∙ sym goes, refl)
go_on-last from (a ∷ moves) end m goes at = (goes.0, go_on-last a.end.0 moves end m goes.1 at)

-- ---- when transitions began

-- after one event more
pub began-last : (before : Option ℕ) (events : List Event) (last : Event)
    → began before (events ++ last ∷ []) ≡ (if begins last then time_of last else began before events)
began-last before [] last = refl
began-last before (event ∷ more) last = began-last (if begins event then time_of event else before) more last

take-past : (events : List Event) (next : Event) (rest : List Event)
    → take (length events + 1) (events ++ next ∷ rest) ≡ events ++ next ∷ []
take-past [] next rest = refl
take-past (event ∷ more) next rest =
    let one : suc (length more) + 1 ≡ suc (length more + 1) = omega arith in
    ap (λ (n : ℕ). take n (event ∷ (more ++ next ∷ rest))) one
    ∙ ap (λ (l : List Event). event ∷ l) (take-past more next rest)

-- the event at a place of a record
pub began-next : (trace : RecordValue) (first : List Event) (next : Event) (rest : List Event) (place : ℕ)
    → trace.events ≡ first ++ next ∷ rest → length first ≡ place
    → began_at trace place ≡ (if begins next then time_of next else began None first)
began-next trace first next rest place all here =
    ap (λ (n : ℕ). began None (take (n + 1) trace.events)) (sym here)
    ∙ ap (λ (l : List Event). began None (take (length first + 1) l)) all
    ∙ ap (began None) (take-past first next rest)
    ∙ began-last None first next

-- ---- times

pub times-append : (xs ys : List Did) → times (xs ++ ys) ≡ times xs ++ times ys
times-append [] ys = refl
times-append (d ∷ xs) ys = by (begins d.event) refl (times-append xs ys)
  where
    by : (b : Bool) → begins d.event ≡ b → times (xs ++ ys) ≡ times xs ++ times ys
        → times (d ∷ (xs ++ ys)) ≡ times (d ∷ xs) ++ times ys
    by true begun rest =
        ap (λ b. if b then time_of d.event ∷ times (xs ++ ys) else times (xs ++ ys)) begun
        ∙ ap (λ l. time_of d.event ∷ l) rest
        ∙ ap (λ b. (if b then time_of d.event ∷ times xs else times xs) ++ times ys) (sym begun)
    by false goes_on rest =
        ap (λ b. if b then time_of d.event ∷ times (xs ++ ys) else times (xs ++ ys)) goes_on
        ∙ rest
        ∙ ap (λ b. (if b then time_of d.event ∷ times xs else times xs) ++ times ys) (sym goes_on)

not_later-itself : (time : Option ℕ) → IsNotLater time time
not_later-itself None = tt
not_later-itself (Some at) = omega arith

never_fall-last : (ts : List (Option ℕ)) (t : Option ℕ) → NeverFall ts
    → AllByRecursion (λ (one : Option ℕ). IsNotLater one t) ts → NeverFall (ts ++ t ∷ [])
never_fall-last [] t fall all = (tt, tt)
never_fall-last (a ∷ ts) t fall all =
    (all-append (IsNotLater a) ts (t ∷ []) fall.0 (all.0, tt), never_fall-last ts t fall.1 all.1)

pub up_to-move : (time : Option ℕ) (done more : List Did) → times more ≡ times done ++ time ∷ [] → IsUpTo time done
    → IsUpTo time more
up_to-move time done more is upto = record {
  forward = subst NeverFall (sym is) (never_fall-last (times done) time upto.forward upto.up_to);
  up_to = subst (AllByRecursion (λ (one : Option ℕ). IsNotLater one time)) (sym is)
      (all-append (λ (one : Option ℕ). IsNotLater one time) (times done) (time
      ∷ []) upto.up_to (not_later-itself time, tt));
}

all-none : (ts : List (Option ℕ)) → AllByRecursion (λ (one : Option ℕ). IsNotLater one None) ts
all-none [] = tt
all-none (None ∷ ts) = (tt, all-none ts)
all-none (Some t ∷ ts) = (tt, all-none ts)

pub up_to-none : (time : Option ℕ) (done : List Did) → IsUpTo time done → IsUpTo None done
up_to-none time done upto = record { forward = upto.forward; up_to = all-none (times done) }

later-all : (one other : ℕ) → one ≤ other → (ts : List (Option ℕ))
    → AllByRecursion (λ (time : Option ℕ). IsNotLater time (Some one)) ts
    → AllByRecursion (λ (time : Option ℕ). IsNotLater time (Some other)) ts
later-all one other le [] all = tt
later-all one other le (None ∷ ts) all = absurd all.0
later-all one other le (Some t ∷ ts) all =
    let first : t ≤ one = all.0 in (omega (arith, le, first), later-all one other le ts all.1)

-- the clock moves
pub up_to-later : (one other : ℕ) (done : List Did) → one ≤ other → IsUpTo (Some one) done → IsUpTo (Some other) done
up_to-later one other done le upto = record {
  forward = upto.forward;
  up_to = later-all one other le
      (times done) upto.up_to;
}
