-- What is left of records: the next events, that all is told, and how records close.
use Rattle.std.proofs.Common.{◌≡◌, ℕ, ◌+◌, ◌<◌, ◌==◌, Bool, true, false, List, [], ◌∷◌, ◌++◌, length, slice_get, Option, None, Some, refl, sym, ◌∙◌, ap, subst, arith, append-nil, append_assoc, if◌then◌else◌}
use Rattle.std.specs.Borrow.{Bor}
use Rattle.std.specs.Prelude.{IfNone, IfSome, MatchOption}
use Rattle.std.specs.Slice.{IsItemAt}
use Rattle.std.proofs.lemmas.Bool.{eqb-false, eqb-true}
use Rattle.std.proofs.lemmas.Option.{slice_get-get_or, slice_get_past}
use Rattle.run_record.specs.Entry.{event_of}
use Rattle.run_record.specs.Event as event
use Rattle.run_record.specs.Record.{RecordValue}
use Rattle.view_timeline.specs.Events.{Closes, IsAllTold, IsDone, IsNext, Keeps, reached}
use Rattle.view_timeline.specs.Parts.{IsClosing}
use Rattle.view_timeline.specs.declared.events.Events.{Events}
use Rattle.view_timeline.specs.declared.events.Reached.{Reached}
use Rattle.view_timeline.proofs.Gathering.{all-append}
use Rattle.view_timeline.proofs.MoveLemmas.{get-within, times-append, up_to-move}
use Rattle.view_timeline.specs.Did.{Did, begins, did, is_closing, taken_by, time_of}
use Rattle.view_timeline.specs.Moves.{IsUpTo, times}
use Rattle.view_timeline.specs.Traffic.{IsMissing, IsToBegun, Ledger}
use Rattle.view_timeline.specs.declared.cursor.Next.{Next}

-- ---- lists and options

-- what `get` lends
pub item-read : {X : Type 0} (xs ys : List X) (i : ℕ) (x : Bor X) → xs ≡ ys → IsItemAt xs i (Some x)
    → slice_get ys i ≡ Some x.now
item-read {X} xs ys i x same read =
    subst (λ (l : List X). slice_get l i ≡ Some x.now) same
    (slice_get-get_or xs i x.now read.3.0 ∙ ap Some (sym (read.4 (omega arith) x.now)))

pub no-item : {X : Type 0} (xs ys : List X) (i : ℕ) → xs ≡ ys → IsItemAt xs i None → slice_get ys i ≡ None
no-item {X} xs ys i same read =
    subst (λ (l : List X). slice_get l i ≡ None) same (slice_get_past xs i read.3)

-- what is said of none
pub if-none-always : {A : Type 0} (o : Option A) (P : Type 0) → P → IfNone o P
if-none-always None P is = is
if-none-always (Some x) P is = tt

-- the same, where none is there
pub if-none : {A : Type 0} (o : Option A) (P : Type 0) → ((x : A) → o ≡ Some x → ⊥) → IfNone o P → P
if-none None P never is = is
if-none (Some x) P never is = absurd (never x refl)

-- what is said of one
pub some-map : {A : Type 0} (o : Option A) (P Q : A → Type 0) → ((x : A) → P x → Q x) → IfSome o P → IfSome o Q
some-map None P Q so is = tt
some-map (Some x) P Q so is = so x is

-- ---- the next event

-- what a cursor answers
pub next-so : (events : Events) (place : ℕ) (one : Reached) (result : Option Next) → reached events place ≡ Some one
    → MatchOption result (one.cursor.left ≡ [])
    (λ (next : Next). one.cursor.left ≡ event_of next.entry next.values.now ∷ next.rest.left)
    → IfSome result (λ (next : Next). next.first ≡ one.cursor.told)
    → IfSome result (λ (next : Next). next.number ≡ one.cursor.number)
    → IfSome result (λ (next : Next). next.rest.told ≡ one.cursor.told + 1)
    → IfSome result (λ (next : Next). next.rest.number ≡ one.cursor.number)
    → IfSome result (λ (next : Next). IsNext events place next)
next-so events place one None there left first number told rest = tt
next-so events place one (Some next) there left first number told rest = record {
  one = one;
  is_there = there;
  number = sym number;
  first = sym first;
  left = left;
  rest_number = rest ∙ sym number;
  rest_told = told ∙ ap (λ n. n + 1) (sym first);
}

pub done-so : (events : Events) (place : ℕ) (one : Reached) (result : Option Next) → reached events place ≡ Some one
    → MatchOption result (one.cursor.left ≡ [])
    (λ (next : Next). one.cursor.left ≡ event_of next.entry next.values.now ∷ next.rest.left)
    → IfNone result (IsDone events place)
done-so events place one None there left = λ other other_there.
    let e : Some one ≡ Some other = sym there ∙ other_there in
    let same : one ≡ other = cc in
    subst (λ (r : Reached). r.cursor.left ≡ []) same left
done-so events place one (Some next) there left = tt

-- where no record is, nothing is left of it
pub done-nowhere : (events : Events) (place : ℕ) → reached events place ≡ None → IsDone events place
done-nowhere events place none = λ one there.
    let e : None ≡ Some one = sym none ∙ there in let no : ⊥ = cc in absurd no

-- ---- all is told

pub done-kept : (old new : Events) (place : ℕ) → reached new place ≡ reached old place → IsDone old place
    → IsDone new place
done-kept old new place same was = λ one there. was one (sym same ∙ there)

pub closed-more : (old new : Events) (place : ℕ) → ((k : ℕ) → k < place → IsDone old k)
    → ((k : ℕ) → (k ≡ place → ⊥) → reached new k ≡ reached old k) → IsDone new place
    → (k : ℕ) → k < place + 1 → IsDone new k
closed-more old new place before others here k lt = by (k == place) refl
  where
    by : (b : Bool) → (k == place) ≡ b → IsDone new k
    by true e = subst (IsDone new) (sym (eqb-true k place e)) here
    by false e =
        let no = eqb-false k place e in
        done-kept old new k (others k no) (before k (omega (arith, lt, no)))

pub all-closed : (records : List RecordValue) (old new : Events) (end : ℕ) → Keeps records old → Keeps records new
    → end ≡ length old.reached.items → ((place : ℕ) → place < end → IsDone new place) → IsAllTold new
all-closed records old new end was now is closed = λ place one there.
    let within = get-within new.reached.items place one there in
    let before = was.as_many in
    let after = now.as_many in
    closed place (omega (arith, within, before, after, is)) one there

-- ---- records close

pub closes-none : (old new : List Did) → new ≡ old → Closes old new
closes-none old new same = record { closings = []; all = same ∙ sym (append-nil old); only = tt }

pub closes-one : (old new : List Did) (number : ℕ) (e : event.Event) → is_closing e ≡ true
    → new ≡ old ++ did number e ∷ [] → Closes old new
closes-one old new number e closing all = record {
  closings = did number e ∷ [];
  all = all;
  only = (closing, tt);
}

pub closes-more : (old at new : List Did) → Closes old at → Closes at new → Closes old new
closes-more old at new first second = record {
  closings = first.closings ++ second.closings;
  all = second.all ∙ ap (λ l. l ++ second.closings) first.all ∙ append_assoc old first.closings second.closings;
  only = all-append IsClosing first.closings second.closings first.only second.only;
}

closing-begins : (e : event.Event) → is_closing e ≡ true → (begins e ≡ true) × (time_of e ≡ None)
closing-begins (event.Rest state) closing = (refl, refl)
closing-begins (event.Cut state) closing = (refl, refl)
closing-begins _ closing = let no : ⊥ = cc in absurd no

-- it sends nothing
pub closing-to_begun : (e : event.Event) (now : Ledger) → is_closing e ≡ true → IsToBegun e now
closing-to_begun (event.Rest state) now closing = tt
closing-to_begun (event.Cut state) now closing = tt
closing-to_begun _ now closing = let no : ⊥ = cc in absurd no

-- it takes nothing
pub closing-misses_none : (number : ℕ) (e : event.Event) (now : Ledger) → is_closing e ≡ true
    → IsMissing (taken_by number e) now → ⊥
closing-misses_none number (event.Rest state) now closing missing = missing
closing-misses_none number (event.Cut state) now closing missing = missing
closing-misses_none number _ now closing missing = let no : ⊥ = cc in absurd no

-- a record closes after all times
pub up_to-closed : (number : ℕ) (e : event.Event) (old new : List Did) → new ≡ old ++ did number e ∷ []
    → is_closing e ≡ true → IsUpTo None old → IsUpTo None new
up_to-closed number e old new is closing upto =
    let as_begun = closing-begins e closing in
    up_to-move None old new
    (ap times is ∙ times-append old (did number e ∷ [])
    ∙ ap (λ b. times old ++ (if b then time_of e ∷ [] else [])) as_begun.0
    ∙ ap (λ t. times old ++ t ∷ []) as_begun.1) upto
