-- What a caller reads of a replay, and what it is told of the environment.
use Rattle.std.proofs.Common.{◌≡◌, ◌⊎◌, ◌∙◌, ◌+◌, ◌<◌, ◌≤◌, ◌==◌, ◌++◌, Bool, true, false, ℕ, zero, suc, List, [], ◌∷◌, MatchOption, Option, None, Some, ap, arith, drop, inl, inr, is_some, length, option_to_list, refl, slice_get, subst, sym}
use Rattle.std.specs.Borrow.{Bor}
use Rattle.std.specs.Prelude.{◌↔◌, Contains, IfNone, IfSome}
use Rattle.std.proofs.lemmas.Bool.Decides.{Decides-eqb}
use Rattle.std.specs.List.{HoldsAt}
use Rattle.port_model.specs.declared.inbox.entry.Fuse.{Fuse}
use Rattle.run_order.proofs.Happenings.{at_number, nobody_at, wrong_way}
use Rattle.run_order.proofs.Keeping.{same_there}
use Rattle.run_order.proofs.Meanings.{there_is}
use Rattle.run_order.specs.Kept.{AreKept, AreStillBehind, AreStillBetween, IsFirstFuseOf, IsLooked, IsStill, IsThere, NothingStands, SaysHeard, StandsNext}
use Rattle.run_order.specs.OrderState.{OrderState, living_of, member_at}
use Rattle.run_order.specs.declared.hearing.Heard.TheVariants as heard
use Rattle.run_order.specs.declared.member.Member.{Member}
use Rattle.run_order.specs.declared.pending.Pending.{Pending}
use Rattle.sdl_script.specs.declared.script.ScriptLine.{ScriptLine}
use Rattle.sdl_script.specs.declared.script.ScriptSignal.{ScriptSignal}
use Rattle.sdl_system.specs.Route.{target_in}
use Rattle.sdl_system.specs.declared.route.Source.TheVariants as source
use Rattle.sdl_system.specs.declared.route.Target.{Target}

-- ---- the instance of a number

pub there_by : (r : Bool) (o : Option ℕ) (g : OrderState) (number : ℕ) → r ≡ is_some o
    → IfSome o (λ place. (place + 1 ≡ number) × (place < length g.members))
    → IfNone o ((number ≡ 0) ⊎ (length g.members < number)) → ((r ≡ true) ↔ IsThere g number)
there_by r None g number is some out = (
  λ yes. absurd (wrong_way (sym is ∙ yes)),
  λ there. absurd (nobody_at g.members number there.m out there.is_there),
)
there_by r (Some place) g number is some out = (
  λ yes.
      let found = there_is g.members place some.1 in
      record { m = found.0; is_there = at_number g.members number place some.0 ∙ found.1 },
  λ there. is,
)

pub nothing_stands : (g : OrderState) (number : ℕ) → (number ≡ 0) ⊎ (length g.members < number)
    → NothingStands g number
nothing_stands g number out = λ m there. absurd (nobody_at g.members number m out there)

pub stands_by : (g : OrderState) (number place : ℕ) (m : Member) (r : Option (Bor Pending)) → place + 1 ≡ number
    → slice_get g.members place ≡ Some m
    → MatchOption r (m.pending ≡ []) (λ first. (later : List Pending) × (m.pending ≡ first.now ∷ later))
    → MatchOption r (NothingStands g number) (λ what. StandsNext g number what.now)
stands_by g number place m None is there none = λ one at.
    ap (λ (m : Member). m.pending)
    (same_there g.members place one m (sym (at_number g.members number place is) ∙ at) there) ∙ none
stands_by g number place m (Some first) is there next = record {
  m = m;
  later = next.0;
  is_there = at_number g.members number place is ∙ there;
  next = next.1;
}

pub looked_by : (g : OrderState) (number place : ℕ) (m : Member) → place + 1 ≡ number
    → slice_get g.members place ≡ Some m → ((m.looked ≡ true) ↔ IsLooked g number)
looked_by g number place m is there = (
  λ yes. record { m = m; is_there = at_number g.members number place is ∙ there; looked = yes },
  λ at. ap (λ (m : Member). m.looked)
      (same_there g.members place m at.m there (sym (at_number g.members number place is) ∙ at.is_there)) ∙ at.looked,
)

pub not_looked : (g : OrderState) (number : ℕ) → (number ≡ 0) ⊎ (length g.members < number)
    → ((false ≡ true) ↔ IsLooked g number)
not_looked g number out = (
  λ wrong. absurd (wrong_way wrong),
  λ at. absurd (nobody_at g.members number at.m out at.is_there),
)

-- ---- what stands in a list

pub none_of : {X : Type 0} (xs : List X) → length xs ≡ 0 → xs ≡ []
none_of [] none = refl
none_of (x ∷ xs) none = absurd (omega (arith, none))

pub empty_by : {X : Type 0} (r : Bool) (count : ℕ) (xs : List X) → r ≡ (count == 0) → count ≡ length xs
    → ((r ≡ true) ↔ (xs ≡ []))
empty_by {X = X} r count xs is counted = (
  λ yes.
      let none : count ≡ 0 = (Decides-eqb count 0).0 (sym is ∙ yes) in
      none_of xs (sym counted ∙ none),
  λ none. is ∙ (Decides-eqb count 0).1 (counted ∙ ap (λ (all : List X). length all) none),
)

pub first_by : {X : Type 0} (xs : List X) (r : Option (Bor X))
    → MatchOption r (length xs ≤ 0) (λ x. (0 < length xs) × HoldsAt (λ y. x.now ≡ y) xs 0)
    → MatchOption r (xs ≡ []) (λ x. (later : List X) × (xs ≡ x.now ∷ later))
first_by [] None item = refl
first_by (x ∷ xs) None item = absurd (omega (arith, item))
first_by [] (Some r) item = absurd (omega (arith, item.0))
first_by (x ∷ xs) (Some r) item = (xs, ap (λ y. y ∷ xs) (sym (item.1 x)))

pub popped_by : {X : Type 0} (old new : List X) (r : Option X) → old ≡ option_to_list r ++ new
    → new ≡ drop 1 old → MatchOption r (old ≡ []) (λ x. old ≡ x ∷ new)
popped_by {X = X} old new (Some x) is rest = is
popped_by {X = X} [] new None is rest = refl
popped_by {X = X} (x ∷ old) new None is rest =
    let shorter : x ∷ old ≡ old = is ∙ rest in
    absurd (omega (arith, ap (λ (all : List X). length all) shorter))

-- ---- who is still

still_noted : (ready : List ℕ) (g : OrderState) (number : ℕ) (m : Member) → AreKept ready g.system g.members
    → member_at g.members number ≡ Some m → (Contains ready number → ⊥) → IsStill m
still_noted ready g zero m kept there never = let no : ⊥ = cc in absurd no
still_noted ready g (suc place) m kept there never =
    let next : place + 1 ≡ suc place = omega arith in
    elim (kept.others place m there) [
      | inl noted ↦ absurd (never (subst (Contains ready) next noted))
      | inr still ↦ still
    ]

pub still_between : (ready : List ℕ) (g : OrderState) (behind : ℕ) (r : Option ℕ) → AreKept ready g.system g.members
    → IfSome r (λ next. (n : ℕ) → Contains ready n → behind < n → next ≤ n) → IfSome r (AreStillBetween g behind)
still_between ready g behind None kept least = tt
still_between ready g behind (Some next) kept least = λ number m after before there.
    still_noted ready g number m kept there (λ noted.
    let low = least number noted after in
    let no : ⊥ = omega (arith, low, before) in
    no)

pub still_behind : (ready : List ℕ) (g : OrderState) (behind : ℕ) (r : Option ℕ) → AreKept ready g.system g.members
    → IfNone r ((n : ℕ) → Contains ready n → n ≤ behind) → IfNone r (AreStillBehind g behind)
still_behind ready g behind None kept none = λ number m after there.
    still_noted ready g number m kept there (λ noted.
    let low = none number noted in
    let no : ⊥ = omega (arith, low, after) in
    no)
still_behind ready g behind (Some next) kept none = tt

-- ---- what the environment did

pub first_fuse_of : (fuses later : List Fuse) (fuse : Fuse) (number : ℕ) → fuses ≡ fuse ∷ later → number ≡ fuse.pid
    → IsFirstFuseOf fuses number
first_fuse_of fuses later fuse number is pid = subst (λ (all : List Fuse). IsFirstFuseOf all number) (sym is) pid

pub says_time : (g : OrderState) (lines later : List ScriptLine) (line : ScriptLine) → lines ≡ line ∷ later
    → line.signal ≡ None → SaysHeard g lines heard.Time
says_time g lines later line is none = subst (λ (all : List ScriptLine). SaysHeard g all heard.Time) (sym is) none

pub says_signal : (g : OrderState) (lines later : List ScriptLine) (line : ScriptLine) (signal : ScriptSignal)
    (target : Target) → lines ≡ line ∷ later → line.signal ≡ Some signal
    → target ≡ target_in g.system.routes signal.item.name source.Env signal.to (living_of g).least
    → SaysHeard g lines (heard.Signal target)
says_signal g lines later line signal target is has goes =
    subst (λ (all : List ScriptLine). SaysHeard g all (heard.Signal target)) (sym is)
    (record { signal = signal; has = has; goes = goes })
