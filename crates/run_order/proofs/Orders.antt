-- The run that a replay is in, and who is noted in it.
use Rattle.std.proofs.Common.{◌≡◌, ◌⊎◌, ◌<◌, ◌≤◌, ℕ, List, [], ◌∷◌, Option, None, Some, ap, arith, inl, inr, slice_get}
use Rattle.std.specs.Prelude.{◌↔◌, ◌≢◌, Contains, IfSome}
use Rattle.run_order.specs.Kept.{AreKept}
use Rattle.run_order.specs.Noted.{IsFirstBehind, IsNobody, ReplayState}
use Rattle.run_order.specs.declared.member.Member.{Member}
use Rattle.sdl_system.specs.System.{SystemValue}

pub order_is : {s t : ReplayState} → s ≡ t → s.order ≡ t.order
order_is same = ap (λ (s : ReplayState). s.order) same

pub noted_is : {s t : ReplayState} → s ≡ t → s.noted ≡ t.noted
noted_is same = ap (λ (s : ReplayState). s.noted) same

-- ---- who is noted

pub nobody_noted : (ready : List ℕ) (system : SystemValue) (members : List Member) → AreKept ready system members
    → ((n : ℕ) → Contains ready n → n ≤ 0) → IsNobody ready
nobody_noted ready system members kept none = λ number is.
    let above = kept.positive number is in
    let low = none number is in
    let no : ⊥ = omega (arith, above, low) in
    no

pub first_behind : (ready : List ℕ) (behind : ℕ) (r : Option ℕ)
    → IfSome r (λ next. Contains ready next × (behind < next))
    → IfSome r (λ next. (n : ℕ) → Contains ready n → behind < n → next ≤ n) → IfSome r (IsFirstBehind ready behind)
first_behind ready behind None next least = tt
first_behind ready behind (Some one) next least =
    record { is_noted = next.0; behind_it = next.1; least = least }

-- one that was noted for its step, and is noted no more
pub off_again : (ready after fewer : List ℕ) (number : ℕ)
    → ((n : ℕ) → Contains after n ↔ ((n ≡ number) ⊎ Contains ready n))
    → ((n : ℕ) → Contains fewer n ↔ (Contains after n × (n ≢ number)))
    → (n : ℕ) → Contains fewer n ↔ (Contains ready n × (n ≢ number))
off_again ready after fewer number waked off n = (
  λ is.
      let still = (off n).0 is in (
        elim ((waked n).0 still.0) [
          | inl same ↦ absurd (still.1 same)
          | inr was ↦ was
        ],
        still.1,
      ),
  λ was. (off n).1 ((waked n).1 (inr was.0), was.1),
)

-- ---- a first line

pub some_first : {X : Type 0} (xs : List X) (x : X) → slice_get xs 0 ≡ Some x → xs ≢ []
some_first [] x first = λ none. let no : ⊥ = cc in absurd no
some_first (one ∷ rest) x first = λ none. let no : ⊥ = cc in absurd no
