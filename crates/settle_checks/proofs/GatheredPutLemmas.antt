-- What a count tells: of each place just what it has put was drawn.
use Rattle.std.proofs.Common.{◌≡◌, ◌≢◌, ◌∙◌, ◌⊎◌, ◌<◌, ◌≤◌, ◌+◌, ap, arith, inl, inr, length, nat_lt, refl, subst, sym, ⊎_elim, ℕ, Bool, true, false, cond, List, [], ◌∷◌, All, count_by}
use Rattle.std.proofs.lemmas.Bool.{cases_eq}
use Rattle.std.proofs.lemmas.List.Elements.{All-cons, All-head, All-nil, All-tail, All-weaker}
use Rattle.input_port.proofs.Counting.{counts_tell}
use Rattle.input_port.specs.Counts as counts
use Rattle.input_port.specs.Counts.{AllIsDrawn, Flow, FlowsInto, IsOfOne, sent_by, signals_in}
use Rattle.port_model.specs.Ends.{is_signal}
use Rattle.port_model.specs.Put.{Apart}
use Rattle.port_model.specs.declared.inbox.placed.Gone.{Gone}
use Rattle.port_model.specs.declared.inbox.placed.Placed.{Placed}
use Rattle.port_model.specs.Same.{same_pid, same_pid-Decides}
use Rattle.port_model.specs.declared.values.item.Item.{Item}
use Rattle.port_model.specs.declared.values.pid.Pid.{Pid}
use Rattle.settle_checks.specs.Gathering.{AllIsPut, AreHeld, AreOwn, Given, IsOfPlace, numbers_given, numbers_of, put_by_all}

-- ---- numbers that differ

-- no number stands twice
abbrev AreDistinct : List ℕ → Type 0
AreDistinct [] = Unit {0}
AreDistinct (n ∷ ns) = All (λ other. other ≢ n) ns × AreDistinct ns

others_of : (number : ℕ) (gone : List Gone) → All (λ (other : Gone). other.number ≢ number) gone
    → All (λ other. other ≢ number) (numbers_of gone)
others_of number [] all = All-nil (λ other. other ≢ number)
others_of number (g ∷ gs) all =
    All-cons (λ other. other ≢ number) g.number (numbers_of gs)
    (All-head (λ (other : Gone). other.number ≢ number) g gs all)
    (others_of number gs (All-tail (λ (other : Gone). other.number ≢ number) g gs all))

distinct_of : (gone : List Gone) → Apart gone → AreDistinct (numbers_of gone)
distinct_of [] apart = tt
distinct_of (g ∷ gs) apart = (others_of g.number gs apart.0, distinct_of gs apart.1)

-- ---- the places of senders

-- a sender of this place is among them
abbrev Among : ℕ → List Given → Type 0
Among place [] = ⊥
Among place (given ∷ before) = (given.place ≡ place) ⊎ Among place before

-- all of them are of places before this
before_all : (put : ℕ → List Item) (known : List Placed) (next : ℕ) (given : List Given) → AreHeld put known next given
    → All (λ (g : Given). g.place < next) given
before_all put known next [] held = All-nil (λ (g : Given). g.place < next)
before_all put known next (given ∷ before) held =
    All-cons (λ (g : Given). g.place < next) given before held.0
    (All-weaker (λ (g : Given). g.place < given.place) (λ (g : Given). g.place < next)
    (λ g less. omega (arith, less, held.0)) before (before_all put known given.place before held.3))

not_among : (place : ℕ) (given : List Given) → All (λ (g : Given). g.place < place) given → Among place given → ⊥
not_among place [] all among = among
not_among place (given ∷ before) all among =
    ⊎_elim
    (λ (same : given.place ≡ place).
    let less = All-head (λ (g : Given). g.place < place) given before all in
    let wrong : ⊥ = omega (arith, same, less) in wrong)
    (λ (more : Among place before).
    not_among place before (All-tail (λ (g : Given). g.place < place) given before all) more)
    among

-- a place has a sender among them, or has put nothing
among_or : (put : ℕ → List Item) (known : List Placed) (next : ℕ) (given : List Given) → AreHeld put known next given
    → (place : ℕ) → place < next → Among place given ⊎ ((Among place given → ⊥) × (put place ≡ []))
among_or put known next [] held place within = inr (λ among. among, held place within)
among_or put known next (given ∷ before) held place within =
    ⊎_elim (λ (same : given.place ≡ place). inl (inl same))
    (λ (apart : given.place ≡ place → ⊥).
    ⊎_elim
    (λ (less : place < given.place).
    ⊎_elim (λ (more : Among place before). inl (inr more))
    (λ (none : (Among place before → ⊥) × (put place ≡ [])).
    inr (λ among. ⊎_elim (λ same. apart same) (λ more. none.0 more) among, none.1))
    (among_or put known given.place before held.3 place less))
    (λ (past : given.place < place).
    inr (
      λ among. ⊎_elim (λ same. apart same)
          (λ more. not_among place before
          (All-weaker (λ (g : Given). g.place < given.place) (λ (g : Given). g.place < place)
          (λ g less. omega (arith, less, past)) before (before_all put known given.place before held.3)) more) among,
      held.1 place past within,
    ))
    (less_or place given.place apart))
    (cases_eq given.place place) where
      less_or : (a b : ℕ) → (b ≡ a → ⊥) → (a < b) ⊎ (b < a)
      less_or a b apart = by_test (nat_lt a b) refl where
        by_test : (t : Bool) → nat_lt a b ≡ t → (a < b) ⊎ (b < a)
        by_test true less = inl (grind (arith, less))
        by_test false more = inr (grind (arith, more, apart))

-- ---- senders as flows

module _ (origin : ℕ → Pid) (put : ℕ → List Item) (places : ℕ) (own : AreOwn origin put places) where
  abbrev flow_of : Given → Flow
  flow_of given = record { origin = origin given.place; number = given.number; put = put given.place }

  abbrev flows_of : List Given → List Flow
  flows_of [] = []
  flows_of (given ∷ before) = flow_of given ∷ flows_of before

  put_by_flows : (given : List Given) → counts.put_by_all (flows_of given) ≡ put_by_all put given
  put_by_flows [] = refl
  put_by_flows (given ∷ before) = ap (λ n. length (put given.place) + n) (put_by_flows before)

  module _ (drawn : List Placed) where
    flows_into : (next : ℕ) (given : List Given) → next ≤ places → AreHeld put drawn next given
        → All (FlowsInto drawn) (flows_of given)
    flows_into next [] within held = All-nil (FlowsInto drawn)
    flows_into next (given ∷ before) within held =
        All-cons (FlowsInto drawn) (flow_of given) (flows_of before)
        (record {
          own = own.own given.place (omega (arith, within, held.0));
          more = held.2.more;
          first = held.2.first;
        })
        (flows_into given.place before (omega (arith, within, held.0)) held.3)

    other_flows : (given : Given) (before : List Given) → given.place < places
        → All (λ (g : Given). g.place < given.place) before → All (λ other. other ≢ given.number) (numbers_given before)
        → All (λ (other : Flow). (other.number ≢ given.number) × (other.origin ≢ origin given.place)) (flows_of before)
    other_flows given [] within less numbers =
        All-nil (λ (other : Flow). (other.number ≢ given.number) × (other.origin ≢ origin given.place))
    other_flows given (one ∷ more) within less numbers =
        let here = All-head (λ (g : Given). g.place < given.place) one more less in
        All-cons (λ (other : Flow). (other.number ≢ given.number) × (other.origin ≢ origin given.place)) (flow_of one)
        (flows_of more) (
          All-head (λ other. other ≢ given.number) one.number (numbers_given more) numbers,
          λ same.
              let is : one.place ≡ given.place = own.apart one.place given.place (omega (arith, within, here)) within same in
              let wrong : ⊥ = omega (arith, is, here) in wrong,
        )
        (other_flows given more within (All-tail (λ (g : Given). g.place < given.place) one more less)
        (All-tail (λ other. other ≢ given.number) one.number (numbers_given more) numbers))

    flows_apart : (next : ℕ) (given : List Given) → next ≤ places → AreHeld put drawn next given
        → AreDistinct (numbers_given given) → counts.AreApart (flows_of given)
    flows_apart next [] within held distinct = tt
    flows_apart next (given ∷ before) within held distinct = (
      other_flows given before (omega (arith, within, held.0)) (before_all put drawn given.place before held.3) distinct.0,
      flows_apart given.place before (omega (arith, within, held.0)) held.3 distinct.1,
    )

  -- a signal of one of them is of its place
  of_place : (given : List Given) → All (λ (g : Given). g.place < places) given → (item : Item)
      → IsOfOne (flows_of given) item → IsOfPlace origin places item
  of_place [] all item of_one = absurd of_one
  of_place (given ∷ before) all item of_one =
      ⊎_elim
      (λ (is : item.sender ≡ origin given.place).
      record { place = given.place; within = All-head (λ (g : Given). g.place < places) given before all; sender = is })
      (λ (more : IsOfOne (flows_of before) item).
      of_place before (All-tail (λ (g : Given). g.place < places) given before all) item more)
      of_one

  module _ (signals : List Item) where
    each_of : (place : ℕ) (given : List Given) → Among place given
        → All (λ (flow : Flow). sent_by flow.origin signals ≡ flow.put) (flows_of given)
        → sent_by (origin place) signals ≡ put place
    each_of place [] among each = absurd among
    each_of place (given ∷ before) among each =
        ⊎_elim
        (λ (same : given.place ≡ place).
        subst (λ p. sent_by (origin p) signals ≡ put p) same
        (All-head (λ (flow : Flow). sent_by flow.origin signals ≡ flow.put) (flow_of given) (flows_of before) each))
        (λ (more : Among place before).
        each_of place before more
        (All-tail (λ (flow : Flow). sent_by flow.origin signals ≡ flow.put) (flow_of given) (flows_of before) each))
        among

  of_another : (place : ℕ) → place < places → (given : List Given) → All (λ (g : Given). g.place < places) given
      → (Among place given → ⊥) → (item : Item) → IsOfOne (flows_of given) item → item.sender ≢ origin place
  of_another place within [] all none item of_one = absurd of_one
  of_another place within (given ∷ before) all none item of_one = λ e.
      ⊎_elim
      (λ (is : item.sender ≡ origin given.place).
      none (inl (own.apart given.place place (All-head (λ (g : Given). g.place < places) given before all) within
      (sym is ∙ e))))
      (λ (more : IsOfOne (flows_of before) item).
      of_another place within before (All-tail (λ (g : Given). g.place < places) given before all)
      (λ among. none (inr among)) item more e)
      of_one

not_same : (a o : Pid) (b : Bool) → same_pid a o ≡ b → a ≢ o → b ≡ false
not_same a o true is other = absurd (other ((same_pid-Decides a o).0 is))
not_same a o false is other = refl

sent_by-none : (from : Pid) (xs : List Item) → All (λ item. item.sender ≢ from) xs → sent_by from xs ≡ []
sent_by-none from [] all = refl
sent_by-none from (x ∷ xs) all =
    let here = All-head (λ (item : Item). item.sender ≢ from) x xs all in
    ap (λ b. cond b (x ∷ sent_by from xs) (sent_by from xs))
    (not_same x.sender from (same_pid x.sender from) refl here)
    ∙ sent_by-none from xs (All-tail (λ (item : Item). item.sender ≢ from) x xs all)

-- ---- all of all

pub all_is_put : AllIsPut
all_is_put put places first owner origin counted own = record { each = each; no_other = no_other } where
  given : List Given
  given = counted.given

  within : All (λ (g : Given). g.place < places) counted.given
  within = before_all put owner.drawn places counted.given counted.held

  drawn : AllIsDrawn owner.drawn (flows_of origin put places own counted.given)
  drawn =
      counts_tell owner.drawn (flows_of origin put places own counted.given)
      (flows_into origin put places own owner.drawn places counted.given (omega arith) counted.held)
      (flows_apart origin put places own owner.drawn places counted.given (omega arith) counted.held
      (subst AreDistinct counted.gathered (distinct_of owner.gathered counted.apart)))
      (subst (λ n. count_by is_signal owner.drawn ≤ n) (sym (put_by_flows origin put places own counted.given))
      (omega (arith, counted.as_many)))

  each : (place : ℕ) → place < places → sent_by (origin place) (signals_in owner.drawn) ≡ put place
  each place less =
      ⊎_elim
      (λ (among : Among place counted.given).
      each_of origin put places own (signals_in owner.drawn) place counted.given among drawn.each)
      (λ (none : (Among place counted.given → ⊥) × (put place ≡ [])).
      sent_by-none (origin place) (signals_in owner.drawn)
      (All-weaker (IsOfOne (flows_of origin put places own counted.given)) (λ item. item.sender ≢ origin place)
      (of_another origin put places own place less counted.given within none.0) (signals_in owner.drawn) drawn.no_other)
      ∙ sym none.1)
      (among_or put owner.drawn places counted.given counted.held place less)

  no_other : All (IsOfPlace origin places) (signals_in owner.drawn)
  no_other =
      All-weaker (IsOfOne (flows_of origin put places own counted.given)) (IsOfPlace origin places)
      (of_place origin put places own counted.given within) (signals_in owner.drawn) drawn.no_other
