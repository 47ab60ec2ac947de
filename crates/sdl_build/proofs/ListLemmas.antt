-- The signals that lists stand for, list by list.
use Rattle.std.proofs.Common.{◌≡◌, ◌∙◌, ◌⊎◌, ◌<◌, ◌↔◌, ◌+◌, ◌++◌, ◌==◌, ℕ, Bool, true, false, Contains, List, [], ◌∷◌, Some, ap, arith, inl, inr, length, map, refl, slice_get, subst, sym}
use Rattle.std.proofs.lemmas.Bool.{eqb-true, eqb-false}
use Rattle.std.proofs.lemmas.List.{length-append}
use Rattle.std.proofs.lemmas.List.Elements.{Contains-append_left, Contains-push, Contains-push_cases}
use Rattle.std.specs.Global.{Vec}
use Rattle.port_model.specs.declared.values.item.SignalId.{SignalId}
use Rattle.build_states.specs.Context.{items_of, listed_members}
use Rattle.sdl_build.specs.Lists.{AreMembers, AreSignalsOf}
use Rattle.build_routes.specs.declared.network.joined.Network.{Network}
use Rattle.build_routes.proofs.TableLemmas.{get_push}

abbrev the_signal : ℕ → SignalId
the_signal number = record { 0 = number }

-- just those of the first so many signals of which P holds
abbrev pub AreBelow : (SignalId → Type 0) → ℕ → List SignalId → Type 0
AreBelow P count signals = (signal : SignalId) → Contains signals signal ↔ ((signal.0 < count) × P signal)

one-more : (count : ℕ) (signal : SignalId) → signal.0 < count + 1 → (signal.0 < count) ⊎ (signal ≡ the_signal count)
one-more count signal below = by (signal.0 == count) refl
  where
    by : (same : Bool) → (signal.0 == count) ≡ same → (signal.0 < count) ⊎ (signal ≡ the_signal count)
    by true is = inr (ap the_signal (eqb-true signal.0 count is))
    by false is = inl (omega (arith, below, eqb-false signal.0 count is))

pub with-signal : (P : SignalId → Type 0) (count : ℕ) (signals new : List SignalId) → AreBelow P count signals →
    new ≡ signals ++ the_signal count ∷ [] → P (the_signal count) → AreBelow P (count + 1) new
with-signal P count signals new known is holds signal = (
  λ has. elim (Contains-push_cases signals (the_signal count) signal (subst (λ list. Contains list signal) is has)) [
    | inl old ↦ (omega (arith, ((known signal).0 old).0), ((known signal).0 old).1)
    | inr same ↦ subst (λ s. (s.0 < count + 1) × P s) same (omega arith, holds)
  ],
  λ both. subst (λ list. Contains list signal) (sym is) (elim (one-more count signal both.0) [
    | inl less ↦ Contains-append_left signals (the_signal count ∷ []) signal ((known signal).1 (less, both.1))
    | inr same ↦ subst (Contains (signals ++ the_signal count ∷ [])) (sym same)
        (Contains-push signals (the_signal count))
  ]),
)

pub without-signal : (P : SignalId → Type 0) (count : ℕ) (signals : List SignalId) → AreBelow P count signals →
    (P (the_signal count) → ⊥) → AreBelow P (count + 1) signals
without-signal P count signals known fails signal = (
  λ has. (omega (arith, ((known signal).0 has).0), ((known signal).0 has).1),
  λ both. elim (one-more count signal both.0) [
    | inl less ↦ (known signal).1 (less, both.1)
    | inr same ↦ absurd (fails (subst P same both.1))
  ],
)

-- ---- all lists

map-more : {A B : Type 0} (f : A → B) (xs : List A) (x : A) → map f (xs ++ x ∷ []) ≡ map f xs ++ f x ∷ []
map-more f [] x = refl
map-more f (y ∷ ys) x = ap (λ rest. f y ∷ rest) (map-more f ys x)

pub length-more : {A : Type 0} (xs : List A) (x : A) → length (xs ++ x ∷ []) ≡ length xs + 1
length-more xs x = let long = length-append xs (x ∷ []) in omega arith

pub members-more : (network : Network) (count : ℕ) (members new : List (Vec SignalId)) (own : Vec SignalId) →
    AreMembers network count (listed_members members) → new ≡ members ++ own ∷ [] →
    AreSignalsOf network (record { 0 = count }) own.items → AreMembers network (count + 1) (listed_members new)
members-more network count members new own known is signals =
    let listed : listed_members new ≡ listed_members members ++ own.items ∷ [] =
    ap listed_members is ∙ map-more items_of members own in
    record {
      size = ap length listed ∙ length-more (listed_members members) own.items ∙ ap (λ n. n + 1) known.size;
      each = λ list found stands. elim (get_push (listed_members members) own.items list.0 found
          (subst (λ all. slice_get all list.0 ≡ Some found) listed stands)) [
            | inl old ↦ known.each list found old
            | inr last ↦ subst (AreSignalsOf network list) last.1
                (subst (λ n. AreSignalsOf network (record { 0 = n }) own.items) (sym (last.0 ∙ known.size)) signals)
          ];
    }
