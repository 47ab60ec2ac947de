-- The numbers of lists of receivers.
use Rattle.std.proofs.Common.{inl, inr, ◌≡◌, ◌⊎◌, ◌==◌, ◌<◌, ◌++◌, ◌+◌, ◌∷◌, [], ℕ, Bool, true, false, cond, List, Some, ap, arith, filter, length, map, refl, slice_get, subst, sym, ◌∙◌}
use Rattle.std.specs.Int.{bit_at}
use Rattle.std.proofs.lemmas.Bool.{cases_eq, eqb-false, eqb-true}
use Rattle.std.proofs.lemmas.List.{append-nil, map-append}
use Rattle.std.proofs.lemmas.List.Elements.{filter-append}
use Rattle.sdl_system.specs.declared.id.ProcessId.{ProcessId}
use Rattle.sdl_system.specs.declared.route.ReceiversId.{ReceiversId}
use Rattle.build_routes.specs.Arrivals.{ArrivesAt}
use Rattle.build_routes.specs.Entries.{AreKnown, AreNumbers, IsListed, Keeps, listed_at}
use Rattle.build_routes.specs.Mask.{Bit}
use Rattle.build_routes.specs.declared.arrivals.Arrivals.{Arrivals}
use Rattle.build_routes.specs.declared.known.Known.{Known}
use Rattle.build_routes.specs.declared.network.joined.End.TheVariants as at
use Rattle.build_routes.specs.declared.network.joined.Source.{Source}
use Rattle.build_routes.specs.declared.receiver.Receiver.{Receiver}
use Rattle.build_routes.proofs.ReceiverLemmas.{listed_with, listed_without}
use Rattle.build_routes.proofs.TableLemmas.{get_kept, get_last}

-- ---- one more receiver

receiver_by : (arrivals : Arrivals) (place : ℕ) (source : Source) (count : ℕ) (receivers : List Receiver) (one : Receiver) (b : Bool)
    → (bit_at one.signals place == 1) ≡ b → IsListed arrivals place source count (listed_at place receivers) → one.process.0 ≡ count
    → (Bit one.signals place → ArrivesAt arrivals place one.process ⊎ (source.end ≡ at.Process one.process))
    → (ArrivesAt arrivals place one.process → Bit one.signals place)
    → (new : List ProcessId) → new ≡ listed_at place receivers ++ map (λ receiver. receiver.process) (cond b (one ∷ []) [])
    → IsListed arrivals place source (count + 1) new
receiver_by arrivals place source count receivers one true e was last just made new is =
    listed_with arrivals place source count (listed_at place receivers) new one.process was last (just (eqb-true (bit_at one.signals place) 1 e)) is
receiver_by arrivals place source count receivers one false e was last just made new is =
    subst (λ x. IsListed arrivals place source (count + 1) x) (sym (is ∙ append-nil (listed_at place receivers)))
    (listed_without arrivals place source count (listed_at place receivers) one.process was last
    (λ reaches. eqb-false (bit_at one.signals place) 1 e (made reaches)))

listed_at-append : (place : ℕ) (xs ys : List Receiver) → listed_at place (xs ++ ys) ≡ listed_at place xs ++ listed_at place ys
listed_at-append place xs ys =
    let passes : Receiver → Bool = λ receiver. bit_at receiver.signals place == 1 in
    ap (map (λ receiver. receiver.process)) (filter-append passes xs ys)
    ∙ map-append (λ receiver. receiver.process) (filter passes xs) (filter passes ys)

pub receiver_more : (arrivals : Arrivals) (place : ℕ) (source : Source) (count : ℕ) (receivers new : List Receiver) (one : Receiver)
    → IsListed arrivals place source count (listed_at place receivers) → one.process.0 ≡ count
    → (Bit one.signals place → ArrivesAt arrivals place one.process ⊎ (source.end ≡ at.Process one.process))
    → (ArrivesAt arrivals place one.process → Bit one.signals place) → new ≡ receivers ++ one ∷ []
    → IsListed arrivals place source (count + 1) (listed_at place new)
receiver_more arrivals place source count receivers new one was last just made pushed =
    receiver_by arrivals place source count receivers one (bit_at one.signals place == 1) refl was last just made (listed_at place new)
    (ap (listed_at place) pushed ∙ listed_at-append place receivers (one ∷ []))

-- ---- numbers

pub numbers_kept : (a b : List (List ProcessId)) (receivers : List Receiver) (numbers : List ReceiversId) → Keeps a b → AreNumbers a receivers numbers
    → AreNumbers b receivers numbers
numbers_kept a b receivers numbers keeps are = λ place small. let h = are place small in (h.0, h.1, keeps h.0.0 (listed_at place receivers) h.2)

pub known_kept : (a b : List (List ProcessId)) (known : List Known) → Keeps a b → AreKnown a known → AreKnown b known
known_kept a b known keeps are = λ n one is. numbers_kept a b one.receivers.items one.numbers.items keeps (are n one is)

pub known_more : (a b : List (List ProcessId)) (known new : List Known) (now : Known) → Keeps a b → AreKnown a known
    → ((n : ℕ) (one : Known) → slice_get new n ≡ Some one → (slice_get known n ≡ Some one) ⊎ (one ≡ now))
    → AreNumbers b now.receivers.items now.numbers.items → AreKnown b new
known_more a b known new now keeps are just is = λ n one stands. elim (just n one stands) [
  | inl was ↦ numbers_kept a b one.receivers.items one.numbers.items keeps (are n one was)
  | inr same ↦ subst (λ x. AreNumbers b x.receivers.items x.numbers.items) (sym same) is
]

pub numbers_same : (lists : List (List ProcessId)) (receivers : List Receiver) (old new : List ReceiversId) → new ≡ old → AreNumbers lists receivers old
    → AreNumbers lists receivers new
numbers_same lists receivers old new same are = subst (λ x. AreNumbers lists receivers x) (sym same) are

pub numbers_of-same : (lists : List (List ProcessId)) (a b : List Receiver) (numbers : List ReceiversId) → a ≡ b → AreNumbers lists a numbers
    → AreNumbers lists b numbers
numbers_of-same lists a b numbers same are = subst (λ x. AreNumbers lists x numbers) same are

pub numbers_more : (a b : List (List ProcessId)) (receivers : List Receiver) (numbers new : List ReceiversId) (count : ℕ) (number : ReceiversId) (list : List ProcessId)
    → Keeps a b → length numbers ≡ count
    → ((place : ℕ) → place < count → (n : ReceiversId) × (slice_get numbers place ≡ Some n) × (slice_get a n.0 ≡ Some (listed_at place receivers)))
    → slice_get b number.0 ≡ Some list → list ≡ listed_at count receivers → new ≡ numbers ++ number ∷ []
    → (place : ℕ) → place < count + 1 → (n : ReceiversId) × (slice_get new place ≡ Some n) × (slice_get b n.0 ≡ Some (listed_at place receivers))
numbers_more a b receivers numbers new count number list keeps size are stands is pushed place below = elim (cases_eq place count) [
  | inl same ↦ (
    number,
    ap (λ xs. slice_get xs place) pushed ∙ ap (λ k. slice_get (numbers ++ number ∷ []) k) (same ∙ sym size) ∙ get_last numbers number,
    stands ∙ ap (λ x. Some x) is ∙ ap (λ k. Some (listed_at k receivers)) (sym same),
  )
  | inr other ↦
      let h = are place (omega (arith, below, other)) in (
        h.0,
        ap (λ xs. slice_get xs place) pushed ∙ get_kept numbers number place h.0 h.1,
        keeps h.0.0 (listed_at place receivers) h.2,
      )
]
