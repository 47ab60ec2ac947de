-- Lists of receivers.
use Rattle.std.proofs.Common.{◌≡◌, ◌||◌, ◌⊎◌, ◌↔◌, ◌<◌, ◌+◌, ◌%◌, ◌/◌, ◌==◌, not, ℕ, Bool, true, false, cond, List, [], ◌∷◌, ◌++◌, Contains, Some, ap, append-nil, arith, filter, get_or, inl, inr, length, map, refl, slice_get, subst, sym, take, ◌∙◌}
use Rattle.std.proofs.lemmas.Bool.{cases_eq, eq-eqb, false≢true, ne_eqb}
use Rattle.std.proofs.lemmas.Option.{same_Some}
use Rattle.std.proofs.lemmas.List.{map-append}
use Rattle.std.proofs.lemmas.List.Elements.{Contains-append_cases, Contains-append_left, Contains-append_right, Contains-push, Contains-push_cases, filter_more}
use Rattle.std.specs.Int.{bit_at}
use Rattle.port_model.specs.declared.values.item.SignalId.{SignalId}
use Rattle.sdl_system.specs.Route.{is_receiver}
use Rattle.sdl_system.specs.declared.id.ProcessId.{ProcessId}
use Rattle.sdl_system.specs.declared.route.Reach.{Reach}
use Rattle.sdl_system.specs.declared.route.Source.TheVariants as from
use Rattle.build_routes.specs.Arrivals.{ArrivesAt, ReachesEnv, ReachesProcess}
use Rattle.build_routes.specs.Entries.{IsEntry, IsListed, WordTells, listed_at, sender_at}
use Rattle.build_routes.specs.Paths.{Path}
use Rattle.build_routes.specs.Table.{IsAscending}
use Rattle.build_routes.specs.declared.arrivals.Arrivals.{Arrivals}
use Rattle.build_routes.specs.declared.network.joined.End as end
use Rattle.build_routes.specs.declared.network.joined.End.TheVariants as at
use Rattle.build_routes.specs.declared.network.joined.Network.{Network}
use Rattle.build_routes.specs.declared.network.joined.Source.{Source}
use Rattle.build_routes.specs.declared.receiver.Receiver.{Receiver}
use Rattle.build_routes.specs.declared.word.Word.{Word}
use Rattle.build_routes.specs.Mask.{Bit}

pub same_process : (p q : ProcessId) → p.0 ≡ q.0 → p ≡ q
same_process p q same = let f : ℕ → ProcessId = λ n. record { 0 = n } in ap f same

-- ---- what a list has

contains_one : {X : Type 0} (x y : X) → Contains (x ∷ []) y → x ≡ y
contains_one {X} x y has =
    let first : has.0 ≡ 0 = omega (arith, has.1) in
    let f : ℕ → X = λ k. get_or (x ∷ []) k y in ap f (sym first) ∙ has.2

pub contains_cases : {X : Type 0} (x : X) (xs : List X) (y : X) → Contains (x ∷ xs) y → (x ≡ y) ⊎ Contains xs y
contains_cases x xs y has = elim (Contains-append_cases (x ∷ []) xs y has) [ inl here ↦ inl (contains_one x y here) | inr later ↦ inr later ]

pub contains_here : {X : Type 0} (x : X) (xs : List X) → Contains (x ∷ xs) x
contains_here x xs = (0, omega arith, refl)

pub contains_later : {X : Type 0} (x : X) (xs : List X) (y : X) → Contains xs y → Contains (x ∷ xs) y
contains_later x xs y has = Contains-append_right (x ∷ []) xs y has

pub contains_none : {X : Type 0} (x : X) → Contains [] x → ⊥
contains_none x has = omega (arith, has.1)

filter_from_more : {X : Type 0} (test : X → Bool) (y : X) (ys : List X) (x : X) (b : Bool) → test y ≡ b
    → (Contains (filter test ys) x → Contains ys x × (test x ≡ true))
    → Contains (cond b (y ∷ filter test ys) (filter test ys)) x → Contains (y ∷ ys) x × (test x ≡ true)
filter_from_more test y ys x true passes rest has = elim (contains_cases y (filter test ys) x has) [
  | inl same ↦ (subst (λ z. Contains (y ∷ ys) z) same (contains_here y ys), subst (λ z. test z ≡ true) same passes)
  | inr later ↦ (contains_later y ys x (rest later).0, (rest later).1)
]
filter_from_more test y ys x false fails rest has = (contains_later y ys x (rest has).0, (rest has).1)

pub filter_from : {X : Type 0} (test : X → Bool) (xs : List X) (x : X) → Contains (filter test xs) x → Contains xs x × (test x ≡ true)
filter_from test [] x has = absurd (contains_none x has)
filter_from test (y ∷ ys) x has = filter_from_more test y ys x (test y) refl (λ rest. filter_from test ys x rest) has

filter_to_more : {X : Type 0} (test : X → Bool) (y : X) (ys : List X) (x : X) (b : Bool) → test y ≡ b
    → (Contains ys x → Contains (filter test ys) x) → Contains (y ∷ ys) x → test x ≡ true
    → Contains (cond b (y ∷ filter test ys) (filter test ys)) x
filter_to_more test y ys x true passes rest has is = elim (contains_cases y ys x has) [
  | inl same ↦ subst (λ z. Contains (y ∷ filter test ys) z) same (contains_here y (filter test ys))
  | inr later ↦ contains_later y (filter test ys) x (rest later)
]
filter_to_more test y ys x false fails rest has is = elim (contains_cases y ys x has) [
  | inl same ↦ absurd (false≢true (sym fails ∙ ap test same ∙ is))
  | inr later ↦ rest later
]

pub filter_to : {X : Type 0} (test : X → Bool) (xs : List X) (x : X) → Contains xs x → test x ≡ true → Contains (filter test xs) x
filter_to test [] x has is = has
filter_to test (y ∷ ys) x has is = filter_to_more test y ys x (test y) refl (λ rest. filter_to test ys x rest is) has is

-- ---- their order

ascending_kept : (test : ProcessId → Bool) (p : ProcessId) (rest : List ProcessId) (b : Bool) → IsAscending (p ∷ rest)
    → IsAscending (filter test rest) → IsAscending (cond b (p ∷ filter test rest) (filter test rest))
ascending_kept test p rest true up kept = (λ other has. up.0 other (filter_from test rest other has).0, kept)
ascending_kept test p rest false up kept = kept

pub ascending_filter : (test : ProcessId → Bool) (list : List ProcessId) → IsAscending list → IsAscending (filter test list)
ascending_filter test [] up = tt
ascending_filter test (p ∷ rest) up = ascending_kept test p rest (test p) up (ascending_filter test rest up.1)

pub ascending_push : (list : List ProcessId) (p : ProcessId) → IsAscending list → ((q : ProcessId) → Contains list q → q.0 < p.0)
    → IsAscending (list ++ p ∷ [])
ascending_push [] p up below = (λ other has. absurd (contains_none other has), tt)
ascending_push (q ∷ rest) p up below = (
  λ other has. elim (Contains-push_cases rest p other has) [
    | inl was ↦ up.0 other was
    | inr same ↦ subst (λ z. q.0 < z.0) same (below q (contains_here q rest))
  ],
  ascending_push rest p up.1 (λ other has. below other (contains_later q rest other has)),
)

-- ---- the processes that a signal reaches

pub listed_first : (arrivals : Arrivals) (place : ℕ) (source : Source) (list : List ProcessId) → list ≡ []
    → IsListed arrivals place source 0 list
listed_first arrivals place source list none = subst (λ x. IsListed arrivals place source 0 x) (sym none) (record {
  reached = λ p below reaches. absurd (omega (arith, below));
  just = λ p has. absurd (contains_none p has);
  ordered = tt;
})

pub listed_with : (arrivals : Arrivals) (place : ℕ) (source : Source) (count : ℕ) (list new : List ProcessId) (id : ProcessId)
    → IsListed arrivals place source count list → id.0 ≡ count → ArrivesAt arrivals place id ⊎ (source.end ≡ at.Process id)
    → new ≡ list ++ id ∷ [] → IsListed arrivals place source (count + 1) new
listed_with arrivals place source count list new id was last is pushed = subst (λ x. IsListed arrivals place source (count + 1) x) (sym pushed) (record {
  reached = λ p below reaches. elim (cases_eq p.0 count) [
    | inl same ↦ subst (λ z. Contains (list ++ id ∷ []) z) (same_process id p (last ∙ sym same)) (Contains-push list id)
    | inr other ↦ Contains-append_left list (id ∷ []) p (was.reached p (omega (arith, below, other)) reaches)
  ];
  just = λ p has. elim (Contains-push_cases list id p has) [
    | inl before ↦ let h = was.just p before in (omega (arith, h.0), h.1)
    | inr same ↦ (
      let e : id.0 ≡ p.0 = ap (λ x. x.0) same in omega (arith, e, last),
      subst (λ z. ArrivesAt arrivals place z ⊎ (source.end ≡ at.Process z)) same is,
    )
  ];
  ordered = ascending_push list id was.ordered (λ q has. let h = was.just q has in omega (arith, h.0, last));
})

pub listed_without : (arrivals : Arrivals) (place : ℕ) (source : Source) (count : ℕ) (list : List ProcessId) (id : ProcessId)
    → IsListed arrivals place source count list → id.0 ≡ count → (ArrivesAt arrivals place id → ⊥)
    → IsListed arrivals place source (count + 1) list
listed_without arrivals place source count list id was last not_reached = record {
  reached = λ p below reaches. elim (cases_eq p.0 count) [
    | inl same ↦ absurd (not_reached (subst (λ z. ArrivesAt arrivals place z) (same_process p id (same ∙ sym last)) reaches))
    | inr other ↦ was.reached p (omega (arith, below, other)) reaches
  ];
  just = λ p has. let h = was.just p has in (omega (arith, h.0), h.1);
  ordered = was.ordered;
}

-- ---- an entry

or_true : (b : Bool) → (b || true) ≡ true
or_true true = refl
or_true false = refl

eqb-same : (n : ℕ) → (n == n) ≡ true
eqb-same n = eq-eqb n n refl

own_receiver : (itself : Bool) (p : ProcessId) → is_receiver itself (from.Process p) p ≡ true → itself ≡ true
own_receiver true p is = refl
own_receiver false p is = absurd (false≢true (sym (ap not (eqb-same p.0)) ∙ is))

receiver_is : (itself : Bool) (end : end.End) (p : ProcessId) → (end ≡ at.Process p → itself ≡ true) → is_receiver itself (sender_at end) p ≡ true
receiver_is itself at.Env p own = refl
receiver_is itself (at.Block block) p own = refl
receiver_is itself (at.Process sender) p own = elim (cases_eq sender.0 p.0) [
  | inl same ↦ ap (λ b. b || not (sender.0 == p.0)) (own (ap (λ q. at.Process q) (same_process sender p same)))
  | inr other ↦ ap (λ b. itself || not b) (ne_eqb sender.0 p.0 other) ∙ or_true itself
]

pub entry_made : (network : Network) (source : Source) (arrivals : Arrivals) (signal : SignalId) (lists : List (List ProcessId)) (list : List ProcessId) (reach : Reach)
    → ((p : ProcessId) → ReachesProcess arrivals p signal ↔ Path network signal source (at.Process p))
    → ReachesEnv arrivals signal ↔ Path network signal source at.Env
    → IsListed arrivals (signal.0 % 64) source (length network.processes.items) list → slice_get lists reach.receivers.0 ≡ Some list
    → ((p : ProcessId) → source.end ≡ at.Process p → (reach.itself ≡ true) ↔ ReachesProcess arrivals p signal)
    → (reach.env ≡ true) ↔ ReachesEnv arrivals signal → IsEntry network source lists signal reach
entry_made network source arrivals signal lists list reach path env is stands itself outside = record {
  list = list;
  stands = stands;
  receivers = record {
    reached = λ p. (
      λ has.
          let kept = filter_from (is_receiver reach.itself (sender_at source.end)) list p has in
          let just = is.just p kept.0 in (
            just.0,
            (path p).0 (elim just.1 [
              | inl reaches ↦ reaches
              | inr own ↦ (itself p own).0 (own_receiver reach.itself p (subst (λ e. is_receiver reach.itself (sender_at e) p ≡ true) own kept.1))
            ]),
          ),
      λ both.
          let reaches = (path p).1 both.1 in
          filter_to (is_receiver reach.itself (sender_at source.end)) list p (is.reached p both.0 reaches)
          (receiver_is reach.itself source.end p (λ own. (itself p own).1 reaches)),
    );
    ordered = ascending_filter (is_receiver reach.itself (sender_at source.end)) list is.ordered;
  };
  env = (λ e. env.0 (outside.0 e), λ reaches. outside.1 (env.1 reaches));
}

pub entry_of_word : (network : Network) (source : Source) (word : Word) (signal : SignalId) (lists : List (List ProcessId)) (reach : Reach)
    → signal.0 < network.signals → WordTells network source (signal.0 / 64) lists word → slice_get word.numbers.items (signal.0 % 64) ≡ Some reach.receivers
    → ((p : ProcessId) → source.end ≡ at.Process p → (reach.itself ≡ true) ↔ ReachesProcess word.arrivals p signal)
    → (reach.env ≡ true) ↔ ReachesEnv word.arrivals signal → IsEntry network source lists signal reach
entry_of_word network source word signal lists reach below tells at_place itself env =
    let h = tells.numbers (signal.0 % 64) (omega arith) in
    let same : h.0 ≡ reach.receivers = same_Some h.0 reach.receivers (sym h.2 ∙ at_place) in
    entry_made network source word.arrivals signal lists h.1 reach
    (λ p. tells.tells.processes p signal below refl) (tells.tells.env signal below refl) h.4
    (subst (λ number. slice_get lists number.0 ≡ Some h.1) same h.3) itself env

-- ---- one more receiver

abbrev at_place : ℕ → Receiver → Bool
at_place place receiver = bit_at receiver.signals place == 1

module _ (place : ℕ) (receivers : List Receiver) (i : ℕ) (none : Receiver) (before : List ProcessId)
    (below : i < length receivers) (was : before ≡ listed_at place (take i receivers)) where
  pub listed_more : (after : List ProcessId) → Bit (get_or receivers i none).signals place
      → after ≡ before ++ (get_or receivers i none).process ∷ [] → after ≡ listed_at place (take (i + 1) receivers)
  listed_more after bit added =
      let process = λ (r : Receiver). r.process in
      let first = filter (at_place place) (take i receivers) in
      let one = get_or receivers i none in
      added
      ∙ ap (λ l. l ++ one.process ∷ []) was
      ∙ sym (map-append process first (one ∷ []))
      ∙ sym (ap (map process) (filter_more (at_place place) receivers i none below
      ∙ ap (λ n. first ++ cond (n == 1) (one ∷ []) []) bit))

  pub listed_on : (Bit (get_or receivers i none).signals place → ⊥) → before ≡ listed_at place (take (i + 1) receivers)
  listed_on no_bit =
      let process = λ (r : Receiver). r.process in
      let first = filter (at_place place) (take i receivers) in
      let one = get_or receivers i none in
      was
      ∙ sym (ap (map process) (filter_more (at_place place) receivers i none below
      ∙ ap (λ b. first ++ cond b (one ∷ []) []) (ne_eqb (bit_at one.signals place) 1 no_bit)
      ∙ append-nil first))
