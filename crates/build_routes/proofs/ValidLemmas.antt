-- Valid input sets.
use Rattle.std.proofs.Common.{◌≡◌, ◌⊎◌, ◌<◌, ◌≤◌, ◌↔◌, ◌+◌, ℕ, Bool, false, true, Contains, List, [], ◌∷◌, ◌++◌, Some, ap, arith, get_or, inl, inr, length, refl, slice_get, subst, sym, ◌∙◌}
use Rattle.std.proofs.lemmas.Bool.{cases_eq}
use Rattle.std.proofs.lemmas.List.{get_or_append_left, get_or_push}
use Rattle.std.proofs.lemmas.List.Elements.{Contains-append_left, Contains-push, Contains-push_cases}
use Rattle.std.proofs.lemmas.Option.{get_or_from_slice_get, slice_get-get_or, slice_get_within, unwrap_or-slice_get}
use Rattle.port_model.specs.declared.values.item.SignalId.{SignalId}
use Rattle.sdl_system.specs.Signal.{is_member}
use Rattle.sdl_system.specs.declared.id.ProcessId.{ProcessId}
use Rattle.build_routes.specs.Each.{ForSome, ForSomeBelow}
use Rattle.build_routes.specs.SignalLists.{AreSets, HasSignal, StandsFor}
use Rattle.build_routes.specs.Valid.{AreValid, IsHeard, IsHeardFrom, IsValid}
use Rattle.build_routes.specs.declared.network.list.ListId.{ListId}
use Rattle.build_routes.specs.declared.network.joined.ChannelPath.{ChannelPath}
use Rattle.build_routes.specs.declared.network.joined.Network.{Network}
use Rattle.build_routes.specs.declared.network.joined.Process.{Process}
use Rattle.build_routes.specs.declared.network.signal_sets.SignalSets.{SignalSets}
use Rattle.build_routes.proofs.EachLemmas.{below_cases, below_last, below_more, below_none, same_element}
use Rattle.build_routes.proofs.ReceiverLemmas.{contains_cases, contains_here, contains_later, contains_none, same_process}
use Rattle.build_routes.proofs.TableLemmas.{get_push}

-- ---- the lists of what comes to a process

abbrev Heard : ProcessId → Process → List ChannelPath → ℕ → ListId → Type 0
Heard id process paths count list = ForSomeBelow paths count (λ n path. IsHeard id process path × (path.signals ≡ list))

pub lists_first : (id : ProcessId) (process : Process) (paths : List ChannelPath) (one two : List ListId) → one ≡ [] ++ process.named ∷ []
    → two ≡ one ++ process.timers ∷ [] → (list : ListId)
    → Contains two list ↔ ((list ≡ process.named) ⊎ ((list ≡ process.timers) ⊎ Heard id process paths 0 list))
lists_first id process paths one two first second list =
    let is : two ≡ process.named ∷ process.timers ∷ [] = second ∙ ap (λ x. x ++ process.timers ∷ []) first in (
      λ has. elim (contains_cases process.named (process.timers ∷ []) list (subst (λ x. Contains x list) is has)) [
        | inl same ↦ inl (sym same)
        | inr later ↦ elim (contains_cases process.timers [] list later) [
          | inl same ↦ inr (inl (sym same))
          | inr none ↦ absurd (contains_none list none)
        ]
      ],
      λ cases. subst (λ x. Contains x list) (sym is) (elim cases [
        | inl same ↦ subst (λ x. Contains (process.named ∷ process.timers ∷ []) x) (sym same) (contains_here process.named (process.timers ∷ []))
        | inr rest ↦ elim rest [
          | inl same ↦ subst (λ x. Contains (process.named ∷ process.timers ∷ []) x) (sym same)
              (contains_later process.named (process.timers ∷ []) process.timers (contains_here process.timers []))
          | inr some ↦ absurd (below_none paths (λ n path. IsHeard id process path × (path.signals ≡ list)) some)
        ]
      ]),
    )

pub lists_more : (id : ProcessId) (process : Process) (paths : List ChannelPath) (i : ℕ) (path : ChannelPath) (lists new : List ListId) (list : ListId)
    → slice_get paths i ≡ Some path → Contains lists list ↔ ((list ≡ process.named) ⊎ ((list ≡ process.timers) ⊎ Heard id process paths i list))
    → Contains new list ↔ (Contains lists list ⊎ (IsHeard id process path × (path.signals ≡ list)))
    → Contains new list ↔ ((list ≡ process.named) ⊎ ((list ≡ process.timers) ⊎ Heard id process paths (i + 1) list))
lists_more id process paths i path lists new list here old now = (
  λ has. elim (now.0 has) [
    | inl was ↦ elim (old.0 was) [
      | inl named ↦ inl named
      | inr rest ↦ elim rest [
        | inl timer ↦ inr (inl timer)
        | inr some ↦ inr (inr (below_more paths i (λ n path. IsHeard id process path × (path.signals ≡ list)) some))
      ]
    ]
    | inr comes ↦ inr (inr (below_last paths i path (λ n path. IsHeard id process path × (path.signals ≡ list)) here comes))
  ],
  λ cases. elim cases [
    | inl named ↦ now.1 (inl (old.1 (inl named)))
    | inr rest ↦ elim rest [
      | inl timer ↦ now.1 (inl (old.1 (inr (inl timer))))
      | inr some ↦ elim (below_cases paths i path (λ n path. IsHeard id process path × (path.signals ≡ list)) here some) [
        | inl before ↦ now.1 (inl (old.1 (inr (inr before))))
        | inr last ↦ now.1 (inr last)
      ]
    ]
  ],
)

pub pushed_heard : (id : ProcessId) (process : Process) (path : ChannelPath) (lists new : List ListId) (list : ListId) → IsHeard id process path
    → new ≡ lists ++ path.signals ∷ [] → Contains new list ↔ (Contains lists list ⊎ (IsHeard id process path × (path.signals ≡ list)))
pushed_heard id process path lists new list heard is = (
  λ has. elim (Contains-push_cases lists path.signals list (subst (λ x. Contains x list) is has)) [
    | inl was ↦ inl was
    | inr same ↦ inr (heard, same)
  ],
  λ cases. subst (λ x. Contains x list) (sym is) (elim cases [
    | inl was ↦ Contains-append_left lists (path.signals ∷ []) list was
    | inr comes ↦ subst (λ x. Contains (lists ++ path.signals ∷ []) x) comes.1 (Contains-push lists path.signals)
  ]),
)

pub not_heard : (id : ProcessId) (process : Process) (path : ChannelPath) (lists new : List ListId) (list : ListId) → (IsHeard id process path → ⊥)
    → new ≡ lists → Contains new list ↔ (Contains lists list ⊎ (IsHeard id process path × (path.signals ≡ list)))
not_heard id process path lists new list silent is = (
  λ has. inl (subst (λ x. Contains x list) is has),
  λ cases. subst (λ x. Contains x list) (sym is) (elim cases [ inl was ↦ was | inr comes ↦ absurd (silent comes.0) ]),
)

pub heard_all : (id : ProcessId) (process : Process) (paths : List ChannelPath) (count : ℕ) (lists : List ListId) (list : ListId) → length paths ≤ count
    → Contains lists list ↔ ((list ≡ process.named) ⊎ ((list ≡ process.timers) ⊎ Heard id process paths count list))
    → Contains lists list ↔ ((list ≡ process.named) ⊎ ((list ≡ process.timers) ⊎ IsHeardFrom id process paths list))
heard_all id process paths count lists list all is = (
  λ has. elim (is.0 has) [
    | inl named ↦ inl named
    | inr rest ↦ elim rest [
      | inl timer ↦ inr (inl timer)
      | inr some ↦ inr (inr (some.0, some.1, some.3, some.4))
    ]
  ],
  λ cases. elim cases [
    | inl named ↦ is.1 (inl named)
    | inr rest ↦ elim rest [
      | inl timer ↦ is.1 (inr (inl timer))
      | inr some ↦ is.1 (inr (inr (some.0, some.1, omega (arith, slice_get_within paths some.0 some.1 some.2, all), some.2, some.3)))
    ]
  ],
)

-- ---- the set

some_contained : (sets : SignalSets) (signal : SignalId) (lists : List ListId) (list : ListId) → Contains lists list → HasSignal sets list signal
    → ForSome lists (λ n list. HasSignal sets list signal)
some_contained sets signal lists list has member =
    (has.0, list, slice_get-get_or lists has.0 list has.1 ∙ ap (λ x. Some x) has.2, member)

contained : (lists : List ListId) (n : ℕ) (list : ListId) → slice_get lists n ≡ Some list → Contains lists list
contained lists n list is = (n, slice_get_within lists n list is, get_or_from_slice_get lists n list list is)

some_of : (network : Network) (sets : SignalSets) (id : ProcessId) (process : Process) (signal : SignalId) (lists : List ListId)
    → AreSets network.lists.items network.signals sets → signal.0 < network.signals
    → ((list : ListId) → Contains lists list ↔ ((list ≡ process.named) ⊎ ((list ≡ process.timers) ⊎ IsHeardFrom id process network.paths.items list)))
    → IsValid network id process signal → ForSome lists (λ n list. HasSignal sets list signal)
some_of network sets id process signal lists are below is (IsValid.carried n path here heard stands) =
    some_contained sets signal lists path.signals ((is path.signals).1 (inr (inr (n, path, here, (heard, refl))))) ((are path.signals signal below).1 stands)
some_of network sets id process signal lists are below is (IsValid.named stands) =
    some_contained sets signal lists process.named ((is process.named).1 (inl refl)) ((are process.named signal below).1 stands)
some_of network sets id process signal lists are below is (IsValid.timer stands) =
    some_contained sets signal lists process.timers ((is process.timers).1 (inr (inl refl))) ((are process.timers signal below).1 stands)

pub valid_by : (network : Network) (sets : SignalSets) (id : ProcessId) (process : Process) (signal : SignalId) (lists : List ListId)
    → AreSets network.lists.items network.signals sets → signal.0 < network.signals
    → ((list : ListId) → Contains lists list ↔ ((list ≡ process.named) ⊎ ((list ≡ process.timers) ⊎ IsHeardFrom id process network.paths.items list)))
    → ForSome lists (λ n list. HasSignal sets list signal) ↔ IsValid network id process signal
valid_by network sets id process signal lists are below is = (
  λ some.
      let stands : StandsFor network.lists.items signal some.1 = (are some.1 signal below).0 some.3 in
      elim ((is some.1).0 (contained lists some.0 some.1 some.2)) [
        | inl named ↦ IsValid.named (subst (λ x. StandsFor network.lists.items signal x) named stands)
        | inr rest ↦ elim rest [
          | inl timer ↦ IsValid.timer (subst (λ x. StandsFor network.lists.items signal x) timer stands)
          | inr heard ↦ IsValid.carried heard.0 heard.1 heard.2 heard.3.0 (subst (λ x. StandsFor network.lists.items signal x) (sym heard.3.1) stands)
        ]
      ],
  λ valid. some_of network sets id process signal lists are below is valid,
)

is_member-at : (members : List Bool) (signal : SignalId) → is_member members signal ≡ get_or members signal.0 false
is_member-at members signal = unwrap_or-slice_get members signal.0 false

pub members_more : (network : Network) (id : ProcessId) (process : Process) (members new : List Bool) (count : ℕ) (is_in : Bool) → length members ≡ count
    → ((signal : SignalId) → signal.0 < count → (is_member members signal ≡ true) ↔ IsValid network id process signal)
    → (is_in ≡ true) ↔ IsValid network id process (record { 0 = count }) → new ≡ members ++ is_in ∷ []
    → (signal : SignalId) → signal.0 < count + 1 → (is_member new signal ≡ true) ↔ IsValid network id process signal
members_more network id process members new count is_in size before last pushed signal below = elim (cases_eq signal.0 count) [
  | inl same ↦
      let at : is_member new signal ≡ is_in = is_member-at new signal ∙ ap (λ x. get_or x signal.0 false) pushed ∙ get_or_push members is_in false signal.0 (size ∙ sym same) in
      let f : ℕ → SignalId = λ n. record { 0 = n } in
      let e : signal ≡ f count = ap f same in (
        λ is. subst (λ s. IsValid network id process s) (sym e) (last.0 (sym at ∙ is)),
        λ valid. at ∙ last.1 (subst (λ s. IsValid network id process s) e valid),
      )
  | inr other ↦
      let within : signal.0 < length members = omega (arith, size, below, other) in
      let at : is_member new signal ≡ is_member members signal =
      is_member-at new signal ∙ ap (λ x. get_or x signal.0 false) pushed ∙ get_or_append_left members (is_in ∷ []) false signal.0 within ∙ sym (is_member-at members signal) in
      let was = before signal (omega (arith, below, other)) in (
        λ is. was.0 (sym at ∙ is),
        λ valid. at ∙ was.1 valid,
      )
]

-- ---- the sets of all

pub valid_first : (network : Network) (valid : List (List Bool)) → valid ≡ [] → AreValid network 0 valid
valid_first network valid none = subst (λ x. AreValid network 0 x) (sym none) (record {
  size = refl;
  places = λ process set at. let within = slice_get_within [] process.0 set at in absurd (omega (arith, within));
  each = λ process is set signal here at below. let within = slice_get_within [] process.0 set at in absurd (omega (arith, within));
})

pub valid_more : (network : Network) (valid new : List (List Bool)) (count : ℕ) (id : ProcessId) (process : Process) (set : List Bool) → AreValid network count valid
    → id.0 ≡ count → slice_get network.processes.items count ≡ Some process → length set ≡ network.signals
    → ((signal : SignalId) → signal.0 < network.signals → (is_member set signal ≡ true) ↔ IsValid network id process signal)
    → new ≡ valid ++ set ∷ [] → length new ≡ count + 1 → AreValid network (count + 1) new
valid_more network valid new count id process set are last here long is pushed size = record {
  size = size;
  places = λ p s at. elim (get_push valid set p.0 s (subst (λ x. slice_get x p.0 ≡ Some s) pushed at)) [
    | inl was ↦ are.places p s was
    | inr end ↦ subst (λ x. length x ≡ network.signals) end.1 long
  ];
  each = λ p other s signal there at below. elim (get_push valid set p.0 s (subst (λ x. slice_get x p.0 ≡ Some s) pushed at)) [
    | inl was ↦ are.each p other s signal there was below
    | inr end ↦
        let same : p.0 ≡ count = end.0 ∙ are.size in
        let e : id ≡ p = same_process id p (last ∙ sym same) in
        let f : process ≡ other = sym (same_element network.processes.items count p.0 other process here there same) in
        subst (λ x. (is_member x signal ≡ true) ↔ IsValid network p other signal) end.1
        (subst (λ x. (is_member set signal ≡ true) ↔ IsValid network x other signal) e
        (subst (λ x. (is_member set signal ≡ true) ↔ IsValid network id x signal) f (is signal below)))
  ];
}
