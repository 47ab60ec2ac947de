-- The instances of a replay, where one of them is changed or comes in, or where other ones are noted.
use Rattle.std.proofs.Common.{◌≡◌, ◌≢◌, ◌⊎◌, ◌∙◌, ◌+◌, ◌<◌, ◌≤◌, ◌++◌, ℕ, zero, suc, List, [], ◌∷◌, All, Some, Result, Ok, Err, MatchResult, ap, arith, inl, inr, length, refl, set, slice_get, subst, sym}
use Rattle.std.specs.Prelude.{Contains, ◌↔◌}
use Rattle.std.proofs.lemmas.Bool.{cases_eq}
use Rattle.std.proofs.lemmas.Option.{get_or_from_slice_get}
use Rattle.port_model.specs.Calls.{ComesBack}
use Rattle.port_model.specs.declared.inbox.entry.Fuse.{Fuse}
use Rattle.port_model.specs.declared.refused.Refused.{Refused}
use Rattle.port_model.specs.declared.values.item.Item.{Item}
use Rattle.port_model.specs.declared.values.pid.Pid.{Pid}
use Rattle.port_model.specs.declared.values.value.Value.{Value}
use Rattle.run_order.proofs.Meanings.{there_is}
use Rattle.run_order.specs.Kept.{AreKept, IsStill}
use Rattle.run_order.specs.OrderState.{fresh}
use Rattle.run_record.specs.declared.evaluation.identity.Identity.{Identity}
use Rattle.run_order.specs.declared.member.Member.{Member}
use Rattle.run_order.specs.declared.pending.Pending.{Pending}
use Rattle.sdl_interp.specs.Instance.{InstanceValue, Keeps}
use Rattle.sdl_system.specs.System.{SystemValue}
use Rattle.sdl_system.specs.declared.id.ProcessId.{ProcessId}
use Rattle.sdl_system.specs.declared.process.Process.{Process}
use Rattle.serial_run.proofs.Changes.{IsChanged, with_port}
use Rattle.serial_order.specs.RunState.{instance_of, with_expiry, with_put}
use Rattle.serial_run.specs.Serial.{IsOfSystem}

-- what stands in a list where one place is changed
pub at_set : {X : Type 0} (xs : List X) (place k : ℕ) (new i : X) → slice_get (set xs place new) k ≡ Some i
    → ((k ≡ place) × (i ≡ new)) ⊎ ((k ≢ place) × (slice_get xs k ≡ Some i))
at_set [] place k new i e = let no : ⊥ = cc in absurd no
at_set (x ∷ xs) zero zero new i e = inl (refl, cc)
at_set (x ∷ xs) zero (suc k) new i e = inr (λ is. absurd (omega (arith, is)), e)
at_set (x ∷ xs) (suc place) zero new i e = inr (λ is. absurd (omega (arith, is)), e)
at_set (x ∷ xs) (suc place) (suc k) new i e =
    elim (at_set xs place k new i e) [
      | inl w ↦ inl (ap suc w.0, w.1)
      | inr w ↦ inr (λ is. w.0 (omega (arith, is)), w.1)
    ]

-- what stands in a list with one element more
pub at_push : {X : Type 0} (xs : List X) (x i : X) (k : ℕ) → slice_get (xs ++ x ∷ []) k ≡ Some i
    → (slice_get xs k ≡ Some i) ⊎ ((k ≡ length xs) × (i ≡ x))
at_push [] x i zero e = inr (refl, cc)
at_push [] x i (suc k) e = let no : ⊥ = cc in absurd no
at_push (first ∷ xs) x i zero e = inl e
at_push (first ∷ xs) x i (suc k) e = elim (at_push xs x i k e) [
  | inl there ↦ inl there
  | inr is ↦ inr (ap suc is.0, is.1)
]

-- what stands where a place is changed
pub set_here : {X : Type 0} (xs : List X) (place : ℕ) (old new : X) → slice_get xs place ≡ Some old
    → slice_get (set xs place new) place ≡ Some new
set_here [] place old new there = let no : ⊥ = cc in absurd no
set_here (x ∷ xs) zero old new there = refl
set_here (x ∷ xs) (suc place) old new there = set_here xs place old new there

-- one thing stands at a place
pub same_there : {X : Type 0} (xs : List X) (place : ℕ) (one other : X) → slice_get xs place ≡ Some one
    → slice_get xs place ≡ Some other → one ≡ other
same_there xs place one other there here =
    let both : Some one ≡ Some other = sym there ∙ here in
    let same : one ≡ other = cc in
    same

module _ (ready after : List ℕ) (system : SystemValue) (members : List Member) (kept : AreKept ready system members)
  where
    -- one instance is changed
    pub kept_set : (place : ℕ) (new : Member) → IsOfSystem system new.instance → new.instance.who.pid ≡ place + 1
        → ((n : ℕ) → n ≢ place + 1 → Contains ready n → Contains after n) → Contains after (place + 1) ⊎ IsStill new
        → ((n : ℕ) → Contains after n → 0 < n) → AreKept after system (set members place new)
    kept_set place new member number more marked positive = record {
      of_system = λ k m there. elim (at_set members place k new m there) [
        | inl w ↦ subst (λ (one : Member). IsOfSystem system one.instance) (sym w.1) member
        | inr w ↦ kept.of_system k m w.1
      ];
      numbers = λ k m there. elim (at_set members place k new m there) [
        | inl w ↦ ap (λ (one : Member). one.instance.who.pid) w.1 ∙ number ∙ ap (λ n. n + 1) (sym w.0)
        | inr w ↦ kept.numbers k m w.1
      ];
      others = λ k m there. elim (at_set members place k new m there) [
        | inl w ↦ subst (λ (one : Member). Contains after (k + 1) ⊎ IsStill one) (sym w.1)
            (subst (λ n. Contains after (n + 1) ⊎ IsStill new) (sym w.0) marked)
        | inr w ↦ elim (kept.others k m w.1) [
          | inl was ↦ inl (more (k + 1) (λ e. w.0 (omega (arith, e))) was)
          | inr still ↦ inr still
        ]
      ];
      positive = positive;
    }

    -- one comes in
    pub kept_push : (new : Member) → IsOfSystem system new.instance → new.instance.who.pid ≡ length members + 1
        → ((n : ℕ) → Contains ready n → Contains after n) → Contains after (length members + 1)
        → ((n : ℕ) → Contains after n → 0 < n) → AreKept after system (members ++ new ∷ [])
    kept_push new member number more marked positive = record {
      of_system = λ k m there. elim (at_push members new m k there) [
        | inl was ↦ kept.of_system k m was
        | inr w ↦ subst (λ (one : Member). IsOfSystem system one.instance) (sym w.1) member
      ];
      numbers = λ k m there. elim (at_push members new m k there) [
        | inl was ↦ kept.numbers k m was
        | inr w ↦ ap (λ (one : Member). one.instance.who.pid) w.1 ∙ number ∙ ap (λ n. n + 1) (sym w.0)
      ];
      others = λ k m there. elim (at_push members new m k there) [
        | inl was ↦ elim (kept.others k m was) [
          | inl marked ↦ inl (more (k + 1) marked)
          | inr still ↦ inr still
        ]
        | inr w ↦ inl (subst (λ n. Contains after (n + 1)) (sym w.0) marked)
      ];
      positive = positive;
    }

    -- other ones are noted: all that were, but for some that are still
    pub kept_noted : ((n : ℕ) → Contains ready n → Contains after n
        ⊎ ((m : Member) (place : ℕ) → place + 1 ≡ n → slice_get members place ≡ Some m → IsStill m))
        → ((n : ℕ) → Contains after n → 0 < n) → AreKept after system members
    kept_noted more positive = record {
      of_system = kept.of_system;
      numbers = kept.numbers;
      others = λ k m there. elim (kept.others k m there) [
        | inl marked ↦ elim (more (k + 1) marked) [
          | inl still_marked ↦ inl still_marked
          | inr rests ↦ inr (rests m k refl there)
        ]
        | inr still ↦ inr still
      ];
      positive = positive;
    }

-- one more is noted
pub kept_woken : (ready after : List ℕ) (system : SystemValue) (members : List Member) (number : ℕ)
    → AreKept ready system members → 0 < number
    → ((n : ℕ) → Contains after n ↔ ((n ≡ number) ⊎ Contains ready n)) → AreKept after system members
kept_woken ready after system members number kept above waked =
    kept_noted ready after system members kept (λ n was. inl ((waked n).1 (inr was)))
    (λ n is. elim ((waked n).0 is) [
      | inl same ↦ omega (arith, same, above)
      | inr was ↦ kept.positive n was
    ])

-- one that is still is noted no more
pub kept_rested : (ready fewer : List ℕ) (system : SystemValue) (members : List Member) (place : ℕ) (m : Member)
    → AreKept ready system members → slice_get members place ≡ Some m → IsStill m
    → ((n : ℕ) → Contains fewer n ↔ (Contains ready n × (n ≢ place + 1))) → AreKept fewer system members
kept_rested ready fewer system members place m kept there still off =
    kept_noted ready fewer system members kept
    (λ n was. elim (cases_eq n (place + 1)) [
      | inl same ↦ inr (λ one k is at.
          let here : k ≡ place = omega (arith, same, is) in
          let both : Some one ≡ Some m = sym at ∙ ap (slice_get members) here ∙ there in
          let one_is : m ≡ one = cc in
          subst IsStill one_is still)
      | inr apart ↦ inl ((off n).1 (was, apart))
    ])
    (λ n is. kept.positive n ((off n).0 is).0)

-- where nobody is noted all are still
pub all_still : (ready : List ℕ) (system : SystemValue) (members : List Member) → AreKept ready system members
    → ((n : ℕ) → Contains ready n → n ≤ 0) → All IsStill members
all_still ready system members kept none = λ place d below.
    let found = there_is members place below in
    subst IsStill (sym (get_or_from_slice_get members place found.0 d found.1))
    (elim (kept.others place found.0 found.1) [
      | inl marked ↦
          let low = none (place + 1) marked in
          let no : ⊥ = omega (arith, low) in
          absurd no
      | inr still ↦ still
    ])

-- ---- one instance is changed

-- it is of the same system, process and number
same_system : (system : SystemValue) (old new : InstanceValue) → IsOfSystem system old → new.system ≡ old.system
    → new.process ≡ old.process → new.who ≡ old.who → IsOfSystem system new
same_system system old new was same process who = record {
  system_is = same ∙ was.system_is;
  process_is = ap (λ (w : Identity). slice_get system.processes w.process.0) who ∙ was.process_is
      ∙ ap Some (sym process);
}

module _ (ready : List ℕ) (system : SystemValue) (members : List Member) (kept : AreKept ready system members)
    (place : ℕ) (m : Member) (there : slice_get members place ≡ Some m) where
  -- by a step, or as an event of it is told
  pub kept_stepped : (new : Member) → Keeps m.instance new.instance → Contains ready (place + 1) ⊎ IsStill new
      → AreKept ready system (set members place new)
  kept_stepped new keeps marked =
      kept_set ready ready system members kept place new
      (same_system system m.instance new.instance (kept.of_system place m there) keeps.system keeps.process keeps.who)
      (ap (λ (w : Identity). w.pid) keeps.who ∙ kept.numbers place m there) (λ n other was. was) marked kept.positive

  -- what has something to do outside is noted
  pub noted_pending : (what : Pending) (later : List Pending) → m.pending ≡ what ∷ later → Contains ready (place + 1)
  noted_pending what later next = elim (kept.others place m there) [
    | inl marked ↦ marked
    | inr still ↦
        let wrong : what ∷ later ≡ [] = sym next ∙ still.1 in
        let no : ⊥ = cc in
        absurd no
  ]

  -- by a put or an expiry, with which it is noted
  pub kept_changed : (after : List ℕ) (number : ℕ) (i : InstanceValue) → place + 1 ≡ number → IsChanged m.instance i
      → ((n : ℕ) → Contains after n ↔ ((n ≡ number) ⊎ Contains ready n))
      → AreKept after system (set members place (record m { instance = i }))
  kept_changed after number i is same waked =
      kept_set ready after system members kept place (record m { instance = i })
      (same_system system m.instance i (kept.of_system place m there) same.system same.process same.who)
      (ap (λ (w : Identity). w.pid) same.who ∙ kept.numbers place m there)
      (λ n other was. (waked n).1 (inr was)) (inl ((waked (place + 1)).1 (inl is)))
      (λ n marked. elim ((waked n).0 marked) [
        | inl e ↦ omega (arith, e, is)
        | inr was ↦ kept.positive n was
      ])

  -- by a step, before which it was noted
  pub kept_moved : (after : List ℕ) (number : ℕ) (new : Member) → place + 1 ≡ number → Keeps m.instance new.instance
      → ((n : ℕ) → Contains after n ↔ ((n ≡ number) ⊎ Contains ready n))
      → AreKept after system (set members place new)
  kept_moved after number new is keeps waked =
      kept_set ready after system members kept place new
      (same_system system m.instance new.instance (kept.of_system place m there) keeps.system keeps.process keeps.who)
      (ap (λ (w : Identity). w.pid) keeps.who ∙ kept.numbers place m there)
      (λ n other was. (waked n).1 (inr was)) (inl ((waked (place + 1)).1 (inl is)))
      (λ n marked. elim ((waked n).0 marked) [
        | inl e ↦ omega (arith, e, is)
        | inr was ↦ kept.positive n was
      ])

  -- by a step that found nothing: it is still, and noted no more
  pub kept_waiting : (after fewer : List ℕ) (number : ℕ) (new : Member) → place + 1 ≡ number
      → Keeps m.instance new.instance → ((n : ℕ) → Contains after n ↔ ((n ≡ number) ⊎ Contains ready n))
      → IsStill new → ((n : ℕ) → Contains fewer n ↔ (Contains after n × (n ≢ number)))
      → AreKept fewer system (set members place new)
  kept_waiting after fewer number new is keeps waked still off =
      kept_rested after fewer system (set members place new) place new (kept_moved after number new is keeps waked)
      (set_here members place m new there) still
      (subst (λ k. (n : ℕ) → Contains fewer n ↔ (Contains after n × (n ≢ k))) (sym is) off)

  -- one that is still is noted no more
  pub kept_off : (fewer : List ℕ) (number : ℕ) → place + 1 ≡ number → IsStill m
      → ((n : ℕ) → Contains fewer n ↔ (Contains ready n × (n ≢ number))) → AreKept fewer system members
  kept_off fewer number is still off =
      kept_rested ready fewer system members place m kept there still
      (subst (λ k. (n : ℕ) → Contains fewer n ↔ (Contains ready n × (n ≢ k))) (sym is) off)

-- one is made of a process of the system, with the next number
pub kept_entered : (ready after : List ℕ) (system : SystemValue) (members : List Member)
    → AreKept ready system members → (id : ProcessId) (number : ℕ) (parent : Pid) (values : List Value)
    (process : Process) (i : InstanceValue) (new : Member) → slice_get system.processes id.0 ≡ Some process
    → i ≡ instance_of system process (record { process = id; pid = number; parent = parent }) values → new ≡ fresh i
    → number ≡ length members + 1 → ((n : ℕ) → Contains after n ↔ ((n ≡ number) ⊎ Contains ready n))
    → AreKept after system (members ++ new ∷ [])
kept_entered ready after system members kept id number parent values process i new there made is_fresh next waked =
    subst (λ (one : Member). AreKept after system (members ++ one ∷ [])) (sym is_fresh)
    (kept_push ready after system members kept (fresh i) (record {
      system_is = ap (λ (j : InstanceValue). j.system) made;
      process_is = ap (λ (j : InstanceValue). slice_get system.processes j.who.process.0) made ∙ there
          ∙ ap (λ (j : InstanceValue). Some j.process) (sym made);
    }) (ap (λ (j : InstanceValue). j.who.pid) made ∙ next) (λ n was. (waked n).1 (inr was))
    ((waked (length members + 1)).1 (inl (sym next)))
    (λ n marked. elim ((waked n).0 marked) [
      | inl e ↦ omega (arith, e, next)
      | inr was ↦ kept.positive n was
    ]))

-- ---- a put and an expiry, also where they are refused

same_port : (i : InstanceValue) → IsChanged i i
same_port i = record { system = refl; process = refl; who = refl; position = refl; pid = refl }

pub put_changed : {A : Type 0} (r : Result A (Refused Item)) (old new : InstanceValue) (item : Item)
    → MatchResult r (λ _. new ≡ with_put item old) (λ back. ComesBack back item × (new ≡ old)) → IsChanged old new
put_changed (Ok a) old new item did = with_port old new (with_put item old).owner.state did
put_changed (Err e) old new item did = subst (IsChanged old) (sym did.1) (same_port old)

pub expiry_changed : {A : Type 0} (r : Result A (Refused Fuse)) (old new : InstanceValue) (fuse : Fuse) (at : ℕ)
    → MatchResult r (λ _. new ≡ with_expiry fuse at old) (λ _. new ≡ old) → IsChanged old new
expiry_changed (Ok a) old new fuse at did = with_port old new (with_expiry fuse at old).owner.state did
expiry_changed (Err e) old new fuse at did = subst (IsChanged old) (sym did) (same_port old)
