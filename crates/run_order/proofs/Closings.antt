-- How a replay ends.
use Rattle.std.proofs.Common.{◌++◌, Bool, false, ℕ, List, [], ◌∷◌, All, map, subst, sym}
use Rattle.std.specs.List.{AllZip}
use Rattle.std.proofs.lemmas.List.Elements.{All-cons, All-head, All-nil, All-tail}
use Rattle.std.proofs.lemmas.Option.{get_or_from_slice_get}
use Rattle.run_order.proofs.Meanings.{all_at, meaning, rests_by, there_is}
use Rattle.run_order.specs.Interleaving.{IsDoneAndRests}
use Rattle.run_order.specs.Kept.{AreKept, IsStill}
use Rattle.run_order.specs.declared.member.Member.{Member}
use Rattle.run_record.specs.Record.{RecordValue}
use Rattle.run_semantics.specs.Behaves.{AreBehaviours}
use Rattle.sdl_interp.specs.Instance.{IsAtRest, IsClosed}
use Rattle.sdl_system.specs.Behaviour.{Behaviour}
use Rattle.sdl_system.specs.System.{SystemValue}
use Rattle.serial_run.specs.Serial.{IsOfSystem}
use Rattle.serial_order.specs.Report.{Closes}

-- those that are still rest, and have done all
pub all_done : (ps : List Behaviour) (ready : List ℕ) (system : SystemValue) (members : List Member)
    → AreBehaviours system ps → AreKept ready system members → All IsStill members → All (IsDoneAndRests ps) members
all_done ps ready system members behaviours kept all = λ place d below.
    let found = there_is members place below in
    let still = all_at IsStill members place found.0 all found.1 in
    subst (IsDoneAndRests ps) (sym (get_or_from_slice_get members place found.0 d found.1)) (
      rests_by ps found.0.instance (meaning ps system found.0.instance behaviours (kept.of_system place found.0
          found.1))
          still.0,
      still.1,
    )

-- all that are still are at rest
pub all_at_rest : (members : List Member) → All IsStill members
    → All IsAtRest (map (λ (m : Member). m.instance) members)
all_at_rest [] all = All-nil IsAtRest
all_at_rest (m ∷ rest) all =
    All-cons IsAtRest m.instance (map (λ (m : Member). m.instance) rest) (All-head IsStill m rest all).0
    (all_at_rest rest (All-tail IsStill m rest all))

-- records of instances of the system, closed
pub closes_all : (ps : List Behaviour) (system : SystemValue) (whole : Bool) → AreBehaviours system ps
    → (members : List Member) (records : List RecordValue) → All (λ (m : Member). IsOfSystem system m.instance) members
    → AllZip (IsClosed false whole) (map (λ (m : Member). m.instance) members) records
    → AllZip (Closes ps whole) (map (λ (m : Member). m.instance) members) records
closes_all ps system whole behaviours [] [] are closed = tt
closes_all ps system whole behaviours [] (one ∷ records) are closed = absurd closed
closes_all ps system whole behaviours (m ∷ members) [] are closed = absurd closed
closes_all ps system whole behaviours (m ∷ members) (one ∷ records) are closed =
    let found = meaning ps system m.instance behaviours
    (All-head (λ (m : Member). IsOfSystem system m.instance) m members are) in (
      record { p = found.p; meant = found.meant; closed = closed.0 },
      closes_all ps system whole behaviours members records
          (All-tail (λ (m : Member). IsOfSystem system m.instance) m members are) closed.1,
    )

-- one more of each
pub closed_push : (whole : Bool) (members : List Member) (records : List RecordValue) (m : Member)
    (one : RecordValue) → AllZip (IsClosed false whole) (map (λ (m : Member). m.instance) members) records
    → IsClosed false whole m.instance one
    → AllZip (IsClosed false whole) (map (λ (m : Member). m.instance) (members ++ m ∷ [])) (records ++ one ∷ [])
closed_push whole [] [] m one all last = (last, tt)
closed_push whole [] (other ∷ records) m one all last = absurd all
closed_push whole (first ∷ members) [] m one all last = absurd all
closed_push whole (first ∷ members) (other ∷ records) m one all last =
    (all.0, closed_push whole members records m one all.1 last)

-- all instances are of the system
pub all_of_system : (ready : List ℕ) (system : SystemValue) (members : List Member) → AreKept ready system members
    → All (λ (m : Member). IsOfSystem system m.instance) members
all_of_system ready system members kept = λ place d below.
    let found = there_is members place below in
    subst (λ (m : Member). IsOfSystem system m.instance) (sym (get_or_from_slice_get members place found.0 d found.1))
    (kept.of_system place found.0 found.1)
