-- An instance in the midst of a step: what stays, and what holds of its work after an event.
use Rattle.std.proofs.Common.{◌≡◌, ◌∙◌, ◌<◌, ◌≤◌, ◌-◌, ap, arith, refl, subst, sym, ℕ, List}
use Rattle.port_model.specs.Ends.{OwnerState}
use Rattle.port_model.specs.declared.inbox.entry.Entry.{Entry}
use Rattle.run_record.specs.declared.evaluation.store.Store.{Store}
use Rattle.run_record.specs.Event.{Event}
use Rattle.run_record.specs.Record.{RecordValue, noted, with_room}
use Rattle.run_record.specs.declared.failure.Failure.{Failure}
use Rattle.run_semantics.specs.Goes.{with_event}
use Rattle.sdl_interp.specs.Machine.{identity_of, value_of}
use Rattle.sdl_interp.specs.Running.{CoreValue, GoesOn, IsAmid, IsGoing, IsSameInstance, StaysAmid, StaysItself, failed, recorded, seen}
use Rattle.sdl_interp.specs.declared.transitions.machine.Machine.{Machine}
use Rattle.sdl_interp.specs.declared.transitions.running.Core.{Core}
use Rattle.sdl_system.specs.System.{SystemValue}
use Rattle.sdl_system.specs.declared.process.Process.{Process}

-- ---- what stays

pub same_here : (k : CoreValue) → IsSameInstance k k
same_here k = record { system = refl; process = refl; who = refl; port = refl; pid = refl; since = refl }

pub same_on : (k l n : CoreValue) → IsSameInstance k l → IsSameInstance l n → IsSameInstance k n
same_on k l n first then = record {
  system = then.system ∙ first.system;
  process = then.process ∙ first.process;
  who = then.who ∙ first.who;
  port = then.port ∙ first.port;
  pid = then.pid ∙ first.pid;
  since = then.since ∙ first.since;
}

pub amid_here : (k : CoreValue) → IsGoing k → IsAmid k k
amid_here k going = record { same = same_here k; going = going; done = refl }

pub amid_on : (k l n : CoreValue) → IsAmid k l → IsAmid l n → IsAmid k n
amid_on k l n first then = record {
  same = same_on k l n first.same then.same;
  going = then.going;
  done = then.done ∙ first.done;
}

-- what holds of the system and the process after holds of those before
pub kept_by : (F : SystemValue → Process → Type 0) (k l : CoreValue) → IsSameInstance k l → F l.system l.process
    → F k.system k.process
kept_by F k l same holds =
    let Of : SystemValue → Type 0 = λ s. F s k.process in
    let By : Process → Type 0 = λ p. F l.system p in
    subst Of same.system (subst By same.process holds)

-- and what holds of those before holds of those after
pub kept_on : (F : SystemValue → Process → Type 0) (k l : CoreValue) → IsSameInstance k l → F k.system k.process
    → F l.system l.process
kept_on F k l same holds =
    let Of : SystemValue → Type 0 = λ s. F s l.process in
    let By : Process → Type 0 = λ p. F k.system p in
    subst Of (sym same.system) (subst By (sym same.process) holds)

-- an event is recorded, where there is room for two
pub amid_recorded : (k n : CoreValue) (happened : Event) → n ≡ recorded happened k → 2 ≤ k.room → IsGoing k → IsAmid k n
amid_recorded k n happened is two going = record {
  same = record {
    system = ap (λ (x : CoreValue). x.system) is;
    process = ap (λ (x : CoreValue). x.process) is;
    who = ap (λ (x : CoreValue). x.work.who) is;
    port = ap (λ (x : CoreValue). x.work.owner.port) is;
    pid = ap (λ (x : CoreValue). x.work.owner.pid) is;
    since = ap (λ (x : CoreValue). x.since) is;
  };
  going =
      let Going : CoreValue → Type 0 = λ x. IsGoing x in
      let left : 0 < k.room - 1 = omega (arith, two) in
      subst Going (sym is) (record { room = left; alive = going.alive; own = going.own });
  done = ap (λ (x : CoreValue). x.work.store.done) is;
}

-- ---- the machine alone

-- Room is made, something is known, and an event is recorded: `mid` is the machine with the room.
module _ (old mid : Machine) (events values : ℕ)
    (room : mid ≡ record old { trace = with_room old.trace events values }) where
  pub value_noted : (trace : RecordValue) (s t : Store) (happened : Event) (o after : OwnerState)
      → trace ≡ noted mid.trace happened → s ≡ t
      → value_of (record { store = s; trace = trace }) after
      ≡ with_event (record (value_of old o) { store = t; owner = after }) happened
  value_noted trace s t happened o after is same =
      ap (λ (x : RecordValue). value_of (record { store = s; trace = x }) after)
      (is ∙ ap (λ (x : Machine). noted x.trace happened) room)
      ∙ ap (λ (x : Store).
      value_of (record { store = x; trace = noted (with_room old.trace events values) happened }) after) same

  pub store_kept : mid.store ≡ old.store
  store_kept = ap (λ (x : Machine). x.store) room

-- it is counted
pub value_counted : (old new : Machine) (o : OwnerState) → new.trace ≡ old.trace
    → value_of new o ≡ record (value_of old o) { store = new.store }
value_counted old new o same = ap (λ (x : RecordValue). value_of (record { store = new.store; trace = x }) o) same

module _ {I : Type 0} (owning : I → OwnerState) (since : I → List Entry) (c : Core I) where
  pub same_counted : (m : Machine) → m.trace ≡ c.machine.trace
      → StaysItself owning since c (record c { machine = m })
  same_counted m same = record {
    system = refl;
    process = refl;
    who = ap (λ (x : RecordValue). identity_of x) same;
    port = refl;
    pid = refl;
    since = refl;
  }

  pub same_counted_on : (m : Machine) → m.trace ≡ c.machine.trace → (n : CoreValue)
      → IsSameInstance (seen owning since (record c { machine = m })) n → IsSameInstance (seen owning since c) n
  same_counted_on m same n then =
      same_on (seen owning since c) (seen owning since (record c { machine = m })) n (same_counted m same) then

  pub going_counted : (m : Machine) → m.trace ≡ c.machine.trace → GoesOn owning since c
      → GoesOn owning since (record c { machine = m })
  going_counted m same going =
      let Room : RecordValue → Type 0 = λ x. 0 < x.room in
      record {
        room = subst Room (sym same) going.room;
        alive = going.alive;
        own = going.own ∙ ap (λ (x : RecordValue). x.pid) (sym same);
      }

  -- the same, for a core of which only the store is another
  pub same_stored : (e : Core I) (s : Store) → e ≡ record c { machine = record c.machine { store = s } }
      → StaysItself owning since c e
  same_stored e s is =
      let Same : Core I → Type 0 = λ x. StaysItself owning since c x in
      subst Same (sym is) (same_counted (record c.machine { store = s }) refl)

  pub going_stored : (e : Core I) (s : Store) → e ≡ record c { machine = record c.machine { store = s } }
      → GoesOn owning since c → GoesOn owning since e
  going_stored e s is going =
      let Going : Core I → Type 0 = λ x. GoesOn owning since x in
      subst Going (sym is) (going_counted (record c.machine { store = s }) refl going)

  pub work_stored : (e : Core I) (s : Store) → e ≡ record c { machine = record c.machine { store = s } }
      → value_of e.machine (owning e.inbox) ≡ record (value_of c.machine (owning c.inbox)) { store = s }
  work_stored e s is = ap (λ (x : Core I). value_of x.machine (owning x.inbox)) is

  -- nothing is another
  pub work_same : (e : Core I) → e ≡ c → value_of e.machine (owning e.inbox) ≡ value_of c.machine (owning c.inbox)
  work_same e is = ap (λ (x : Core I). value_of x.machine (owning x.inbox)) is

  -- an event is told: `x` is the record before
  pub same_told : (m : Machine) (x : RecordValue) (happened : Event) → m.trace ≡ noted x happened
      → x ≡ c.machine.trace → StaysItself owning since c (record c { machine = m })
  same_told m x happened told is = record {
    system = refl;
    process = refl;
    who = ap (λ (t : RecordValue). identity_of t) (told ∙ ap (λ (t : RecordValue). noted t happened) is);
    port = refl;
    pid = refl;
    since = refl;
  }

  pub going_told : (m : Machine) (x : RecordValue) (happened : Event) → m.trace ≡ noted x happened
      → x ≡ c.machine.trace → 2 ≤ c.machine.trace.room → GoesOn owning since c
      → GoesOn owning since (record c { machine = m })
  going_told m x happened told is two going =
      let same : m.trace ≡ noted c.machine.trace happened = told ∙ ap (λ (t : RecordValue). noted t happened) is in
      let left : 0 < c.machine.trace.room - 1 = omega (arith, two) in
      let Room : RecordValue → Type 0 = λ t. 0 < t.room in
      record {
        room = subst Room (sym same) left;
        alive = going.alive;
        own = going.own ∙ ap (λ (t : RecordValue). t.pid) (sym same);
      }

  -- what holds of one core holds of the same
  pub amid_as : (k : CoreValue) (e : Core I) → e ≡ c → IsAmid k (seen owning since c) → IsAmid k (seen owning since e)
  amid_as k e is amid = let Of : Core I → Type 0 = λ x. IsAmid k (seen owning since x) in subst Of (sym is) amid

  -- an event is recorded
  pub amid_noted : (m : Machine) (s : Store) (happened : Event) (room values_room : ℕ)
      → m ≡ record c.machine { store = s; trace = with_room (noted c.machine.trace happened) room values_room }
      → s.done ≡ c.machine.store.done → 0 < m.trace.room → GoesOn owning since c
      → StaysAmid owning since c (record c { machine = m })
  amid_noted m s happened room values_room is done some going = record {
    same = record {
      system = refl;
      process = refl;
      who = ap (λ (x : Machine). identity_of x.trace) is;
      port = refl;
      pid = refl;
      since = refl;
    };
    going = record {
      room = some;
      alive = going.alive;
      own = going.own ∙ ap (λ (x : Machine). x.trace.pid) (sym is);
    };
    done = ap (λ (x : Machine). x.store.done) is ∙ done;
  }

  -- none is, for want of room
  pub amid_roomier : (m : Machine) (room values_room : ℕ)
      → m ≡ record c.machine { trace = with_room c.machine.trace room values_room }
      → c.machine.trace.room ≤ m.trace.room → GoesOn owning since c
      → StaysAmid owning since c (record c { machine = m })
  amid_roomier m room values_room is more going = record {
    same = record {
      system = refl;
      process = refl;
      who = ap (λ (x : Machine). identity_of x.trace) is;
      port = refl;
      pid = refl;
      since = refl;
    };
    going = record {
      room = let some : 0 < c.machine.trace.room = going.room in omega (arith, some, more);
      alive = going.alive;
      own = going.own ∙ ap (λ (x : Machine). x.trace.pid) (sym is);
    };
    done = ap (λ (x : Machine). x.store.done) is;
  }

-- ---- the end

pub same_failed : (k l : CoreValue) (why : Failure) → l ≡ failed why k → IsSameInstance k l
same_failed k l why is = record {
  system = ap (λ (x : CoreValue). x.system) is;
  process = ap (λ (x : CoreValue). x.process) is;
  who = ap (λ (x : CoreValue). x.work.who) is;
  port = ap (λ (x : CoreValue). x.work.owner.port) is;
  pid = ap (λ (x : CoreValue). x.work.owner.pid) is;
  since = ap (λ (x : CoreValue). x.since) is;
}
