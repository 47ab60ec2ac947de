-- What the senders have put, by what was sent; and as an instance is closed.
use Rattle.std.proofs.Common.{◌≡◌, ◌∙◌, ◌==◌, ap, append-nil, cond, refl, sym, subst, ℕ, Bool, true, false, List, [], ◌∷◌, ◌++◌, All}
use Rattle.std.proofs.lemmas.Grind.{flat_map-append}
use Rattle.std.proofs.lemmas.List.Elements.{All-append, All-cons, All-nil, All-tail}
use Rattle.port_model.specs.declared.values.item.Item.{Item}
use Rattle.port_model.specs.declared.values.pid.Pid.TheVariants.{Of}
use Rattle.sdl_interp.specs.Instance.{InstanceValue, IsClosed, IsRunAs, closing}
use Rattle.threads_instance.specs.Outbox.{AreEnds}
use Rattle.threads_instance.specs.ThreadInstance.{HasPut, HasSent}
use Rattle.threads_ports.proofs.SendersKept.{last_none, last_of_same}
use Rattle.threads_ports.specs.Peers.{AreLast, ArePeersOf, PeersState, put_to}
use Rattle.threads_ports.specs.Rows.{EndsWith}
use Rattle.run_record.specs.Event as event
use Rattle.run_record.specs.Event.{Event}
use Rattle.run_record.specs.Record.{RecordValue}
use Rattle.run_semantics.specs.ControlPoint.{Definition}
use Rattle.run_semantics.specs.Sent.{sent_by_one, sent_to}
use Rattle.run_semantics.specs.World.{has_port}
use Rattle.sdl_interp.specs.declared.transitions.machine.Position.{Position}
use Rattle.sdl_interp.specs.declared.transitions.machine.Position.TheVariants as at
use Rattle.sdl_system.specs.declared.route.Target.TheVariants.{Instance}

-- ---- the end of what is sent

module _ (who number : ℕ) where
  -- the signal is of this instance
  abbrev IsOwn : Item → Type 0
  IsOwn item = item.sender ≡ Of who

  own_by : (b : Bool) (item : Item) → IsOwn item → All IsOwn (cond b (item ∷ []) [])
  own_by true item own = All-cons IsOwn item [] own (All-nil IsOwn)
  own_by false item own = All-nil IsOwn

  one_own : (e : Event) → All IsOwn (sent_by_one who number e)
  one_own (event.Output signal named values (Instance to)) =
      own_by (to == number) (record { name = signal; values = values; sender = Of who }) refl
  one_own happened = All-nil IsOwn

  all_own : (events : List Event) → All IsOwn (sent_to who events number)
  all_own [] = All-nil IsOwn
  all_own (e ∷ rest) = All-append IsOwn (sent_by_one who number e) (sent_to who rest number) (one_own e) (all_own rest)

  end_own : (missing put : List Item) → All IsOwn (missing ++ put) → All IsOwn put
  end_own [] put all = all
  end_own (x ∷ missing) put all = end_own missing put (All-tail IsOwn x (missing ++ put) all)

  no_end : (missing put : List Item) → [] ≡ missing ++ put → put ≡ []
  no_end [] put is = sym is
  no_end (x ∷ missing) put is = absurd cc

  last_by : (events : List Event) (put : List Item) (b : Bool) → EndsWith (cond b (sent_to who events number) []) put
      → AreLast (Of who) (sent_to who events number) put
  last_by events put true ends = record {
    own = end_own ends.0 put (subst (λ l. All IsOwn l) ends.1 (all_own events));
    end = ends;
  }
  last_by events put false ends =
      subst (AreLast (Of who) (sent_to who events number)) (sym (no_end ends.0 put ends.1))
      (last_none (Of who) (sent_to who events number))

pub has_put : (i : InstanceValue) (sent : List (ℕ × Item)) (peers : PeersState) → AreEnds sent peers → HasSent i sent
    → HasPut i peers
has_put i sent peers ends has d is_run number =
    last_by i.who.pid number i.events (put_to peers number) (has_port number)
    ((ends number).0, sym (has d is_run number) ∙ (ends number).1)

-- ---- what closes a record

closing_sends : (who number : ℕ) (whole : Bool) (position : Position) → sent_to who (closing whole position) number ≡ []
closing_sends who number true at.BeforeStart = refl
closing_sends who number false at.BeforeStart = refl
closing_sends who number true (at.In state) = refl
closing_sends who number false (at.In state) = refl
closing_sends who number true at.Ended = refl
closing_sends who number false at.Ended = refl

closed_sends : (who number : ℕ) (whole : Bool) (position : Position) (events : List Event)
    → sent_to who (events ++ closing whole position) number ≡ sent_to who events number
closed_sends who number whole position events =
    flat_map-append (sent_by_one who number) events (closing whole position)
    ∙ ap (λ l. sent_to who events number ++ l) (closing_sends who number whole position)
    ∙ append-nil (sent_to who events number)

pub closed_peers : (shared whole : Bool) (i : InstanceValue) (trace : RecordValue) (peers : PeersState)
    → IsClosed shared whole i trace → HasPut i peers → (d : Definition) → IsRunAs i d
    → ArePeersOf trace.pid trace.events peers
closed_peers shared whole i trace peers closed put d is_run number =
    subst (λ (who : ℕ). AreLast (Of who) (sent_to who trace.events number) (put_to peers number)) (sym closed.pid)
    (last_of_same (Of i.who.pid) (sent_to i.who.pid i.events number) (sent_to i.who.pid trace.events number)
    (put_to peers number)
    (ap (λ events. sent_to i.who.pid events number) closed.events
    ∙ closed_sends i.who.pid number whole i.position i.events)
    (put d is_run number))
