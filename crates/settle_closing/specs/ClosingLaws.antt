-- Laws of what is left of an instance.
use Rattle.std.specs.Prelude.{◌≡◌, ℕ, Bool, List, [], Option, Some}
use Rattle.std.specs.declared.alloc.Global.{Global}
use Rattle.crossbeam_queue.specs.SegTies.{SegId}
use Rattle.input_port.specs.Held.{IsKept}
use Rattle.port_model.specs.Ends.{OwnerState}
use Rattle.port_model.specs.declared.values.value.Value.{Value}
use Rattle.run_record.specs.Record.{RecordValue}
use Rattle.run_semantics.specs.Behaves.{AreBehaviours}
use Rattle.sdl_interp.specs.Instance.{InstanceValue}
use Rattle.sdl_system.specs.Behaviour.{Behaviour}
use Rattle.sdl_system.specs.System.{SystemValue}
use Rattle.settle_closing.specs.History.{EndsAs, HasHistoryOf}
use Rattle.settle_closing.specs.Left.{IsLeft, IsLeftOfOne}
use Rattle.settle_checks.specs.Gathering.{Draws}
use Rattle.threads_instance.specs.declared.doings.Child.{Child}
use Rattle.threads_ports.specs.Peers.{ArePeersOf, PeersState}

-- What is left of an instance of the system has a history of its port, in which just the signals are put that its owner
-- has drawn in the end.
abbrev pub ClosedHaveHistories : Type 0
ClosedHaveHistories =
    (named : Option SystemValue) (ports : ℕ → SegId Global) (whole : Bool) (i : InstanceValue) (trace : RecordValue)
    (first owner : OwnerState) (peers : PeersState) (given : List Value) (children : List Child) (ps : List Behaviour)
    (system : SystemValue) (end : ℕ)
    → named ≡ Some system → AreBehaviours system ps
    → IsLeft named ports whole i trace first peers given children
    → Draws first owner → IsKept owner → EndsAs whole end trace.events first owner
    → HasHistoryOf ps system whole end trace owner.drawn given children

-- What its senders have put is the end of what the record sends, from the first put on all of it.
abbrev pub ClosedHavePut : Type 0
ClosedHavePut =
    (named : Option SystemValue) (ports : ℕ → SegId Global) (whole : Bool) (i : InstanceValue) (trace : RecordValue)
    (first : OwnerState) (peers : PeersState) (given : List Value) (children : List Child) (ps : List Behaviour)
    (system : SystemValue)
    → named ≡ Some system → AreBehaviours system ps
    → IsLeft named ports whole i trace first peers given children → ArePeersOf trace.pid trace.events peers

-- It is left, too, if its senders are let go.
abbrev pub LeftWithoutPeers : Type 0
LeftWithoutPeers =
    (named : Option SystemValue) (ports : ℕ → SegId Global) (whole : Bool) (trace : RecordValue) (owner : OwnerState)
    (peers : PeersState) (given : List Value) (children : List Child)
    → IsLeftOfOne named ports whole trace owner peers given children
    → IsLeftOfOne named ports whole trace owner [] given children
