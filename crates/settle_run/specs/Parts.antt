-- What is left of a run whose records are closed (Z.101: system).
use Rattle.std.specs.Prelude.{◌≡◌, ◌+◌, ℕ, Bool, List, [], ◌∷◌, Option, length, map, slice_index_or}
use Rattle.std.specs.declared.alloc.Global.{Global}
use Rattle.crossbeam_queue.specs.SegTies.{SegId}
use Rattle.input_port.specs.Ends.{HeldState}
use Rattle.input_port.specs.Held.{IsKept}
use Rattle.port_model.specs.Ends.{OwnerState, no_port}
use Rattle.input_port.specs.QueueEnds.{newborn}
use Rattle.port_model.specs.declared.values.item.Item.{Item}
use Rattle.port_model.specs.declared.course.course_log.CourseLog.{CourseLog}
use Rattle.run_record.specs.Record.{RecordValue}
use Rattle.sdl_system.specs.System.{SystemValue}
use Rattle.settle_checks.specs.Account.{AllAt}
use Rattle.settle_closing.specs.History.{EndsAs}
use Rattle.settle_closing.specs.Left.{ClosingState, IsLeftOfOne}
use Rattle.settle_closing.specs.PortThen.{then_of}
use Rattle.settle_closing.specs.declared.ending.PortThen.{PortThen}
use Rattle.settle_checks.specs.Gathering.{IsCounted}
use Rattle.settle_run.specs.Gifts.{children_at, given_at}
use Rattle.threads_instance.specs.declared.doings.Gifts.{Gifts}
use Rattle.threads_ports.specs.Peers.{PeersState}

-- the owner of a port, by its place among the records
abbrev pub owner_at : List HeldState → ℕ → OwnerState
owner_at inboxes k = (slice_index_or inboxes k (record { owner = newborn no_port 0; since = [] })).owner

-- what was known of each port as its record was closed
abbrev pub AreThensOf : (ℕ → OwnerState) → List PortThen → Type 0
AreThensOf owners thens = AllAt (λ k (one : PortThen). one ≡ then_of (owners k)) thens

-- The record k, what its instance was given and gave, its port, what was known of the port as the record was closed, and its
-- senders, at the place k + 1, are what is left of one instance. The senders at the place 0 are the environment's.
pub record AreParts (named : Option SystemValue) (ports : ℕ → SegId Global) (whole : Bool) (environment : PeersState)
    (records : List RecordValue) (gifts : List Gifts) (inboxes : List HeldState) (thens : List PortThen)
    (places : List PeersState) : Type 0 where
  pub gifts_long : length gifts ≡ length records
  pub inboxes_long : length inboxes ≡ length records
  pub thens_long : length thens ≡ length records
  pub places_long : length places ≡ length records + 1
  pub environment_is : slice_index_or places 0 [] ≡ environment
  pub left : AllAt (λ k (trace : RecordValue).
      IsLeftOfOne named ports whole trace (owner_at inboxes k) (slice_index_or places (k + 1) []) (given_at gifts k)
      (children_at gifts k)) records
  pub thens_are : AreThensOf (owner_at inboxes) thens

-- ---- of which instances they are

abbrev pub records_of : List ClosingState → List RecordValue
records_of closings = map (λ (closing : ClosingState). closing.trace) closings

abbrev pub logs_of : List ClosingState → List CourseLog
logs_of closings = map (λ (closing : ClosingState). closing.course) closings

abbrev pub owners_of : List ClosingState → List OwnerState
owners_of closings = map (λ (closing : ClosingState). closing.owner) closings

abbrev pub peers_of : List ClosingState → List PeersState
peers_of closings = map (λ (closing : ClosingState). closing.peers) closings

-- the owners of some ports
abbrev pub owners_in : List HeldState → List OwnerState
owners_in inboxes = map (λ (inbox : HeldState). inbox.owner) inboxes

-- the records of these closed instances, what is kept of their courses, the owners of their ports, and their senders, those
-- of the environment first: each in the order of the instances
pub record AreColumnsOf (environment : PeersState) (closings : List ClosingState) (records : List RecordValue)
    (logs : List CourseLog) (inboxes : List HeldState) (places : List PeersState) : Type 0 where
  pub records_are : records ≡ records_of closings
  pub logs_are : logs ≡ logs_of closings
  pub owners_are : owners_in inboxes ≡ owners_of closings
  pub places_are : places ≡ environment ∷ peers_of closings

-- ---- their ports

-- The port of a record was counted, with the senders of so many places, and the record closes as the run ends.
pub record IsSettledPort (put : ℕ → List Item) (places : ℕ) (whole : Bool) (end : ℕ) (first : OwnerState)
    (trace : RecordValue) : Type 0 where
  pub owner : OwnerState
  pub counted : IsCounted put places first owner
  pub kept : IsKept owner
  pub ends : EndsAs whole end trace.events first owner

-- so it is of the port of each record
abbrev pub AreSettledPorts : (ℕ → ℕ → List Item) → (ℕ → OwnerState) → ℕ → Bool → ℕ → List RecordValue → Type 0
AreSettledPorts puts owners places whole end records =
    AllAt (λ k (trace : RecordValue). IsSettledPort (puts trace.pid) places whole end (owners k) trace) records
