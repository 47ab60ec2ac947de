-- All records and ports of a run.
use Rattle.std.specs.Prelude.{◌≡◌, ◌==◌, ◌-◌, ℕ, zero, suc, nat_lt, Bool, true, false, ◌&&◌, not, List, None, Option, Some, drop, if◌then◌else◌, slice_get, slice_index, slice_set}
use Rattle.port_model.specs.declared.values.pid.Pid.{Pid}
use Rattle.port_model.specs.declared.values.pid.Pid.TheVariants.{Null}
use Rattle.run_record.specs.Record.{RecordValue}
use Rattle.run_tracks.specs.ByNumber.{lowered}
use Rattle.run_tracks.specs.PortTrack.{PortState, after_step, is_look, without_loss}
use Rattle.run_tracks.specs.RosterTurns.{IsTurn, TurnsState, after_turn, needed, with_wait}
use Rattle.run_tracks.specs.Track.{IsTold, TrackState, is_closing}
use Rattle.run_tracks.specs.Waiting.{WaitingList}
use Rattle.run_tracks.specs.declared.roster_turns.Turn.{Turn}

-- The records and the ports of the instances, by ascending number, the first one with the number 1; whose turn it is to
-- see or change who lives; and how many records aren't told.
pub record TracksState : Type 0 where
  pub records : List TrackState
  pub ports : List PortState
  pub roster : TurnsState
  pub left : ℕ

-- ---- by number

abbrev pub at_number : {X : Type 0} → List X → ℕ → Option X
at_number list zero = None
at_number list (suc place) = slice_get list place

-- the one of a number is changed in this way, if there is one
abbrev pub changed_there : {X : Type 0} → (X → X) → List X → ℕ → Option X → List X
changed_there change list place None = list
changed_there change list place (Some one) = slice_set list place (change one)

abbrev pub changed_at : {X : Type 0} → (X → X) → List X → ℕ → List X
changed_at change list zero = list
changed_at change list (suc place) = changed_there change list place (slice_get list place)

-- ---- events

-- one record less has events left, if just what closes it is left now
abbrev pub closed : TrackState → TrackState → ℕ
closed old new = if not (is_closing old.next) && is_closing new.next then 1 else 0

-- the next event of the record at a place is told, unless nothing is left but what closes it
pub record IsToldThere (old : TracksState) (place : ℕ) (t : TrackState) (new : TracksState) : Type 0 where
  pub after : TrackState
  pub told : IsTold t after
  pub now : new ≡ record old { records = slice_set old.records place after; left = old.left - closed t after }

-- so it is with that of a number, if there is one
abbrev pub IsToldBy : Option TrackState → TracksState → ℕ → TracksState → Type 0
IsToldBy None old place new = new ≡ old
IsToldBy (Some t) old place new = IsToldThere old place t new

abbrev pub IsToldAt : TracksState → ℕ → TracksState → Type 0
IsToldAt old zero new = new ≡ old
IsToldAt old (suc place) new = IsToldBy (slice_get old.records place) old place new

-- ---- steps

abbrev pub drawn_less : TrackState → TrackState
drawn_less t = record t { drawn = drop 1 t.drawn }

abbrev pub stepped : ℕ → TracksState → TracksState
stepped number s = record s {
  records = changed_at drawn_less s.records number;
  ports = changed_at after_step s.ports number;
}

-- it was a look at the port, if there is one
abbrev pub is_look_at : Option PortState → Bool
is_look_at None = false
is_look_at (Some p) = is_look p

-- ---- who lives

-- the version that the next event of a record sees or makes
abbrev pub version_in : Option TrackState → Option ℕ
version_in None = None
version_in (Some t) = slice_get t.versions 0

-- that event may be told now
abbrev pub IsTurnIn : TurnsState → Turn → Option ℕ → Type 0
IsTurnIn roster turn None = ⊥
IsTurnIn roster turn (Some version) = IsTurn roster turn version

abbrev pub IsTurnOf : TracksState → ℕ → Turn → Type 0
IsTurnOf s number turn = IsTurnIn s.roster turn (version_in (at_number s.records number))

abbrev pub waits_for : Option ℕ → ℕ → Turn → TurnsState → TurnsState
waits_for None number turn roster = roster
waits_for (Some version) number turn roster = with_wait (needed turn version) number roster

abbrev pub waiting_for : ℕ → Turn → TracksState → TracksState
waiting_for number turn s =
    record s { roster = waits_for (version_in (at_number s.records number)) number turn s.roster }

abbrev pub with_waits : WaitingList → TracksState → TracksState
with_waits waits s = record s { roster = record (s.roster) { waiting = waits } }

-- it is told
abbrev pub versions_less : TrackState → TrackState
versions_less t = record t { versions = drop 1 t.versions }

abbrev pub turned : ℕ → Turn → TracksState → TracksState
turned number turn s =
    record s { records = changed_at versions_less s.records number; roster = after_turn turn s.roster }

-- the instances with which the system begins
abbrev pub is_null : Pid → Bool
is_null Null = true
is_null other = false

abbrev pub is_first : RecordValue → Bool
is_first r = is_null r.parent

-- ---- what is lost

abbrev pub loses_in : Option TrackState → ℕ → Bool
loses_in None receiver = false
loses_in (Some t) receiver = nat_lt 0 (slice_index t.lost receiver)

-- a signal of a sender to a receiver is to be lost
abbrev pub loses : ℕ → ℕ → TracksState → Bool
loses sender receiver s = loses_in (at_number s.records sender) receiver

abbrev pub not_losing : ℕ → TrackState → TrackState
not_losing receiver t = record t { lost = lowered t.lost receiver }

-- one less is to be lost of both, if one is
abbrev pub without : ℕ → ℕ → TracksState → TracksState
without sender receiver s =
    if loses sender receiver s
    then record s {
      records = changed_at (not_losing receiver) s.records sender;
      ports = changed_at without_loss s.ports receiver;
    }
    else record s { records = changed_at (not_losing receiver) s.records sender }

-- no more are to be lost before it is there
abbrev pub is_last : Option PortState → Bool
is_last None = false
is_last (Some p) = not (nat_lt 0 p.lost)
