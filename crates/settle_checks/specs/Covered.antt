-- No more signals are taken than were sent by then (Z.102: input, output).
use Rattle.std.specs.Prelude.{◌==◌, ◌&&◌, ◌≤◌, ℕ, Bool, List, count_by, nat_le}
use Rattle.port_model.specs.Same.{same_pid}
use Rattle.port_model.specs.declared.values.item.SignalId.{SignalId}
use Rattle.port_model.specs.declared.values.pid.Pid.{Pid}
use Rattle.run_record.specs.Record.{RecordValue}
use Rattle.settle_meaning.specs.Order.{AreTakenAfter}
use Rattle.settle_meaning.specs.OrderLaws.{AreTimesFrom, by_time}
use Rattle.settle_meaning.specs.Times.{AreRisingFrom, Timed, last_of, of_sender, sends, takes, times_of}
use Rattle.settle_checks.specs.Flows.{taken_passes}
use Rattle.settle_checks.specs.declared.summing.flows.Pass.{Pass}

-- the signal has this peer and this name, and passed by this time
abbrev pub is_by : Pid → SignalId → ℕ → Pass → Bool
is_by peer name until pass = same_pid pass.peer peer && ((pass.name.0 == name.0) && nat_le pass.at until)

-- of these signals those of each name are in the order of their times
abbrev pub AreInTurn : List Timed → Type 0
AreInTurn signals = (name : SignalId) → AreTimesFrom 0 (times_of name signals)

-- If by each time no more signals of a name were taken from a sender than it has sent, none is taken before it was sent.
abbrev pub CoveredAreInOrder : Type 0
CoveredAreInOrder =
    (signals : List Timed) (to : RecordValue) (origin : Pid) → AreInTurn signals → AreRisingFrom 0 to.events
    → ((name : SignalId) (until : ℕ)
    → count_by (is_by origin name until) (taken_passes to.events) ≤ by_time until (times_of name signals))
    → AreTakenAfter signals (of_sender origin (takes to))

-- The last so many signals that a record sends to an instance are in the order of their times, if its times never fall.
abbrev pub SendsAreInTurn : Type 0
SendsAreInTurn =
    (from : RecordValue) (number put : ℕ) → AreRisingFrom 0 from.events → AreInTurn (last_of put (sends from number))
