-- What was put from all places and taken by all, as signals on their way (Z.102: input, output).
use Rattle.std.specs.Prelude.{◌≡◌, ◌+◌, ◌-◌, ◌≤◌, ◌++◌, ◌∷◌, ℕ, List, [], All, count_by, drop, length, slice_index_or, take}
use Rattle.port_model.specs.declared.values.item.SignalId.{SignalId}
use Rattle.port_model.specs.declared.values.pid.Pid.{Pid}
use Rattle.port_model.specs.declared.values.pid.Pid.TheVariants.{Env, Of}
use Rattle.run_record.specs.Record.{RecordValue}
use Rattle.sdl_script.specs.declared.script.ScriptLine.{ScriptLine}
use Rattle.std.specs.List.{flat_map}
use Rattle.settle_checks.specs.Account.{AllAt, HaveSignals}
use Rattle.settle_meaning.specs.Order.{AreBeforeCreate, heard_from, times_heard}
use Rattle.settle_meaning.specs.OrderLaws.{by_time}
use Rattle.settle_meaning.specs.Puts.{Heard}
use Rattle.settle_meaning.specs.Times.{Timed, all_but, last_of, sends, times_of}
use Rattle.settle_checks.specs.Covered.{AreInTurn, is_by}
use Rattle.settle_checks.specs.Crossings.{crossed, crossing_out, is_on}
use Rattle.settle_checks.specs.Flows.{counted, is_with, passes_to, taken_passes}
use Rattle.settle_checks.specs.Late.{IsLate, passes_with}
use Rattle.settle_checks.specs.Totals.{Table, total}
use Rattle.settle_checks.specs.declared.summing.creating.Birth.{Birth}
use Rattle.settle_checks.specs.declared.summing.crossings.Crossing.{Crossing}
use Rattle.settle_checks.specs.declared.summing.flows.Flow.{Flow}
use Rattle.settle_checks.specs.declared.summing.flows.Pass.{Pass}
use Rattle.settle_checks.specs.declared.summing.summary.Summary.{Summary}
use Rattle.threads_ports.specs.Peers.{PeersState, put_to}

-- ---- one sender

-- Of these signals to the instance the last so many were put. The others were sent at the time of its create at the
-- latest, and no more of these are on their way than were put.
pub record IsCrossed (records : List RecordValue) (to : RecordValue) (origin : Pid) (signals : List Timed) (put : ℕ)
    (all : List Crossing) : Type 0 where
  pub missing : AreBeforeCreate records to.pid (all_but put signals)
  pub in_turn : AreInTurn (last_of put signals)
  pub sent : (name : SignalId) (until : ℕ)
      → crossed (is_on origin to.pid name until) all ≤ by_time until (times_of name (last_of put signals))

-- ---- one sender, by flows

-- the time is that of each birth of the number at the latest
abbrev pub IsBornAfter : ℕ → ℕ → Summary → Type 0
IsBornAfter number born sum =
    All (λ (birth : Birth). birth.number ≡ number → born ≤ birth.at) sum.creating.births.items

-- of these signals so many to the number are missing, if so many were put
abbrev pub missing_of : ℕ → ℕ → List Pass → ℕ
missing_of number put passes = length (passes_with number passes) - put

-- Of these signals to the number the last so many were put, and the flows have them. The others were sent at the time of
-- its create at the latest.
pub record IsFlowPut (sums : List Summary) (passes : List Pass) (number put : ℕ) (flows : List Flow) : Type 0 where
  pub born : ℕ
  pub is_born : All (IsBornAfter number born) sums
  pub early : All (λ (pass : Pass). pass.at ≤ born)
      (take (missing_of number put passes) (passes_with number passes))
  pub rest : (name : SignalId) (until : ℕ)
      → counted (is_by (Of number) name until) flows
      ≡ count_by (is_by (Of number) name until) (drop (missing_of number put passes) (passes_with number passes))

abbrev pub AreFlowsPut : List RecordValue → List Summary → List Pass → PeersState → List Flow → Type 0
AreFlowsPut records sums passes peers flows =
    All (λ (to : RecordValue). IsFlowPut sums passes to.pid (length (put_to peers to.pid)) flows) records

-- how many of the signals go to each number
abbrev pub AreTotalsOf : List Pass → Table → Type 0
AreTotalsOf passes totals = (number : ℕ) → total totals number ≡ count_by (is_with number) passes

-- Of these signals of a sender those to the number are added except the first `missing` ones, which were sent at the time of
-- its create at the latest.
pub record IsRestSent (origin : Pid) (passes : List Pass) (number missing : ℕ) (sums : List Summary)
    (old new : List Crossing) : Type 0 where
  pub born : ℕ
  pub flows : List Flow
  pub late : IsLate passes number missing born flows
  pub is_born : All (IsBornAfter number born) sums
  pub added : new ≡ old ++ flat_map (crossing_out origin) flows

-- of these signals of a sender those are added that were put
pub record IsSentBy (records : List RecordValue) (sums : List Summary) (origin : Pid) (passes : List Pass)
    (peers : PeersState) (old new : List Crossing) : Type 0 where
  pub flows : List Flow
  pub put : AreFlowsPut records sums passes peers flows
  pub added : new ≡ old ++ flat_map (crossing_out origin) flows

-- ---- the environment

-- what it sends to instances, each signal with the time of its line
abbrev pub heard_passes : List ℕ → List Heard → List Pass
heard_passes [] heard = []
heard_passes (at ∷ times) [] = []
heard_passes (at ∷ times) (one ∷ heard) =
    passes_to at one.signal.item.name one.target ++ heard_passes times heard

-- Once the signals of so many were looked at, and the lines before these: of those that are left it is known which lines
-- have them, and all together are what was found and what is left.
pub record IsHeardRest (lines : List ScriptLine) (heard : List Heard) (all : List Pass) (place : ℕ)
    (passes : List Pass) : Type 0 where
  pub signals : HaveSignals (drop place heard) lines
  pub rest : all ≡ passes ++ heard_passes (times_heard lines) (drop place heard)

-- what it sends and its senders have put is on its way
abbrev pub IsHeardCrossed : List ScriptLine → List Heard → List RecordValue → PeersState → List Crossing → RecordValue
    → Type 0
IsHeardCrossed lines heard records peers all to =
    IsCrossed records to Env (heard_from (times_heard lines) heard to.pid) (length (put_to peers to.pid)) all

-- and nobody else's
pub record AreHeardAlone (lines : List ScriptLine) (heard : List Heard) (records : List RecordValue) (peers : PeersState)
    (all : List Crossing) : Type 0 where
  pub heard_put : All (IsHeardCrossed lines heard records peers all) records
  pub no_other : (number to : ℕ) (name : SignalId) (until : ℕ) → crossed (is_on (Of number) to name until) all ≡ 0

abbrev pub AreHeardCrossed : List ScriptLine → List Heard → List RecordValue → List PeersState → List Crossing → Type 0
AreHeardCrossed lines heard records places all =
    AreHeardAlone lines heard records (slice_index_or places 0 []) all

-- ---- all senders

pub record AreCrossed (lines : List ScriptLine) (heard : List Heard) (records : List RecordValue)
    (places : List PeersState) (all : List Crossing) : Type 0 where
  pub environment : All (IsHeardCrossed lines heard records (slice_index_or places 0 []) all) records
  pub instances : All (λ (to : RecordValue). AllAt (λ k (from : RecordValue).
      IsCrossed records to (Of from.pid) (sends from to.pid)
      (length (put_to (slice_index_or places (k + 1) []) to.pid)) all) records) records

-- ---- takes

-- what each record takes of each sender is among these
abbrev pub AreTakenIn : List RecordValue → List Crossing → Type 0
AreTakenIn records all =
    All (λ (to : RecordValue). (origin : Pid) (name : SignalId) (until : ℕ)
    → count_by (is_by origin name until) (taken_passes to.events) ≤ crossed (is_on origin to.pid name until) all) records
