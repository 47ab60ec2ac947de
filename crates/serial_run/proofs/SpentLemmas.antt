-- A fuse that is spent stays so by the steps of its instance.
use Rattle.std.proofs.Common.{◌≡◌, true, ℕ, List}
use Rattle.port_model.proofs.Spent.{spent_legal, spent_step}
use Rattle.port_model.specs.History.{PortEvent}
use Rattle.port_model.specs.Port.{PortState, is_spent}
use Rattle.port_model.specs.declared.values.timer_key.TimerKey.{TimerKey}
use Rattle.run_record.specs.declared.evaluation.identity.Identity.{Identity}
use Rattle.run_record.specs.declared.evaluation.store.Store.{Store}
use Rattle.run_semantics.specs.ControlPoint.{ControlPoint, Definition}
use Rattle.run_semantics.specs.Effect.{Deed}
use Rattle.run_semantics.specs.Runs.{Runs, acts, hears, still, turns, waits}

module _ (key : TimerKey) (arm due : ℕ) where
  pub spent_runs : {d : Definition} {who : Identity} {from : ControlPoint} {s : Store} {q : PortState}
      {deeds : List Deed} {history : List PortEvent} {to : ControlPoint} {t : Store} {r : PortState}
      → Runs d who from s q deeds history to t r → is_spent q key arm due ≡ true → is_spent r key arm due ≡ true
  spent_runs still spent = spent
  spent_runs (acts {port = port} run deed to t r leads legal) spent =
      spent_legal key arm due port r deed.calls legal (spent_runs run spent)
  spent_runs (turns run to t step) spent = spent_runs run spent
  spent_runs (hears {port = port} run heard r outside step) spent =
      spent_step key arm due port r heard step (spent_runs run spent)
  spent_runs (waits run classes quiet step) spent = spent_runs run spent
