-- A run is on a legal history.
use Rattle.std.proofs.Common.{refl, List, [], ◌∷◌}
use Rattle.port_model.proofs.Histories.{IsLegal-append}
use Rattle.port_model.specs.History.{IsLegal, PortEvent, Take}
use Rattle.port_model.specs.Port.{PortState}
use Rattle.port_model.specs.declared.taken.Taken.TheVariants.{Nothing}
use Rattle.run_record.specs.declared.evaluation.identity.Identity.{Identity}
use Rattle.run_record.specs.declared.evaluation.store.Store.{Store}
use Rattle.run_semantics.specs.Effect.{Deed}
use Rattle.run_semantics.specs.ControlPoint.{Definition, ControlPoint}
use Rattle.run_semantics.specs.RunLaws.{InstancesHaveHistories, RunsAreLegal}
use Rattle.run_semantics.specs.Runs.{Runs, still, acts, turns, hears, waits}

module _ (d : Definition) (who : Identity) (from : ControlPoint) (s : Store) (q : PortState) where
  is_legal : {deeds : List Deed} {history : List PortEvent} {to : ControlPoint} {t : Store} {r : PortState}
      → Runs d who from s q deeds history to t r → IsLegal q history r
  is_legal still = refl
  is_legal (acts {history = hs} {port = p} before deed to t r leads legal) =
      IsLegal-append q p r hs deed.calls (is_legal before) legal
  is_legal (turns before to t turn) = is_legal before
  is_legal (hears {history = hs} {port = p} before heard r outside step) =
      IsLegal-append q p r hs (heard ∷ []) (is_legal before) (r, step, refl)
  is_legal (waits {history = hs} {port = p} before classes quiet step) =
      IsLegal-append q p p hs (Take classes Nothing ∷ []) (is_legal before) (p, step, refl)

pub runs_are_legal : RunsAreLegal
runs_are_legal d who from to s t q r deeds history runs = is_legal d who from s q runs

pub instances_have_histories : InstancesHaveHistories
instances_have_histories d who events place s owner run =
    (run.history, is_legal d who _ _ _ run.runs, run.outside refl)
