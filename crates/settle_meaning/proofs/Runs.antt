-- Runs hear what is drawn, and rest for good.
use Rattle.std.proofs.Common.{◌≡◌, append_assoc, append-nil, refl, true, List, [], ◌∷◌, ◌++◌}
use Rattle.port_model.specs.History.{PortEvent, Take}
use Rattle.port_model.specs.Port.{PortState}
use Rattle.port_model.specs.declared.selection.Class.{Class}
use Rattle.port_model.specs.declared.taken.Taken.TheVariants.{Nothing}
use Rattle.run_record.specs.declared.evaluation.identity.Identity.{Identity}
use Rattle.run_record.specs.declared.evaluation.store.Store.{Store}
use Rattle.run_semantics.proofs.Outside.{Runs-drawn}
use Rattle.run_semantics.specs.ControlPoint.{Closed, ControlPoint, Definition, In}
use Rattle.run_semantics.specs.Effect.{Deed}
use Rattle.run_semantics.specs.Goes.{drawn_as}
use Rattle.run_semantics.specs.Leads.{IsQuiet}
use Rattle.run_semantics.specs.Runs.{Runs, acts, waits}
use Rattle.sdl_system.specs.declared.id.StateId.{StateId}
use Rattle.settle_meaning.proofs.Drawn.{drawn_expiries}
use Rattle.settle_meaning.specs.MeaningLaws.{RestsAreForGood, RunsHearWhatIsDrawn, rest_deed}

pub runs_hear_what_is_drawn : RunsHearWhatIsDrawn
runs_hear_what_is_drawn d who from to s t q r deeds history pid news runs =
    Runs-drawn d who from s q deeds history to t r pid news runs

-- a take that finds nothing, and then the rest
closes : (d : Definition) (who : Identity) (from : ControlPoint) (n : StateId) (s t : Store) (q r : PortState)
    (deeds : List Deed) (history : List PortEvent) (classes : List Class)
    → Runs d who from s q deeds history (In n) t r → r.alive ≡ true → IsQuiet d who r n t classes
    → Runs d who from s q (deeds ++ rest_deed n ∷ []) (history ++ Take classes Nothing ∷ []) Closed t r
closes d who from n s t q r deeds history classes runs alive quiet =
    rw (← append-nil (history ++ Take classes Nothing ∷ []))
    (acts (waits runs classes quiet (alive, quiet.nothing)) (rest_deed n) Closed t r
    (refl, refl, refl, refl, refl, (classes, quiet)) refl)

pub rests_are_for_good : RestsAreForGood
rests_are_for_good d who from n s t q r deeds history classes pid news runs alive quiet none = record {
  runs = rw (← append_assoc history (Take classes Nothing ∷ []) (drawn_as pid news))
      (Runs-drawn d who from s q (deeds ++ rest_deed n ∷ []) (history ++ Take classes Nothing ∷ []) Closed t r pid news
      (closes d who from n s t q r deeds history classes runs alive quiet));
  found = record {
    before = history;
    classes = classes;
    later = drawn_as pid news;
    was = refl;
    expiries = drawn_expiries pid news none;
  };
}
