-- Two runs, of which the second begins where the first ends, are one run, and what comes from outside is heard.
use Rattle.std.proofs.Common.{List, [], ◌∷◌, ◌++◌, All, append_assoc, append-nil}
use Rattle.std.proofs.lemmas.List.Elements.{All-head, All-tail}
use Rattle.port_model.specs.History.{IsLegal, PortEvent, Take}
use Rattle.port_model.specs.Laws.{IsFromOutside}
use Rattle.port_model.specs.Port.{PortState}
use Rattle.port_model.specs.declared.taken.Taken.TheVariants.{Nothing}
use Rattle.run_record.specs.declared.evaluation.identity.Identity.{Identity}
use Rattle.run_record.specs.declared.evaluation.store.Store.{Store}
use Rattle.run_semantics.specs.Effect.{Deed}
use Rattle.run_semantics.specs.ControlPoint.{Definition, ControlPoint}
use Rattle.run_semantics.specs.Runs.{Runs, still, acts, turns, hears, waits}

module _ (d : Definition) (who : Identity) (from : ControlPoint) (s : Store) (q : PortState) (deeds : List Deed)
    (history : List PortEvent) (mid : ControlPoint) (t : Store) (r : PortState) where
  pub Runs-append : {later : List Deed} {calls : List PortEvent} {to : ControlPoint} {u : Store} {end : PortState}
      → Runs d who from s q deeds history mid t r → Runs d who mid t r later calls to u end
      → Runs d who from s q (deeds ++ later) (history ++ calls) to u end
  Runs-append first still = rw (append-nil deeds, append-nil history) first
  Runs-append first (acts {deeds = ds} {history = hs} before deed to u end leads legal) =
      rw (← append_assoc deeds ds (deed ∷ []), ← append_assoc history hs deed.calls)
      (acts (Runs-append first before) deed to u end leads legal)
  Runs-append first (turns before to u turn) = turns (Runs-append first before) to u turn
  Runs-append first (hears {history = hs} before heard end outside step) =
      rw (← append_assoc history hs (heard ∷ [])) (hears (Runs-append first before) heard end outside step)
  Runs-append first (waits {history = hs} before classes quiet step) =
      rw (← append_assoc history hs (Take classes Nothing ∷ [])) (waits (Runs-append first before) classes quiet step)

-- Events from outside, each of which leads on from the port that the one before left, are heard.
module _ (d : Definition) (who : Identity) (from : ControlPoint) (s : Store) (q : PortState) (deeds : List Deed) where
  pub Runs-hear : (history : List PortEvent) (mid : ControlPoint) (t : Store) (r : PortState) (heard : List PortEvent)
      (end : PortState) → Runs d who from s q deeds history mid t r → All IsFromOutside heard → IsLegal r heard end
      → Runs d who from s q deeds (history ++ heard) mid t end
  Runs-hear history mid t r [] end runs outside legal = rw (append-nil history, legal) runs
  Runs-hear history mid t r (event ∷ rest) end runs outside legal =
      rw (← append_assoc history (event ∷ []) rest)
      (Runs-hear (history ++ event ∷ []) mid t legal.0 rest end
      (hears runs event legal.0 (All-head IsFromOutside event rest outside) legal.1)
      (All-tail IsFromOutside event rest outside) legal.2)
