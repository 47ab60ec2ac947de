use Rattle.std.proofs.Common.{◌≡◌}
use Rattle.std.specs.Iterator.Adapters.{zip_first, zip_second}
use Rattle.std.specs.Slice.Iter.{iter_rest}
use Rattle.run_record.specs.declared.evaluation.store.Store.{Store}
use Rattle.sdl_failures.specs.Received.{received}
use Rattle.sdl_failures.proofs.replayed.reception.misfit_of.Given as goal

abbrev pub invariant-loop-variable : goal.invariant-loop-variable
invariant-loop-variable l =
    (s : Store) → (t : Store) × (received l.process l.variables l.values s
    ≡ received l.process (iter_rest (zip_first l.variable-iterator)) (iter_rest (zip_second l.variable-iterator)) t)
