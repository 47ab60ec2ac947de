use Rattle.std.proofs.Common.{◌≡◌, ◌||◌, drop}
use Rattle.build_flow.specs.Joins.{any_new, with_joins}
use Rattle.build_flow.specs.Listed.{terminators_listed, texts}
use Rattle.build_flow.proofs.rounds.add_joins.Given as goal

abbrev pub invariant-loop-one : goal.invariant-loop-one
invariant-loop-one l = record {
  names : with_joins (texts l.names) (terminators_listed (drop l.one-index l.found))
      ≡ with_joins (texts l.initial.names) (terminators_listed l.found);
  any : (l.any || any_new (texts l.names) (terminators_listed (drop l.one-index l.found)))
      ≡ any_new (texts l.initial.names) (terminators_listed l.found);
}
