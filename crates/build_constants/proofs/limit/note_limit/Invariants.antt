use Rattle.std.proofs.Common.{◌≡◌, pos, false, int_lt, map}
use Rattle.std.specs.Iterator.Adapters.{zip_first, zip_second}
use Rattle.std.specs.Slice.Iter.{iter_rest}
use Rattle.build_definitions.specs.Seen.{process_seen}
use Rattle.build_constants.specs.Limit.{limit_faults, limit_from, most_instances}
use Rattle.build_names.specs.Faults.{least_of}
use Rattle.build_constants.proofs.limit.note_limit.Given as goal

abbrev pub invariant-loop-entry : goal.invariant-loop-entry
invariant-loop-entry l = record {
  told_is : least_of l.faults (limit_from l.left (map process_seen (iter_rest (zip_first l.entry-iterator)))
      (iter_rest (zip_second l.entry-iterator)))
      ≡ least_of l.initial.faults (limit_faults (map process_seen l.processes) l.counts);
  some : int_lt l.left (pos 0) ≡ false;
  most : int_lt most_instances l.left ≡ false;
}
