use Rattle.std.proofs.Common.{◌≡◌, ◌+◌, ◌++◌, take, vec_len, vec_capacity}
use Rattle.run_record.proofs.record.push_all.Given as goal

abbrev pub invariant-loop-value : goal.invariant-loop-value
invariant-loop-value l =
    (l.table.items ≡ l.initial.table.items ++ take l.value-index l.values)
    × (vec_len l.table ≡ vec_len l.initial.table + l.value-index)
    × (vec_capacity l.table ≡ vec_capacity l.initial.table)
