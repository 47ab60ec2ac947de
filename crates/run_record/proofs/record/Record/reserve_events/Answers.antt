use Rattle.std.proofs.Common.{◌≡◌, ◌*◌, arith, rules}
use Rattle.run_record.proofs.PackedLemmas.{length-told}
use Rattle.run_record.proofs.record.Record.reserve_events.Goals as goal

pub overflow_add-most : goal.overflow_add-most
overflow_add-most c =
    let kept = c.self.inside in
    let short = length-told 0 kept.entries.items kept.values.items in
    let many = c.self.invariant.len_is in
    omega (arith, short, many)

pub returns-clause-ok : goal.returns-clause-ok
returns-clause-ok c =
    let twice : c.in-Some.entries ≡ c.max.result * 2 = search rules in
    omega (arith, twice, c.max.ensures, c.in_ok-grow.ensures.ok, c.capacity.ensures, c.len.ensures)
