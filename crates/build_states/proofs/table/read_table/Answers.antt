use Rattle.std.proofs.Common.{map, option_map}
use Rattle.build_states.specs.Listed.{part_value}
use Rattle.build_states.specs.Tabled.{part_seen, table_value}
use Rattle.build_states.proofs.ShareLemmas.{listed-added, listed-noted}
use Rattle.build_states.proofs.table.read_table.Goals as goal

pub loop-number-preserved : goal.loop-number-preserved
loop-number-preserved c =
    let all = map part_value c.args.parts.now in
    let numbers = c.args.numbers.now in
    let i = c.loop-number.number-index in
    let found = option_map part_seen c.part_of.result in
    let table = table_value c.loop-number.table in
    let before = c.loop-number.invariant.read in
    record {
      read = listed-added all numbers i _ c.loop-number-test.true found c.part_of.ensures table before
          _ c.in_ok-add_listed.ensures.added;
      noted = listed-noted all numbers i _ c.loop-number-test.true found c.part_of.ensures table before
          _ _ _ c.loop-number.invariant.noted c.in_ok-add_listed.ensures.noted;
    }
