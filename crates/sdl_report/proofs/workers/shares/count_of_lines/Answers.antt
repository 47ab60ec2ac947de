use Rattle.std.proofs.Common.{◌-◌, ◌^◌, ◌∙◌, ap, arith, min, rules, sum_by, take_all}
use Rattle.std.proofs.lemmas.List.Sums.{sum_by_more}
use Rattle.sdl_report.specs.Pieces.{line_count}
use Rattle.sdl_report.proofs.workers.shares.count_of_lines.Goals as goal

pub loop-record-preserved : goal.loop-record-preserved
loop-record-preserved c =
    omega (
      arith,
      c.loop-record.invariant,
      c.saturating_add-lines.ensures,
      c.lines_of.ensures,
      ap line_count c.record-item.is,
      sum_by_more line_count c.args.records.now c.loop-record.record-index c.record-item.result
          c.loop-record-test.true,
    )

pub returns : goal.returns
returns c =
    c.loop-record.invariant
    ∙ ap (λ l. min (sum_by line_count l) (2 ^ 64 - 1))
    (take_all c.loop-record.record-index c.args.records.now (search rules))
