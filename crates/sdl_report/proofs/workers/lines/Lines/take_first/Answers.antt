use Rattle.std.proofs.Common.{◌∙◌, arith, sym}
use Rattle.sdl_report.proofs.LineLemmas.{drop-one, dropped}
use Rattle.sdl_report.specs.Lines.{line_told}
use Rattle.sdl_report.proofs.workers.lines.Lines.take_first.Goals as goal

pub returns-in_default-clause-rest : goal.returns-in_default-clause-rest
returns-in_default-clause-rest c =
    let none = c.in_default.ensures.steps in
    none.1 ∙ sym none.0
    ∙ dropped c.args.self.now c.loop-place.self c.loop-place._place c.args.count c.loop-place.invariant none.0
    (omega (arith, c.loop-place-test.true))

pub loop-place-preserved : goal.loop-place-preserved
loop-place-preserved c =
    drop-one c.args.self.now c.loop-place.self c.next.new.self (line_told c.in-Some._line) c.loop-place._place
    c.loop-place.invariant c.in-Some.ensures.steps
