use Rattle.std.proofs.Common.{◌<◌, length, arith, refl, sym, subst, ap, take, ◌+◌}
use Rattle.conformance.specs.Judgement.{Upholds}
use Rattle.conformance.specs.Tally.{AddsUp, IsTally, none}
use Rattle.conformance.proofs.TallyLaws.{adds_up_more, number_more, tally_more}
use Rattle.conformance.proofs.driver.run_cases.Goals as goal

pub loop-case-init : goal.loop-case-init
loop-case-init g c = record {
  number = ap (λ n. n.cases) c.new-counts.ensures;
  adds_up = subst AddsUp (sym c.new-counts.ensures) refl;
  tally = subst (IsTally _) (sym c.new-counts.ensures) none;
}

pub loop-case-preserved : goal.loop-case-preserved
loop-case-preserved g c =
    let before = c.loop-case.invariant in
    let counted = c.count.ensures.counted in
    let below : c.loop-case.case-index < length c.args.cases.now = omega arith in
    let upholds : Upholds c.case-item.result c.in_ok-verdict.verdict = c.in_ok-verdict.ensures in record {
      number = number_more c.loop-case.counts c.count.new.self c.in_ok-verdict.verdict c.loop-case.case-index counted before.number;
      adds_up = subst AddsUp (sym counted) (adds_up_more c.loop-case.counts c.in_ok-verdict.verdict before.adds_up);
      tally = subst (IsTally (take (c.loop-case.case-index + 1) c.args.cases.now)) (sym counted) (tally_more c.args.cases.now c.loop-case.case-index c.loop-case.counts c.case-item.result c.in_ok-verdict.verdict below c.case-item.is before.tally upholds);
    }
