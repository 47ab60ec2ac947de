use Rattle.std.proofs.Common.{[], arith, get_or, sym, subst, take}
use Rattle.std.proofs.lemmas.List.{take_all}
use Rattle.view_coverage.specs.Lcov.{AreInOrder, AreUpTo}
use Rattle.view_coverage.proofs.LineLemmas.{sums-from, sums-same, sums-step}
use Rattle.view_coverage.proofs.OrderLemmas.{in-order, not-before, up-to-later}
use Rattle.view_coverage.proofs.sections.line_count.merged.Goals as goal

pub loop-count-init : goal.loop-count-init
loop-count-init c =
    let none = sym c.new-lines.ensures.items in (
      sums-same [] c.new-lines.result.items none,
      (λ j d from within. subst (AreUpTo (get_or c.args.counts.now j d).line) none tt),
      subst AreInOrder none tt,
    )

pub loop-count-preserved : goal.loop-count-preserved
loop-count-preserved c =
    let counts = c.args.counts.now in
    let i = c.loop-count.count-index in
    let up = c.in_ok-add_count.ensures.order (c.loop-count.invariant.1 i _ (omega arith) c.loop-count-test.true) in (
      sums-step counts i _ c.loop-count.lines.items c.add_count.new.lines.items c.loop-count-test.true
          c.loop-count.invariant.0 c.in_ok-add_count.ensures.sums,
      (λ j d from within. up-to-later _ _ c.add_count.new.lines.items
          (not-before counts i j _ d c.requires (omega (arith, from)) within) up),
      in-order _ c.add_count.new.lines.items up,
    )

pub returns-clause-sums : goal.returns-clause-sums
returns-clause-sums c =
    sums-from c.args.counts.now (take c.loop-count.count-index c.args.counts.now) c.loop-count.lines.items
    (sym (take_all c.loop-count.count-index c.args.counts.now c.loop-count-test.false)) c.loop-count.invariant.0
