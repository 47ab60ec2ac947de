use Rattle.std.proofs.Common.{◌∙◌, ap, rules, subst, sym}
use Rattle.std.specs.List.Sorted.{IsNonDecreasingBy}
use Rattle.std.proofs.lemmas.List.Sorted.{IsNonDecreasingBy-from_sort_by_key}
use Rattle.std.proofs.lemmas.List.{take_all}
use Rattle.view_coverage.specs.Lcov.{lines_in}
use Rattle.view_coverage.proofs.LineLemmas.{sums-from, sums-moved}
use Rattle.view_coverage.proofs.sections.line_count.lines_of.Goals as goal

pub merged-requires : goal.merged-requires
merged-requires c =
    subst (IsNonDecreasingBy (λ count. count.line)) (sym c.deref-2.ensures.value)
    (IsNonDecreasingBy-from_sort_by_key (λ count. count.line) _ c.in_ok-sort_by_key.ensures.sorted
    (λ a r q k. search rules))

pub returns-clause-sums : goal.returns-clause-sums
returns-clause-sums c =
    let counts = c.loop-section.counts.items in
    let sorted = c.sort_by_key.new.self.items in
    let lines = c.in_ok-lines.lines.items in
    let all =
    sym (ap lines_in (take_all c.loop-section.section-index c.args.sections.now c.loop-section-test.false))
    ∙ sym c.loop-section.invariant in
    sums-from (lines_in c.args.sections.now) counts lines all
    (sums-moved counts sorted lines c.in_ok-sort_by_key.ensures.permutation
    (sums-from sorted c.deref-2.result.now lines (sym c.deref-2.ensures.value) c.in_ok-lines.ensures.sums))
