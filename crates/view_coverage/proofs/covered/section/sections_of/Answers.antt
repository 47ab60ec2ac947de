use Rattle.std.proofs.Common.{◌∙◌, [], ◌+◌, subst, sym, take}
use Rattle.std.specs.List.{AllZip}
use Rattle.std.proofs.lemmas.List.{take_all}
use Rattle.view_coverage.proofs.SectionLemmas.{zip-more}
use Rattle.view_coverage.specs.Sections.{IsSection, sources_of}
use Rattle.view_coverage.proofs.covered.section.sections_of.Goals as goal

pub loop-goals-init : goal.loop-goals-init
loop-goals-init c =
    subst (λ l. AllZip (IsSection (sources_of c.args.material.now)) [] l) (sym c.new-sections.ensures.items) tt

pub loop-goals-preserved : goal.loop-goals-preserved
loop-goals-preserved c =
    let fits = IsSection (sources_of c.args.material.now) in
    let all = c.deref-goals-items.result.now in
    subst (λ l. AllZip fits (take (c.loop-goals.goals-index + 1) all) l) (sym c.in_ok-push.ensures.items)
    (zip-more fits all c.loop-goals.goals-index c.goals-item.result c.loop-goals.sections.items c.in_ok-section.section
    c.loop-goals-test.true c.goals-item.is c.loop-goals.invariant c.in_ok-section.ensures)

pub returns : goal.returns
returns c =
    let fits = IsSection (sources_of c.args.material.now) in
    let all = c.deref-goals-items.result.now in
    subst (λ l. AllZip fits l c.loop-goals.sections.items)
    (take_all c.loop-goals.goals-index all c.loop-goals-test.false ∙ c.deref-goals-items.ensures.value)
    c.loop-goals.invariant
