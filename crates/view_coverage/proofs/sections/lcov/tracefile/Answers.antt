use Rattle.std.proofs.Common.{◌∙◌, ap}
use Rattle.view_coverage.specs.Lcov.{tracefile_text}
use Rattle.view_coverage.proofs.sections.lcov.tracefile.Goals as goal

pub returns : goal.returns
returns c = (
  c.in_ok-lines.lines.items,
  c.in_ok-lines.ensures.sums,
  c.in_ok-lines.ensures.order,
  c.in_ok-text.ensures
      ∙ ap (tracefile_text c.args.knowledge c.args.source.now c.args.sections.now) c.deref.ensures.value,
)
