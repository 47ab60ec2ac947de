use Rattle.std.proofs.Common.{◌∙◌, ◌+◌, Some, ap, sym, unwrap_or}
use Rattle.view_coverage.specs.Coverage.{counted, once}
use Rattle.view_coverage.proofs.CountLemmas.{counted-added}
use Rattle.view_coverage.proofs.counts.Counts.add.Goals as goal

pub returns : goal.returns
returns c = λ point.
    ap (λ found. unwrap_or found 0) (c.in_ok-insert.ensures.updates.0 point)
    ∙ counted-added c.self.inside.by_point.entries c.args.passed point c.in_ok-times.times
    (c.in_ok-times.ensures
    ∙ ap (λ n. n + 1) (c.times.ensures ∙ ap (λ table. counted table c.args.passed) (sym c.self.view_is)))
    ∙ ap (λ table. counted table point + once (Some c.args.passed) point) c.self.view_is
