use Rattle.std.proofs.Common.{◌≡◌, ◌+◌, drop}
use Rattle.view_coverage.specs.Sections.{rest_from}
use Rattle.view_coverage.proofs.covered.times.rest_times.Given as goal

abbrev pub invariant-loop-signal : goal.invariant-loop-signal
invariant-loop-signal l =
    l.times
    + rest_from l.material.system.now l.material.counts.now l.process l.state l.next (drop l._signal-index l.signals)
    ≡ rest_from l.material.system.now l.material.counts.now l.process l.state 0 l.signals
