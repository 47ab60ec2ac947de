use Rattle.std.proofs.Common.{◌≡◌, ◌≢◌, ℕ, ◌-◌, ◌<◌, ◌≤◌, get_or}
use Rattle.explain_syntax.proofs.lines.line.line_start.Given as goal

abbrev pub invariant-loop-at : goal.invariant-loop-at
invariant-loop-at l = record {
  before : l.start ≤ l.at;
  one : (k : ℕ) → l.start ≤ k → k < l.at → get_or l.text k 0 ≢ 10;
  begins : 0 < l.start → get_or l.text (l.start - 1) 0 ≡ 10;
}
