use Rattle.std.proofs.Common.{◌≡◌, ◌++◌, drop, map}
use Rattle.std.specs.String.{string_bytes}
use Rattle.explain_syntax.specs.Gap.{names_from}
use Rattle.explain_syntax.proofs.rests.gap.names_of.Given as goal

abbrev pub invariant-loop-at : goal.invariant-loop-at
invariant-loop-at l =
    map string_bytes l.names.items ++ names_from l.words l.place l.cut l.at (drop l.at l.words)
    ≡ names_from l.words l.place l.cut 0 l.words
