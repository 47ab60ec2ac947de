use Rattle.std.proofs.Common.{◌≡◌, drop}
use Rattle.explain_syntax.specs.Scan.{first_such, word_at}
use Rattle.explain_syntax.specs.Words.{is_same_place}
use Rattle.explain_syntax.proofs.rests.scan.word_at.Given as goal

abbrev pub invariant-loop-at : goal.invariant-loop-at
invariant-loop-at l =
    first_such (λ at word. is_same_place word.place l.place) l.at (drop l.at l.words) ≡ word_at l.place l.words
