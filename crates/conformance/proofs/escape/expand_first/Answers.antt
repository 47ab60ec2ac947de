use Rattle.conformance.proofs.EscapeLaws.{plain_step}
use Rattle.conformance.proofs.escape.expand_first.Goals as goal

pub returns-clause-plain : goal.returns-clause-plain
returns-clause-plain c =
    λ plain. plain_step _ _ _ _ c.in_ok-piece.piece (c.in_ok-piece.ensures.plain plain) c.in_ok-expand_piece.ensures plain
