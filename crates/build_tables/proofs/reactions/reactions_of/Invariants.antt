use Rattle.build_tables.specs.Linked.{AreLinked}
use Rattle.build_tables.proofs.reactions.reactions_of.Given as goal

abbrev pub invariant-loop-number : goal.invariant-loop-number
invariant-loop-number l = AreLinked l.parts.entries.now l.number l.named l.by_signal.entries
