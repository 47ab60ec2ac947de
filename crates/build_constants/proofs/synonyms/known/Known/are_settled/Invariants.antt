use Rattle.std.proofs.Common.{◌≡◌, drop}
use Rattle.build_constants.specs.Known.{are_settled}
use Rattle.build_constants.proofs.synonyms.known.Known.are_settled.Given as goal

abbrev pub invariant-loop-number : goal.invariant-loop-number
invariant-loop-number l =
    are_settled l.self.settled.items (drop l.number-index l.numbers) ≡ are_settled l.self.settled.items l.numbers
