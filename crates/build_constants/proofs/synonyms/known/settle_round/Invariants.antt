use Rattle.std.proofs.Common.{◌≡◌, ◌<◌, true, false}
use Rattle.build_constants.specs.Known.{AreStuck, IsKnown, count_open}
use Rattle.build_constants.proofs.synonyms.known.settle_round.Given as goal

abbrev pub invariant-loop-number : goal.invariant-loop-number
invariant-loop-number l = record {
  known : IsKnown l.synonyms l.known.constants.items l.known.settled.items;
  fewer : l.any ≡ true → count_open l.known.settled.items < count_open l.initial.known.settled.items;
  same : l.any ≡ false → l.known.settled.items ≡ l.initial.known.settled.items;
  stuck : l.any ≡ false → AreStuck l.synonyms l.known.settled.items l.number;
}
