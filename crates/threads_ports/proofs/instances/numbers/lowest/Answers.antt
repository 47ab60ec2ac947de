use Rattle.std.specs.Int.{w64}
use Rattle.std.proofs.lemmas.Nat.Bits.{bit_at-trailing_zeros}
use Rattle.threads_ports.proofs.instances.numbers.lowest.Goals as goal

pub returns : goal.returns
returns c = bit_at-trailing_zeros w64 c.args.word c.requires c.ranges.word.fits
