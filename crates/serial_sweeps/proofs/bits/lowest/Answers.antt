use Rattle.std.proofs.Common.{w64, rules}
use Rattle.std.proofs.lemmas.Nat.Bits.{bit_at-trailing_zeros}
use Rattle.serial_sweeps.proofs.bits.lowest.Goals as goal

pub returns : goal.returns
returns c =
    let is = bit_at-trailing_zeros w64 c.args.word c.requires (search rules) in
    record { within = is.0; set = is.1; least = is.2 }
