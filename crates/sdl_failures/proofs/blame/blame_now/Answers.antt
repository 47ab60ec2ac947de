-- The time is that of the transition, and past 64 bits.
use Rattle.std.proofs.Common.{◌∙◌}
use Rattle.sdl_failures.proofs.blame.blame_now.Goals as goal

pub returns : goal.returns
returns c = (c.get-now.ensures ∙ c.now.ensures, c.is_number.ensures c.if-is_number.false)
