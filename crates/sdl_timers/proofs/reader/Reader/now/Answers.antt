use Rattle.std.proofs.Common.{rules}
use Rattle.sdl_timers.proofs.Steps.{looks}
use Rattle.sdl_timers.proofs.reader.Reader.now.Goals as goal

pub load-requires : goal.load-requires
load-requires c = (search rules, search rules, looks _ _ _ c.self.invariant.1)
