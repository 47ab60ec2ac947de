use Rattle.std.proofs.Common.{rules}
use Rattle.sdl_timers.proofs.Steps.{raises}
use Rattle.sdl_timers.proofs.ticker.Ticker.advance.Goals as goal

pub fetch_max-requires : goal.fetch_max-requires
fetch_max-requires c = (search rules, search rules, raises _ _ _ _ c.self.invariant.1)
