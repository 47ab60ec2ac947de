use Rattle.std.proofs.Common.{None, drop, sym, subst, arith}
use Rattle.std.proofs.lemmas.List.{get_or_default}
use Rattle.sdl_timers.specs.Tournament.{IsLeastOf}
use Rattle.sdl_timers.proofs.Playing.{root_least}
use Rattle.sdl_timers.proofs.tournament.Tournament.least.Goals as goal

pub returns : goal.returns
returns c =
    let long = c.self.invariant.long in
    let read = get_or_default c.self.inside.nodes 1 c.index-self-1.result None (omega arith) in
    rw (← c.self.view_is) (subst (λ o. IsLeastOf (drop 256 c.self.inside.nodes) o) (sym read) (root_least c.self.inside.nodes c.self.invariant))
