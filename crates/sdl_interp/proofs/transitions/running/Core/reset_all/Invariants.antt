use Rattle.run_semantics.specs.World.{WorldValue}
use Rattle.sdl_interp.proofs.Pieces.{DoneTo, timers_reset}
use Rattle.sdl_interp.specs.Running.{StaysAmid, seen}
use Rattle.sdl_system.specs.Table.{timing}
use Rattle.sdl_interp.proofs.transitions.running.Core.reset_all.Given as goal

abbrev pub invariant-loop-timer : goal.invariant-loop-timer
invariant-loop-timer g l = record {
  amid : StaysAmid g.P.Inbox.owning g.P.Inbox.since l.initial.self l.self;
  goes : (w : WorldValue) → DoneTo timing timers_reset (seen g.P.Inbox.owning g.P.Inbox.since l.initial.self) l.timers
      l.timer-index w (seen g.P.Inbox.owning g.P.Inbox.since l.self) w;
}
