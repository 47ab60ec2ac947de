use Rattle.sdl_interp.proofs.Pieces.{DoneTo, timers_set}
use Rattle.sdl_interp.specs.Running.{StaysAmid, seen}
use Rattle.sdl_system.specs.Table.{setting}
use Rattle.sdl_interp.proofs.transitions.running.Core.set_all.Given as goal

abbrev pub invariant-loop-setting : goal.invariant-loop-setting
invariant-loop-setting g l = record {
  amid : StaysAmid g.P.Inbox.owning g.P.Inbox.since l.initial.self l.self;
  goes : DoneTo setting timers_set (seen g.P.Inbox.owning g.P.Inbox.since l.initial.self) l.settings l.setting-index
      (g.W.World.value l.initial.world) (seen g.P.Inbox.owning g.P.Inbox.since l.self) (g.W.World.value l.world);
}
