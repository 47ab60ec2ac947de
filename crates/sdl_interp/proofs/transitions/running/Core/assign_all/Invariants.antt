use Rattle.run_semantics.specs.World.{WorldValue}
use Rattle.sdl_interp.proofs.Pieces.{DoneTo, tasking}
use Rattle.sdl_interp.specs.Running.{StaysAmid, seen}
use Rattle.sdl_system.specs.Table.{assigning}
use Rattle.sdl_interp.proofs.transitions.running.Core.assign_all.Given as goal

abbrev pub invariant-loop-assignment : goal.invariant-loop-assignment
invariant-loop-assignment g l = record {
  amid : StaysAmid g.P.Inbox.owning g.P.Inbox.since l.initial.self l.self;
  goes : (w : WorldValue) → DoneTo assigning tasking (seen g.P.Inbox.owning g.P.Inbox.since l.initial.self)
      l.assignments
      l.assignment-index w (seen g.P.Inbox.owning g.P.Inbox.since l.self) w;
}
