use Rattle.std.proofs.Common.{◌-◌}
use Rattle.sdl_interp.proofs.Walks.{WalkedTo}
use Rattle.sdl_interp.specs.Running.{GoesOn, StaysItself, seen}
use Rattle.sdl_interp.proofs.transitions.running.Core.walk.Given as goal

abbrev pub invariant-loop-at : goal.invariant-loop-at
invariant-loop-at g l = record {
  going : GoesOn g.P.Inbox.owning g.P.Inbox.since l.self;
  same : StaysItself g.P.Inbox.owning g.P.Inbox.since l.initial.self l.self;
  walked : WalkedTo (seen g.P.Inbox.owning g.P.Inbox.since l.initial.self) l.fn.begin l.origin
      (g.W.World.value l.initial.world) l.at (seen g.P.Inbox.owning g.P.Inbox.since l.self) (g.W.World.value l.world);
}

abbrev pub decreases-loop-at : goal.decreases-loop-at
decreases-loop-at g l = 10000 - l.self.machine.store.done
