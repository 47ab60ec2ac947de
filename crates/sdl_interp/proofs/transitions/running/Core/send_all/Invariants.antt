use Rattle.std.specs.Option.{option_map}
use Rattle.sdl_interp.proofs.Pieces.{DoneTo, sending_to}
use Rattle.sdl_interp.specs.Running.{StaysAmid, seen}
use Rattle.sdl_system.specs.Table.{sending, whither_of}
use Rattle.sdl_interp.proofs.transitions.running.Core.send_all.Given as goal

abbrev pub invariant-loop-sending : goal.invariant-loop-sending
invariant-loop-sending g l = record {
  amid : StaysAmid g.P.Inbox.owning g.P.Inbox.since l.initial.self l.self;
  goes : DoneTo sending (sending_to (option_map whither_of l.output.to))
      (seen g.P.Inbox.owning g.P.Inbox.since l.initial.self) l.output.signals.items l.sending-index
      (g.W.World.value l.initial.world) (seen g.P.Inbox.owning g.P.Inbox.since l.self) (g.W.World.value l.world);
}
