use Rattle.std.proofs.Common.{◌≡◌, length}
use Rattle.sdl_build.specs.Around.{context_of}
use Rattle.sdl_build.specs.Faulty.{NotesBodies}
use Rattle.sdl_build.specs.Made.{AreMade}
use Rattle.sdl_build.proofs.system.each_process.Given as goal

abbrev pub invariant-loop-set : goal.invariant-loop-set
invariant-loop-set l = record {
  size : length l.made.items ≡ length l.yielded;
  made : AreMade (context_of l.definitions l.symbols l.constant_table l.connections) l.made.items;
  noted : NotesBodies (context_of l.definitions l.symbols l.constant_table l.connections) l.initial.faults
      (length l.made.items) l.faults;
}
