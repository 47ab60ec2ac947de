use Rattle.std.proofs.Common.{◌≡◌, drop, take}
use Rattle.build_definitions.specs.Entries.{Has, duplicates, duplicates_behind, entries_of, standings}
use Rattle.build_names.specs.Faults.{least_of}
use Rattle.build_definitions.proofs.symbols.declaration.declare_all.Given as goal

abbrev pub invariant-loop-declaration : goal.invariant-loop-declaration
invariant-loop-declaration g l = record {
  spaces : Has l.spaces (entries_of (take l.declaration-index l.declarations));
  noted :
      least_of l.faults
      (duplicates_behind (standings (entries_of (take l.declaration-index l.declarations)))
      (standings (entries_of (drop l.declaration-index l.declarations))))
      ≡ least_of l.initial.faults (duplicates (standings (entries_of l.declarations)));
}
