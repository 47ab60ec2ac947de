-- What callers see of a wheel.
use Rattle.std.specs.Prelude.{List}
use Rattle.port_model.specs.declared.inbox.entry.Fuse.{Fuse}

-- fuses, in an order
abbrev pub FuseList : Type 0
FuseList = List Fuse
