-- Sets of signals.
use Rattle.std.specs.Prelude.{Bool, false, List, slice_get, unwrap_or}
use Rattle.port_model.specs.declared.values.item.SignalId.{SignalId}

-- whether the signal is in the set that has true at the numbers of its members
abbrev pub is_member : List Bool → SignalId → Bool
is_member members signal = unwrap_or (slice_get members signal.0) false
