-- Continuous signals whose transitions have no entry.
use Rattle.std.proofs.Common.{◌≡◌, ◌<◌, ℕ, List, None, get_or, length, map}
use Rattle.build_states.specs.Ordered.{numbered_value}
use Rattle.build_states.specs.declared.order.NumberedSignal.{NumberedSignal}
use Rattle.sdl_system.specs.declared.id.NodeId.{NodeId}
use Rattle.build_tables.specs.Linked.{OneUnlinked, continuous_linked}
use Rattle.build_tables.proofs.ListLemmas.{contains-at}

-- the transition of the signal at this place
pub unlinked-here : (entries : List NodeId) (list : List NumberedSignal) (i : ℕ) (d : NumberedSignal) →
    i < length list → continuous_linked entries (numbered_value (get_or list i d)) ≡ None →
    OneUnlinked entries (map numbered_value list)
unlinked-here entries list i d below none = record {
  one = numbered_value (get_or list i d);
  listed = contains-at numbered_value list i d below;
  no_entry = none;
}
