-- The slots of a run, by the numbers of those that step (Z.101: system).
use Rattle.std.specs.Prelude.{◌≡◌, ℕ, Bool, ◌&&◌, ◌+◌, ◌<◌, List, length, nat_le, slice_index_or}
use Rattle.crossbeam_utils.specs.Padded.{padded_value}
use Rattle.crossbeam_utils.specs.declared.cache_padded.CachePadded.{CachePadded}
use Rattle.threads_instance.specs.declared.queue.slot.Slot.{Slot}

-- whether there is a slot of this number: each of 1 to 1,000 has one
abbrev pub has_slot : ℕ → Bool
has_slot number = nat_le 1 number && nat_le number 1000

-- at the slot k that of the number k + 1
abbrev pub AreNumbered : {T : Type 0} → List (CachePadded (Slot T)) → Type 0
AreNumbered {T} rows = (k : ℕ) (d : CachePadded (Slot T)) → k < length rows
    → (padded_value (slice_index_or rows k d)).number ≡ k + 1
