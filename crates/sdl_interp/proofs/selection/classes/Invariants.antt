use Rattle.std.proofs.Common.{◌≡◌, ◌<◌, ℕ, length, slice_index_or}
use Rattle.port_model.specs.declared.selection.Class.TheVariants.{Discard}
use Rattle.sdl_interp.proofs.SelectionLemmas.{Saves}
use Rattle.sdl_interp.specs.Selected.{IsShut}
use Rattle.sdl_interp.proofs.selection.classes.Given as goal

abbrev pub invariant-loop-number : goal.invariant-loop-number
invariant-loop-number l = record {
  size : length l.classes.items ≡ l.number;
  same : (k : ℕ) → k < l.number
      → slice_index_or l.classes.items k Discard ≡ slice_index_or l.table.selection k Discard;
}

abbrev pub invariant-loop-enabling : goal.invariant-loop-enabling
invariant-loop-enabling l =
    Saves l.initial.classes.items l.classes.items
    (IsShut l.process l.table l.table.conditions.items l.truths (length l.yielded))
