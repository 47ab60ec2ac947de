use Rattle.std.proofs.Common.{◌≡◌, ◌<◌, ℕ, get_or, vec_len, option_copied}
use Rattle.port_model.specs.declared.selection.Class.TheVariants.{Discard}
use Rattle.build_tables.specs.Linked.{choice_by}
use Rattle.build_tables.proofs.selection.selection_of.Given as goal

abbrev pub invariant-loop-number : goal.invariant-loop-number
invariant-loop-number l = record {
  len : vec_len l.classes ≡ l.number;
  each : (k : ℕ) → k < l.number → get_or l.classes.items k Discard
      ≡ (choice_by l.parts.valid.now l.reactions (option_copied l.rest) (record { 0 = k })).class;
}
