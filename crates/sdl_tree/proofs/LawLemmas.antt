-- What holds of the grammar.
use Rattle.std.proofs.Common.{◌∙◌}
use Rattle.sdl_tree.specs.Laws.{NoConditionOnPriority}

pub none_after_priority : NoConditionOnPriority
none_after_priority depth v w inputs e p t i j s =
    let last = s.1.2.3.2 in
    last.0 (w, _, last.1.1 ∙ last.1.2 ∙ s.2.1.1)
