use Rattle.std.proofs.Common.{◌≡◌, ℕ, List, take}
use Rattle.sdl_tree.specs.Views.{names_value}
use Rattle.build_states.specs.Outlined.{with_names}
use Rattle.build_states.specs.Turned.{turns_of}
use Rattle.build_states.proofs.outline.Turns.add_names.Given as goal

abbrev pub invariant-loop-name : goal.invariant-loop-name
invariant-loop-name l = (text : List ℕ) → turns_of l.self text
    ≡ with_names text l.turn (turns_of l.initial.self text) (names_value (take l.name-index l.names))
