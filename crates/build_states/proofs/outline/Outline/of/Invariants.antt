use Rattle.std.proofs.Common.{◌≡◌, ℕ, List, drop, map}
use Rattle.build_states.specs.Listed.{part_value}
use Rattle.build_states.specs.Outlined.{seen_from, seen_in}
use Rattle.build_states.specs.Shared.{seen_of, states_listed}
use Rattle.build_states.proofs.outline.Outline.of.Given as goal

abbrev pub invariant-loop-number : goal.invariant-loop-number
invariant-loop-number l = (text : List ℕ) →
    seen_from text l.number (seen_of l.outline text) (states_listed (map part_value (drop l.number l.parts)))
    ≡ seen_in text (states_listed (map part_value l.parts))
