use Rattle.std.proofs.Common.{◌≡◌, ◌++◌, drop, map}
use Rattle.sdl_warnings.specs.Heads.{head_value}
use Rattle.sdl_warnings.specs.Signals.{elsewhere, outside}
use Rattle.sdl_warnings.proofs.elsewhere.elsewhere.Given as goal

abbrev pub invariant-loop-word : goal.invariant-loop-word
invariant-loop-word l =
    map head_value l.found.items ++ elsewhere l.lists (drop l.word-index l.words) ≡ elsewhere outside l.words
