use Rattle.std.proofs.Common.{◌≡◌, ◌++◌, [], drop, map}
use Rattle.sdl_warnings.specs.Heads.{head_value, nowhere}
use Rattle.sdl_warnings.specs.Signals.{addressed}
use Rattle.sdl_warnings.proofs.paths.addressed.Given as goal

abbrev pub invariant-loop-word : goal.invariant-loop-word
invariant-loop-word l =
    map head_value l.found.items ++ addressed l.spot (map head_value l.own.items) (drop l.word-index l.words)
    ≡ addressed nowhere [] l.words
