use Rattle.std.proofs.Common.{◌≡◌, ◌++◌, None, drop, false, map}
use Rattle.sdl_warnings.specs.Heads.{head_value, nowhere}
use Rattle.sdl_warnings.specs.Signals.{carried}
use Rattle.sdl_warnings.proofs.paths.carried.Given as goal

abbrev pub invariant-loop-word : goal.invariant-loop-word
invariant-loop-word l =
    map head_value l.found.items ++ carried l.keyword l.is_outside l.before l.spot (drop l.word-index l.words)
    ≡ carried l.keyword false None nowhere l.words
