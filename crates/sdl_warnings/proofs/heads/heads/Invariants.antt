use Rattle.std.proofs.Common.{◌≡◌, ◌++◌, drop, map}
use Rattle.sdl_warnings.specs.Heads.{head_value, heads, head_at, scan}
use Rattle.sdl_warnings.proofs.heads.heads.Given as goal

abbrev pub invariant-loop-word : goal.invariant-loop-word
invariant-loop-word l =
    map head_value l.found.items ++ scan head_at l.list l.spot (drop l.word-index l.words) ≡ heads l.list l.words
