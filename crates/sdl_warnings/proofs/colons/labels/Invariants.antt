use Rattle.std.proofs.Common.{◌≡◌, ◌++◌, None, drop, map}
use Rattle.sdl_warnings.specs.Colons.{labels}
use Rattle.sdl_warnings.specs.Heads.{head_value}
use Rattle.sdl_warnings.proofs.colons.labels.Given as goal

abbrev pub invariant-loop-word : goal.invariant-loop-word
invariant-loop-word l = map head_value l.found.items ++ labels l.depth l.before (drop l.word-index l.words) ≡ labels 0 None l.words
