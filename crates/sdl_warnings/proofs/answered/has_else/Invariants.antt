use Rattle.std.proofs.Common.{◌≡◌, drop}
use Rattle.sdl_warnings.specs.Decisions.{beginning, has_else}
use Rattle.sdl_warnings.proofs.answered.has_else.Given as goal

abbrev pub invariant-loop-word : goal.invariant-loop-word
invariant-loop-word l = has_else l.inside (drop l.word-index l.words) ≡ has_else beginning l.words
