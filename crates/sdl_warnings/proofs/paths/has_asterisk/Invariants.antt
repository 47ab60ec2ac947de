use Rattle.std.proofs.Common.{◌≡◌, drop}
use Rattle.sdl_warnings.specs.Heads.{nowhere}
use Rattle.sdl_warnings.specs.Signals.{has_asterisk}
use Rattle.sdl_warnings.proofs.paths.has_asterisk.Given as goal

abbrev pub invariant-loop-word : goal.invariant-loop-word
invariant-loop-word l = has_asterisk l.list l.spot (drop l.word-index l.words) ≡ has_asterisk l.list nowhere l.words
