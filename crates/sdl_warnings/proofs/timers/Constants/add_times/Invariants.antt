use Rattle.std.proofs.Common.{◌≡◌, ◌++◌, ◌||◌, ◌&&◌, List, ℕ, Bool, drop, not}
use Rattle.sdl_warnings.specs.Heads.{nowhere}
use Rattle.sdl_warnings.specs.Sets.{has}
use Rattle.sdl_warnings.specs.Times.{constant_from}
use Rattle.sdl_warnings.specs.declared.timers.Constants.{Constants}
use Rattle.sdl_warnings.specs.declared.timers.Time.TheVariants as time
use Rattle.sdl_warnings.proofs.timers.Constants.add_times.Given as goal

abbrev is_constant : Constants → List ℕ → Bool
is_constant names text = has names.constants text && not (has names.variables text || has names.parameters text)

abbrev pub invariant-loop-word : goal.invariant-loop-word
invariant-loop-word l =
    l.found.items ++ constant_from (is_constant l.self) l.spot l.time (drop l.word-index l.words)
    ≡ l.fn.found.items ++ constant_from (is_constant l.self) nowhere time.Other l.words
