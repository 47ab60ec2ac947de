use Rattle.std.proofs.Common.{◌≡◌, List, ℕ, nat_lt, take}
use Rattle.sdl_warnings.specs.Sets.{has}
use Rattle.sdl_warnings.specs.Words.{times}
use Rattle.sdl_warnings.proofs.unused.repeated.Given as goal

abbrev pub invariant-loop-word : goal.invariant-loop-word
invariant-loop-word l = record {
  once : (text : List ℕ) → has l.once text ≡ nat_lt 0 (times text (take l.word-index l.words));
  again : (text : List ℕ) → has l.again text ≡ nat_lt 1 (times text (take l.word-index l.words));
}
