use Rattle.std.proofs.Common.{◌≡◌, drop}
use Rattle.sdl_tree.specs.Words.{Words}
use Rattle.sdl_print.specs.Wrote.{followed_by}
use Rattle.sdl_print.proofs.TransitionLemmas.{actions_words, parts_words}
use Rattle.sdl_print.proofs.behaviour.+transition.Given as goal

abbrev pub invariant-statements-loop-statement : goal.invariant-statements-loop-statement
invariant-statements-loop-statement l = (j : Words) →
    followed_by l.text (actions_words (drop l.statement-index l.statements) j) ≡ followed_by l.initial.text (actions_words l.statements j)

abbrev pub invariant-answer_parts-loop-part : goal.invariant-answer_parts-loop-part
invariant-answer_parts-loop-part l = (j : Words) →
    followed_by l.text (parts_words (drop l.part-index l.parts) j) ≡ followed_by l.initial.text (parts_words l.parts j)
