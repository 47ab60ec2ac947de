use Rattle.std.proofs.Common.{sym, ap, ◌∙◌, ◌∷◌, map, option_map}
use Rattle.sdl_tree.specs.declared.behaviour.AnswerPart.{out-AnswerPart}
use Rattle.sdl_tree.specs.declared.behaviour.Transition.{out-Transition}
use Rattle.sdl_tree.specs.declared.mark.Mark.TheVariants as mark
use Rattle.sdl_tree.specs.Canonical.{fixed, separated, optional, end_words, expr_words, answer_words, ending_words, transition_words}
use Rattle.sdl_tree.specs.Erased.{erased_expr, erased_answer, erased_ending, erased_transition}
use Rattle.sdl_tree.specs.Views.{expr_value, answer_value, ending_value, transition_value}
use Rattle.sdl_print.specs.Wrote.{followed_by}
use Rattle.sdl_print.proofs.ListLemmas.{on_ok}
use Rattle.sdl_print.proofs.TransitionLemmas.{actions_words, steps_words, parts_words, otherwise_words, decision_words, answered_words}
use Rattle.sdl_print.proofs.behaviour.+transition.Goals as goal

pub transition-returns : goal.transition-returns
transition-returns t c =
    let steps = out-Transition c.args.transition.now in
    on_ok c.optional.result (λ h j. h j ∙ c.in_ok-statements.ensures _
    ∙ ap (λ xs. followed_by c.args.text.now (actions_words xs (optional ending_words (option_map erased_ending (option_map ending_value steps.terminator)) j))) c.deref.ensures.value
    ∙ ap (followed_by c.args.text.now) (sym (steps_words c.args.transition.now j))) c.optional.ensures

pub action-returns-in_ok-mark-in-Decision-3 : goal.action-returns-in_ok-mark-in-Decision-3
action-returns-in_ok-mark-in-Decision-3 t c =
    let d = c.in-Decision in
    rw d.is (on_ok c.mark-in-Decision-4.result (λ h j. h j ∙ c.in_ok-mark-in-Decision-3.ensures _ ∙ c.in_ok-otherwise-in-Decision.ensures _
    ∙ c.in_ok-answer_parts-in-Decision.ensures _ ∙ c.in_ok-mark-in-Decision-2.ensures _ ∙ c.in_ok-write-in-Decision.ensures _ ∙ c.in_ok-mark-in-Decision.ensures _
    ∙ ap (λ parts. followed_by c.args.text.now (fixed mark.Decision ∷ expr_words (erased_expr (expr_value d.question)) (end_words (parts_words parts
    (otherwise_words d.other (fixed mark.EndDecision ∷ end_words j)))))) c.deref-in-Decision.ensures.value
    ∙ ap (followed_by c.args.text.now) (sym (decision_words d.word d.question d.parts d.other j))) c.mark-in-Decision-4.ensures)

pub answer_part-returns : goal.answer_part-returns
answer_part-returns t c =
    let part = out-AnswerPart c.args.part.now in
    on_ok c.transition.result (λ h j. h j ∙ c.in_ok-mark-3.ensures _ ∙ c.in_ok-mark-2.ensures _ ∙ c.in_ok-separated.ensures _ ∙ c.in_ok-mark.ensures _
    ∙ ap (λ answers. followed_by c.args.text.now (fixed mark.Open ∷ separated answer_words (map erased_answer (map answer_value answers))
    (fixed mark.Close ∷ fixed mark.Colon ∷ transition_words (erased_transition (transition_value part.transition)) j))) c.deref.ensures.value
    ∙ ap (followed_by c.args.text.now) (sym (answered_words c.args.part.now j))) c.transition.ensures
