-- The words of transitions and decisions.
use Rattle.std.proofs.Common.{◌≡◌, sym, ap, ◌∙◌, List, [], ◌∷◌, map, Option, option_map, Vec, Global}
use Rattle.sdl_tree.specs.declared.behaviour.Action.{Decision}
use Rattle.sdl_tree.specs.declared.behaviour.ActionStatement.{ActionStatement}
use Rattle.sdl_tree.specs.declared.behaviour.AnswerPart.{AnswerPart, out-AnswerPart, roll-out-AnswerPart}
use Rattle.sdl_tree.specs.declared.behaviour.Transition.{Transition, out-Transition, roll-out-Transition}
use Rattle.sdl_tree.specs.declared.expressions.Expression.{Expression}
use Rattle.sdl_tree.specs.declared.mark.Mark.TheVariants as mark
use Rattle.sdl_tree.specs.declared.name.Spelling.{Spelling}
use Rattle.sdl_tree.specs.Canonical as canonical
use Rattle.sdl_tree.specs.Canonical.{fixed, separated, optional, end_words, expr_words, answer_words, ending_words, transition_words, action_words}
use Rattle.sdl_tree.specs.Erased.{erased_expr, erased_answer, erased_ending, erased_transition, erased_actions, erased_action, erased_parts, erased_otherwise}
use Rattle.sdl_tree.specs.Tree.{Part, actions_of, parts_of, else_of}
use Rattle.sdl_tree.specs.Views.{expr_value, answer_value, ending_value, transition_value, statement_value, action_value, answer_part_value}
use Rattle.sdl_tree.specs.Words.{Words}
use Rattle.sdl_tree.proofs.ViewLemmas.{steps_value, decision_value, answered_value}

-- what is written for actions
abbrev pub actions_words : List ActionStatement → Words → Words
actions_words statements j = canonical.actions_words (erased_actions (actions_of (map statement_value statements))) j

pub steps_words : (t : Transition) (j : Words) → transition_words (erased_transition (transition_value t)) j
    ≡ actions_words (out-Transition t).actions.items (optional ending_words (option_map erased_ending (option_map ending_value (out-Transition t).terminator)) j)
steps_words t j =
    ap (λ u. transition_words (erased_transition (transition_value u)) j) (sym (roll-out-Transition t))
    ∙ ap (λ u. transition_words (erased_transition u) j) (steps_value (out-Transition t).actions (out-Transition t).terminator)

-- what is written for the parts of a decision
abbrev pub parts_words : List AnswerPart → Words → Words
parts_words parts j = canonical.parts_words (erased_parts (parts_of (map answer_part_value parts))) j

-- what is written for the other answers
abbrev pub otherwise_words : Option Transition → Words → Words
otherwise_words otherwise j = canonical.otherwise_words (erased_otherwise (else_of (option_map transition_value otherwise))) j

pub decision_words : (spelling : Spelling) (question : Expression) (parts : Vec AnswerPart Global) (otherwise : Option Transition) (j : Words) →
    action_words (erased_action (action_value (Decision spelling question parts otherwise))) j
    ≡ fixed mark.Decision ∷ expr_words (erased_expr (expr_value question)) (end_words (parts_words parts.items
    (otherwise_words otherwise (fixed mark.EndDecision ∷ end_words j))))
decision_words spelling question parts otherwise j =
    ap (λ a. action_words (erased_action a) j) (decision_value spelling question parts otherwise)

abbrev pub part_words : Part → Words → Words
part_words p j = canonical.parts_words (erased_parts (parts_of (p ∷ []))) j

pub answered_words : (p : AnswerPart) (j : Words) → part_words (answer_part_value p) j
    ≡ fixed mark.Open ∷ separated answer_words (map erased_answer (map answer_value (out-AnswerPart p).answers.items))
    (fixed mark.Close ∷ fixed mark.Colon ∷ transition_words (erased_transition (transition_value (out-AnswerPart p).transition)) j)
answered_words p j =
    ap (λ q. part_words (answer_part_value q) j) (sym (roll-out-AnswerPart p))
    ∙ ap (λ q. part_words q j) (answered_value (out-AnswerPart p).answers (out-AnswerPart p).transition)
