-- What definitions by the parts of transitions and decisions say of the code's own.
use Rattle.std.proofs.Common.{◌≡◌, ◌∙◌, ◌++◌, List, Option, Vec, Global, ap, map, option_map, sym}
use Rattle.std.proofs.lemmas.List.{append_assoc}
use Rattle.sdl_tree.specs.declared.behaviour.Action.{Decision}
use Rattle.sdl_tree.specs.declared.behaviour.AnswerPart.{AnswerPart, out-AnswerPart, roll-out-AnswerPart}
use Rattle.sdl_tree.specs.declared.behaviour.Transition.{Transition, out-Transition, roll-out-Transition}
use Rattle.sdl_tree.specs.declared.expressions.Expression.{Expression}
use Rattle.sdl_tree.specs.declared.name.Spelling.{Spelling}
use Rattle.sdl_tree.specs.Tree as tree
use Rattle.sdl_tree.specs.Tree.{actions_of, else_of, parts_of}
use Rattle.sdl_tree.specs.Views.{action_value, answer_part_value, ending_value, expr_value, statement_value, transition_value}
use Rattle.sdl_tree.proofs.ViewLemmas.{answered_value, decision_value, steps_value}

pub transition_tree : (t : Transition) → transition_value t
    ≡ tree.Steps (actions_of (map statement_value (out-Transition t).actions.items))
    (option_map ending_value (out-Transition t).terminator)
transition_tree t =
    ap transition_value (sym (roll-out-Transition t))
    ∙ steps_value (out-Transition t).actions (out-Transition t).terminator

pub decision_tree : (word : Spelling) (question : Expression) (parts : Vec AnswerPart Global)
    (otherwise : Option Transition) → action_value (Decision word question parts otherwise)
    ≡ tree.Decision word (expr_value question) (parts_of (map answer_part_value parts.items))
    (else_of (option_map transition_value otherwise))
decision_tree word question parts otherwise = decision_value word question parts otherwise

-- the transition behind some answers
abbrev pub part_transition : tree.Part → tree.Transition
part_transition part = part.transition

pub answered_tree : (p : AnswerPart) →
    (answer_part_value p).transition ≡ transition_value (out-AnswerPart p).transition
answered_tree p =
    ap (λ q. part_transition (answer_part_value q)) (sym (roll-out-AnswerPart p))
    ∙ ap part_transition (answered_value (out-AnswerPart p).answers (out-AnswerPart p).transition)

-- some elements are added, and then others
pub then : {A : Type 0} (before between after xs ys : List A) → between ≡ before ++ xs → after ≡ between ++ ys →
    after ≡ before ++ (xs ++ ys)
then before between after xs ys first second = second ∙ ap (λ list. list ++ ys) first ∙ append_assoc before xs ys
