-- The statements of transitions and decisions.
use Rattle.std.proofs.Common.{◌≡◌, ◌∙◌, ◌++◌, ◌∷◌, sym, ap, map, Option, List, option_map, Vec, Global}
use Rattle.sdl_tree.specs.declared.behaviour.Action.{Decision}
use Rattle.sdl_tree.specs.declared.behaviour.AnswerPart.{AnswerPart, out-AnswerPart, roll-out-AnswerPart}
use Rattle.sdl_tree.specs.declared.behaviour.Transition.{Transition, out-Transition, roll-out-Transition}
use Rattle.sdl_tree.specs.declared.expressions.Expression.{Expression}
use Rattle.sdl_tree.specs.declared.mark.Mark.TheVariants as mark
use Rattle.sdl_tree.specs.declared.name.Spelling.{Spelling}
use Rattle.sdl_tree.specs.Tree.{actions_of, parts_of, else_of}
use Rattle.sdl_tree.specs.Tree as tree
use Rattle.sdl_tree.specs.Words.{Spot}
use Rattle.sdl_tree.specs.Views.{ending_value, transition_value, statement_value, action_value, answer_part_value}
use Rattle.sdl_tree.proofs.ViewLemmas.{steps_value, decision_value, answered_value}
use Rattle.build_names.specs.Faults.{mark_word}
use Rattle.build_limits.specs.Limits.{transition_statements, actions_statements, action_statements, parts_statements, otherwise_statements, ending_statements}

pub steps_statements : (t : Transition) → transition_statements (transition_value t)
    ≡ actions_statements (actions_of (map statement_value (out-Transition t).actions.items))
    ++ ending_statements (option_map ending_value (out-Transition t).terminator)
steps_statements t =
    ap (λ u. transition_statements (transition_value u)) (sym (roll-out-Transition t))
    ∙ ap transition_statements (steps_value (out-Transition t).actions (out-Transition t).terminator)

pub decision_statements : (word : Spelling) (question : Expression) (parts : Vec AnswerPart Global)
    (otherwise : Option Transition) →
    action_statements (action_value (Decision word question parts otherwise))
    ≡ mark_word mark.Decision word ∷ (parts_statements (parts_of (map answer_part_value parts.items))
    ++ otherwise_statements (else_of (option_map transition_value otherwise)))
decision_statements word question parts otherwise = ap action_statements (decision_value word question parts otherwise)

-- the statements of the transition behind some answers
abbrev pub part_statements : tree.Part → List Spot
part_statements part = transition_statements part.transition

pub answered_statements : (p : AnswerPart) →
    transition_statements (answer_part_value p).transition
    ≡ transition_statements (transition_value (out-AnswerPart p).transition)
answered_statements p =
    ap (λ q. part_statements (answer_part_value q)) (sym (roll-out-AnswerPart p))
    ∙ ap part_statements (answered_value (out-AnswerPart p).answers (out-AnswerPart p).transition)
