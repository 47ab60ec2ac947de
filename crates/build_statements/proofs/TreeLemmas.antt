-- What the definitions make of transitions and decisions that keep lists.
use Rattle.std.proofs.Common.{◌≡◌, ◌∙◌, ◌++◌, List, [], ◌∷◌, Option, flat_map, map, option_map, refl, ap, sym}
use Rattle.build_statements.specs.Contexts.{Context}
use Rattle.build_statements.specs.Transitions.{part_faults, parts_faults, piece_in, pieces_in}
use Rattle.build_expressions.specs.Partial.{all_some, both}
use Rattle.build_expressions.specs.declared.operand_sort.OperandSort.{OperandSort}
use Rattle.sdl_tree.proofs.ViewLemmas.{answered_value, steps_value}
use Rattle.sdl_tree.specs.Tree as tree
use Rattle.sdl_tree.specs.Tree.{actions_of, parts_of}
use Rattle.sdl_tree.specs.Views.{answer_part_value, answer_value, ending_value, statement_value, transition_value}
use Rattle.sdl_tree.specs.declared.behaviour.AnswerPart.{AnswerPart, out-AnswerPart, roll-out-AnswerPart}
use Rattle.sdl_tree.specs.declared.behaviour.Transition.{Transition, out-Transition, roll-out-Transition}

pub transition-tree : (t : Transition) → transition_value t
    ≡ tree.Steps (actions_of (map statement_value (out-Transition t).actions.items))
    (option_map ending_value (out-Transition t).terminator)
transition-tree t =
    ap transition_value (sym (roll-out-Transition t))
    ∙ steps_value (out-Transition t).actions (out-Transition t).terminator

pub part-tree : (p : AnswerPart) → answer_part_value p
    ≡ record {
      answers = map answer_value (out-AnswerPart p).answers.items;
      transition = transition_value (out-AnswerPart p).transition;
    }
part-tree p =
    ap answer_part_value (sym (roll-out-AnswerPart p))
    ∙ answered_value (out-AnswerPart p).answers (out-AnswerPart p).transition

pub pieces-list : (context : Context) (question : Option OperandSort) (list : List tree.Part) →
    pieces_in context question (parts_of list) ≡ all_some (map (piece_in context question) list)
pieces-list context question [] = refl
pieces-list context question (part ∷ rest) =
    ap (both ◌∷◌ (piece_in context question part)) (pieces-list context question rest)

pub part_faults-list : (context : Context) (question : Option OperandSort) (list : List tree.Part) →
    parts_faults context question (parts_of list) ≡ flat_map (part_faults context question) list
part_faults-list context question [] = refl
part_faults-list context question (part ∷ rest) =
    ap (λ faults. part_faults context question part ++ faults) (part_faults-list context question rest)
