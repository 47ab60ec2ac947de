-- What a transition does, and the rules that it breaks (Z.102: transition, decision).
use Rattle.std.specs.Prelude.{◌++◌, List, [], ◌∷◌, Option, None, Some, option_map}
use Rattle.build_statements.specs.Contexts.{Context, label_in}
use Rattle.build_statements.specs.Faulty.{answers_faults, asked_faults, assignment_faults, create_faults, output_faults, setting_faults, terminator_faults, timing_faults}
use Rattle.build_statements.specs.Statements.{answers_in, asked_in, create_in, kind_in, output_in, reset_in, set_in, task_in, terminator_in}
use Rattle.build_names.specs.Faults.{Diagnostic}
use Rattle.build_expressions.specs.Partial.{both}
use Rattle.build_expressions.specs.Typing.{Typed, term_in}
use Rattle.build_expressions.specs.declared.operand_sort.OperandSort.{OperandSort}
use Rattle.sdl_system.specs.Body as body
use Rattle.sdl_system.specs.Body.{Body}
use Rattle.sdl_system.specs.Term.{Term}
use Rattle.sdl_system.specs.declared.answer.Answer as answers
use Rattle.sdl_tree.specs.Tree as tree
use Rattle.sdl_tree.specs.Tree.{Transition, Actions, Steps, NoAction, AndAction, NoPart, AndPart, Otherwise, NoElse, Else, Ending}
use Rattle.sdl_tree.specs.Words.{Spot}
use Rattle.std.specs.List.{flat_map}

-- the answers that lead to one part of a decision, and the part
pub record Piece : Type 0 where
  pub answers : List answers.Answer
  pub body : Body

abbrev pub piece : List answers.Answer → Body → Piece
piece answers body = record { answers = answers; body = body }

-- the parts of a decision, with the one behind `else`, where it stands
abbrev pub parts_of : List Piece → Option Body → body.Parts
parts_of [] None = body.no_part
parts_of [] (Some other) = body.otherwise other
parts_of (first ∷ rest) other = body.part first.answers first.body (parts_of rest other)

-- what stands before the rest of a transition
pub data Head : Type 0 where
  acts : (action : body.Action) → Head
  asks : (question : Term) (parts : body.Parts) → Head

abbrev pub before : Head → Body → Body
before (acts action) rest = body.action action rest
before (asks question parts) rest = body.decision question parts rest

abbrev pub asks_in : Option Typed → Option (List Piece) → Option (Option Body) → Option Head
asks_in question pieces other = both asks (term_in question) (both parts_of pieces other)

-- a body with its label, where one stands
abbrev pub labelled : Context → Option Spot → Option Body → Option Body
labelled context None b = b
labelled context (Some name) b = both body.label (label_in context name.text) b

abbrev pub ending_in : Context → Option Ending → Option Body
ending_in context None = Some body.nothing
ending_in context (Some ending) =
    labelled context ending.label (option_map body.ending (terminator_in context ending.terminator))

abbrev mutual
  -- what a transition does; nothing is said where a statement in it has no meaning
  pub body_in : Context → Transition → Option Body
  body_in context (Steps actions ending) = steps_in context actions (ending_in context ending)

  pub steps_in : Context → Actions → Option Body → Option Body
  steps_in context NoAction end = end
  steps_in context (AndAction name first rest) end =
      labelled context name (both before (head_in context first) (steps_in context rest end))

  pub head_in : Context → tree.Action → Option Head
  head_in context (tree.Task word assignments) = option_map acts (task_in context assignments)
  head_in context (tree.Output word outputs destination) = option_map acts (output_in context outputs destination)
  head_in context (tree.Set word clauses) = option_map acts (set_in context clauses)
  head_in context (tree.Reset word groups) = option_map acts (reset_in context groups)
  head_in context (tree.Create word applied) = option_map acts (create_in context applied)
  head_in context (tree.Decision word question parts other) =
      asks_in (asked_in context question) (pieces_in context (kind_in (asked_in context question)) parts)
      (other_in context other)

  pub pieces_in : Context → Option OperandSort → tree.Parts → Option (List Piece)
  pieces_in context question NoPart = Some []
  pieces_in context question (AndPart answers transition rest) =
      both ◌∷◌ (both piece (answers_in context question answers) (body_in context transition))
      (pieces_in context question rest)

  -- what stands behind `else`, or nothing
  pub other_in : Context → Otherwise → Option (Option Body)
  other_in context NoElse = Some None
  other_in context (Else transition) = option_map Some (body_in context transition)

-- the answers of a part of a decision with what it does
abbrev pub piece_in : Context → Option OperandSort → tree.Part → Option Piece
piece_in context question part =
    both piece (answers_in context question part.answers) (body_in context part.transition)

-- ---- rules that are broken, in the order of the text

abbrev pub ending_faults : Context → Option Ending → List Diagnostic
ending_faults context None = []
ending_faults context (Some ending) = terminator_faults context ending.terminator

abbrev mutual
  pub transition_faults : Context → Transition → List Diagnostic
  transition_faults context (Steps actions ending) = steps_faults context actions ++ ending_faults context ending

  pub steps_faults : Context → Actions → List Diagnostic
  steps_faults context NoAction = []
  steps_faults context (AndAction name first rest) = action_faults context first ++ steps_faults context rest

  pub action_faults : Context → tree.Action → List Diagnostic
  action_faults context (tree.Task word assignments) = flat_map (assignment_faults context) assignments
  action_faults context (tree.Output word outputs destination) = output_faults context outputs destination
  action_faults context (tree.Set word clauses) = flat_map (setting_faults context) clauses
  action_faults context (tree.Reset word groups) = flat_map (flat_map (timing_faults context)) groups
  action_faults context (tree.Create word applied) = create_faults context applied
  action_faults context (tree.Decision word question parts other) =
      asked_faults context question
      ++ (parts_faults context (kind_in (asked_in context question)) parts ++ other_faults context other)

  pub parts_faults : Context → Option OperandSort → tree.Parts → List Diagnostic
  parts_faults context question NoPart = []
  parts_faults context question (AndPart answers transition rest) =
      (answers_faults context question answers ++ transition_faults context transition)
      ++ parts_faults context question rest

  pub other_faults : Context → Otherwise → List Diagnostic
  other_faults context NoElse = []
  other_faults context (Else transition) = transition_faults context transition

abbrev pub part_faults : Context → Option OperandSort → tree.Part → List Diagnostic
part_faults context question part =
    answers_faults context question part.answers ++ transition_faults context part.transition
