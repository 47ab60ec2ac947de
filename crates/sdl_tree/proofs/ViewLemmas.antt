-- What the views make of nodes that keep a list of their own kind.
use Rattle.std.proofs.Common.{◌≡◌, refl, ap, ◌∙◌, map, Vec, Global, Option, Some, None, option_map}
use Rattle.sdl_tree.specs.declared.behaviour.Action.{Decision, Row_of-AnswerPart, end_of-AnswerPart, more_of-AnswerPart, items-the_row-AnswerPart, items_hidden-the_row-AnswerPart-0}
use Rattle.sdl_tree.specs.declared.behaviour.Action.TheBlock.{hidden-the_row-ActionStatement-1, hidden-the_row-AnswerPart-0}
use Rattle.sdl_tree.specs.declared.behaviour.ActionStatement.{ActionStatement}
use Rattle.sdl_tree.specs.declared.behaviour.Answer.{Answer}
use Rattle.sdl_tree.specs.declared.behaviour.AnswerPart.{AnswerPart, roll-AnswerPart, rolls-AnswerPart'}
use Rattle.sdl_tree.specs.declared.behaviour.AnswerPart as answer_part
use Rattle.sdl_tree.specs.declared.behaviour.TerminatorStatement.{TerminatorStatement}
use Rattle.sdl_tree.specs.declared.behaviour.Transition.{Transition, roll-Transition, rolls-Transition', Row_of-ActionStatement, end_of-ActionStatement, more_of-ActionStatement, items-the_row-ActionStatement, items_hidden-the_row-ActionStatement-1}
use Rattle.sdl_tree.specs.declared.expressions.Chain.{roll-Chain, rolls-Chain', Row_of-Link, end_of-Link, more_of-Link, items-the_row-Link, items_hidden-the_row-Link-1}
use Rattle.sdl_tree.specs.declared.expressions.Expression.{Expression, Active, Row_of-Expression, end_of-Expression, more_of-Expression, items-the_row-Expression, items_hidden-the_row-Expression-0}
use Rattle.sdl_tree.specs.declared.expressions.Expression.TheBlock.{hidden-the_row-Expression-0, hidden-the_row-Link-1}
use Rattle.sdl_tree.specs.declared.expressions.Link.{Link}
use Rattle.sdl_tree.specs.declared.name.Name.{Name}
use Rattle.sdl_tree.specs.declared.name.Spelling.{Spelling}
use Rattle.sdl_tree.specs.Tree.{exprs_of, links_of, actions_of, parts_of, else_of}
use Rattle.sdl_tree.specs.Tree as tree
use Rattle.sdl_tree.specs.Views.{name_value, expr_value, row_value, chain_value, links_value, link_value, transition_value, actions_value, action_value, statement_value, ending_value, parts_value, part_value, answer_value, answer_part_value}

exprs_of_row : (n : _) (row : Row_of-Expression n) → row_value row ≡ exprs_of (map expr_value (items-the_row-Expression n row))
exprs_of_row n end_of-Expression = refl
exprs_of_row n (more_of-Expression e rest) = ap (tree.AndExpr (expr_value e)) (exprs_of_row _ rest)

pub active_value : (word : Spelling) (timer : Name) (values : Vec Expression Global) →
    expr_value (Active word timer values) ≡ tree.Active word (name_value timer) (exprs_of (map expr_value values.items))
active_value word timer values =
    ap (tree.Active word (name_value timer))
    (exprs_of_row _ (hidden-the_row-Expression-0 values) ∙ ap (λ es. exprs_of (map expr_value es)) (items_hidden-the_row-Expression-0 values))

links_of_row : (n : _) (row : Row_of-Link n) → links_value row ≡ links_of (map link_value (items-the_row-Link n row))
links_of_row n end_of-Link = refl
links_of_row n (more_of-Link operator word operand rest) = ap (tree.AndLink operator word (expr_value operand)) (links_of_row _ rest)

pub chained_value : (first : Expression) (rest : Vec Link Global) →
    chain_value (roll-Chain (record { first = first; rest = rest })) ≡ tree.Chain (expr_value first) (links_of (map link_value rest.items))
chained_value first rest =
    ap chain_value (rolls-Chain' (record { first = first; rest = rest }))
    ∙ ap (tree.Chain (expr_value first))
    (links_of_row _ (hidden-the_row-Link-1 rest) ∙ ap (λ ls. links_of (map link_value ls)) (items_hidden-the_row-Link-1 rest))

actions_of_row : (n : _) (row : Row_of-ActionStatement n) → actions_value row ≡ actions_of (map statement_value (items-the_row-ActionStatement n row))
actions_of_row n end_of-ActionStatement = refl
actions_of_row n (more_of-ActionStatement label first rest) =
    ap (tree.AndAction (option_map name_value label) (action_value first)) (actions_of_row _ rest)

pub steps_value : (actions : Vec ActionStatement Global) (ending : Option TerminatorStatement) →
    transition_value (roll-Transition (record { actions = actions; terminator = ending }))
    ≡ tree.Steps (actions_of (map statement_value actions.items)) (option_map ending_value ending)
steps_value actions ending =
    ap transition_value (rolls-Transition' (record { actions = actions; terminator = ending }))
    ∙ ap (λ steps. tree.Steps steps (option_map ending_value ending))
    (actions_of_row _ (hidden-the_row-ActionStatement-1 actions) ∙ ap (λ ss. actions_of (map statement_value ss)) (items_hidden-the_row-ActionStatement-1 actions))

part_of_value : (part : AnswerPart) (rest : tree.Parts) →
    part_value part rest ≡ tree.AndPart (answer_part_value part).answers (answer_part_value part).transition rest
part_of_value (answer_part.AnswerPart' answers transition) rest = refl

parts_of_row : (n : _) (row : Row_of-AnswerPart n) → parts_value row ≡ parts_of (map answer_part_value (items-the_row-AnswerPart n row))
parts_of_row n end_of-AnswerPart = refl
parts_of_row n (more_of-AnswerPart part rest) =
    ap (part_value part) (parts_of_row _ rest) ∙ part_of_value part (parts_of (map answer_part_value (items-the_row-AnswerPart _ rest)))

pub decision_value : (word : Spelling) (question : Expression) (parts : Vec AnswerPart Global) (otherwise : Option Transition) →
    action_value (Decision word question parts otherwise)
    ≡ tree.Decision word (expr_value question) (parts_of (map answer_part_value parts.items)) (else_of (option_map transition_value otherwise))
decision_value word question parts None =
    ap (λ ps. tree.Decision word (expr_value question) ps tree.NoElse)
    (parts_of_row _ (hidden-the_row-AnswerPart-0 parts) ∙ ap (λ ps. parts_of (map answer_part_value ps)) (items_hidden-the_row-AnswerPart-0 parts))
decision_value word question parts (Some transition) =
    ap (λ ps. tree.Decision word (expr_value question) ps (tree.Else (transition_value transition)))
    (parts_of_row _ (hidden-the_row-AnswerPart-0 parts) ∙ ap (λ ps. parts_of (map answer_part_value ps)) (items_hidden-the_row-AnswerPart-0 parts))

pub answered_value : (answers : Vec Answer Global) (transition : Transition) →
    answer_part_value (roll-AnswerPart (record { answers = answers; transition = transition }))
    ≡ record { answers = map answer_value answers.items; transition = transition_value transition }
answered_value answers transition = ap answer_part_value (rolls-AnswerPart' (record { answers = answers; transition = transition }))
