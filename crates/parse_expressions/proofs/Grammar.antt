-- The words of the grammar and of its reading, for the proofs.
pub use Rattle.std.proofs.Common.{Bool, Err, Global, List, None, Ok, Option, Some, Vec, ℕ, [], ap, append-nil, append_assoc, arith, false, if◌then◌else◌, inl, inr, is_some, length, length-append, map, option_map, pos, refl, subst, suc, sym, true, true≢false, zero, ◌++◌, ◌+◌, ◌-◌, ◌<◌, ◌==◌, ◌||◌, ◌∙◌, ◌∷◌, ◌≡◌, ◌≤◌, ◌⊎◌}
pub use Rattle.parse_expressions.specs.Expressions.{Readers, active_with, by_mark, chain, chain_with, expr, keyword_with, link_with, marked, no_args, of_level, operator_of, paren_with, sees_operator, sees_unary, sees_value, unary_of, unary_with, value_of}
unfoldable pub use Rattle.parse_expressions.specs.Expressions.{active_of, deep_active, level, link, operator_at, paren_of, primary, readers, signed, unary_at, value_at}
pub use Rattle.parse_expressions.specs.Parts.{closed, closing_by, end_name, ended, followed, followed_by, sees_one, signal_list_with, signal_set_with, signal_with, tied}
unfoldable pub use Rattle.parse_expressions.specs.Parts.{closing, end, named, sig, signal, signal_list, signal_name, signal_set}
pub use Rattle.parse_expressions.specs.PlacedWord.{word_of_placed}
pub use Rattle.parse_expressions.specs.Reading.{Barred, Deep, Outcome, Parser, Refusal, Refused, and_then, another, before, behind, either, enclosed, in_parentheses, is_fixed, is_name, is_number, made, mark_by, maybe, on, pure, refuse, repeated, repeated_by, separated, too_deep, ◌⊗◌}
unfoldable pub use Rattle.parse_expressions.specs.Reading.{expect, front, mark_at, name, number, repeated_from, rest, same_mark, sees, sees_name, sees_number, text}
pub use Rattle.parse_expressions.specs.Reads.{Fails}
pub use Rattle.sdl_tree.specs.Alike.{AreAlike}
pub use Rattle.sdl_tree.specs.Depth.{IsOpening, OpensTooMany}
pub use Rattle.sdl_tree.specs.Erased.{erased, erased_action, erased_actions, erased_answer, erased_applied, erased_assignment, erased_block, erased_block_part, erased_body_part, erased_bound, erased_channel, erased_clause, erased_condition, erased_connection, erased_counts, erased_definition, erased_destination, erased_end, erased_ending, erased_expr, erased_exprs, erased_fpar, erased_input, erased_inputs, erased_item, erased_links, erased_local, erased_name, erased_next_state, erased_number, erased_otherwise, erased_parameters, erased_parts, erased_path, erased_process, erased_saved, erased_signal, erased_signal_list, erased_signal_set, erased_sort, erased_start, erased_states, erased_stimulus, erased_synonym, erased_synonyms, erased_system_definition, erased_terminator, erased_timer, erased_timers, erased_transition, erased_variables, erased_word, plain}
pub use Rattle.sdl_tree.specs.LeftOut.{IsBarred, IsLeftOut, PriorityHead}
pub use Rattle.sdl_tree.specs.Spells.{SpellsBlock, SpellsBlockPart, SpellsBound, SpellsChannel, SpellsConnect, SpellsCounts, SpellsDcl, SpellsDef, SpellsFpar, SpellsInitial, SpellsNoDelay, SpellsOne, SpellsParameters, SpellsPath, SpellsPdef, SpellsPoint, SpellsProcess, SpellsSignal, SpellsSignalList, SpellsSignalName, SpellsSignalSet, SpellsSynonym, SpellsSynonymName, SpellsSystemDef, SpellsTree, SpellsVariables}
pub use Rattle.sdl_tree.specs.Spells.Behaviour.{SpellsAction, SpellsAnswer, SpellsAssignment, SpellsBodyPart, SpellsClause, SpellsCondition, SpellsDecision, SpellsDestination, SpellsElse, SpellsEndConnection, SpellsEndState, SpellsEndStateName, SpellsEnding, SpellsIn1, SpellsIns, SpellsLabel, SpellsNextState, SpellsPart, SpellsPriority, SpellsSaved, SpellsStart, SpellsStatement, SpellsStates, SpellsStimulus, SpellsTerminator, SpellsTrans, SpellsTransBy}
pub use Rattle.sdl_tree.specs.Spells.Expressions.{SpellsApplied, SpellsAt, SpellsChain, SpellsExpr, SpellsInner, SpellsLink, SpellsPrimary, SpellsTimer, SpellsUnary, limit, looseness, loosest, operator_mark, unary_mark, value_mark}
pub use Rattle.sdl_tree.specs.Spells.Parts.{Before, Begins, Behind, Both, Enclosed, Ended, Followed, InParentheses, IsMark, Optional, Repeated, RepeatedOnce, Separated, SpellsClosing, SpellsEnd, SpellsEndName, SpellsName, SpellsNumber, SpellsSig, SpellsSigs, Unless, Wherever, sort_of}
pub use Rattle.sdl_tree.specs.Tree.{Action, Actions, Active, Agent, AndAction, AndExpr, AndLink, AndPart, Answer, Applied, Assignment, Block, BlockPart, BodyPart, Chain, Channel, ChannelEnd, ChannelPath, Compared, Connect, ContinuousSignal, Counts, Create, Decision, Definition, Destination, Else, Ending, Env, Expr, Exprs, FormalParameters, FreeAction, InBlock, InSystem, Input, InputAll, InputList, InputPart, Inputs, Join, Keyword, Link, Links, ListItem, LocalDefinition, LocalSignalList, LocalSignalSet, LocalSignals, LocalSynonyms, Named, Next, NextState, NoAction, NoElse, NoExpr, NoLink, NoPart, Number, Numeral, Otherwise, Output, Paren, Part, Parts, PriorityInput, Process, Range, Reset, Same, SaveAll, SaveList, SavePart, Saved, Set, SetClause, SignalItem, SignalList, SignalListItem, Signals, Start, StateAll, StateList, StatePart, Statement, States, Steps, Stimulus, Stop, Synonyms, SystemDefinition, Task, Terminator, Timers, To, Transition, Tree, Unary, Value, Variables, actions_of, else_in, else_of, exprs_in, exprs_of, links_in, links_of, parts_in, parts_of, statements_in}
pub use Rattle.sdl_tree.specs.Views.{chain_value, expr_value, link_value, name_value, statement_value, tree_value}
pub use Rattle.sdl_tree.specs.Words.{Fixed, Spot, Word, Words, word_place, words_of}
pub use Rattle.sdl_tree.specs.declared.expressions.KeywordValue.{KeywordValue}
pub use Rattle.sdl_tree.specs.declared.expressions.Operator.{Operator}
pub use Rattle.sdl_tree.specs.declared.expressions.UnaryOperator.{UnaryOperator}
pub use Rattle.sdl_tree.specs.declared.mark.Mark.{Mark}
pub use Rattle.sdl_tree.specs.declared.name.Spelling.{Spelling}
