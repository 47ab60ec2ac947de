-- The words of the proofs here and of those that cite them: of the grammar, of its reading, and the reader's laws.
pub use Rattle.sdl_parse.specs.Transitions.{action, action_marks, decision_with, ending_with, join_with, next_with, part_with, statement_with, steps_with, terminator_marks, trans, trans_of}
unfoldable pub use Rattle.sdl_parse.specs.Transitions.{action_of, begins_action, begins_statement, begins_terminator, decision, decision_of, join, label, next, next_state, otherwise, part, steps_from, stop, terminator}
pub use Rattle.parse_expressions.proofs.AllLaws.{Anywhere, BeginsOne, Choice, Complete, Drops, Form, Gives, GoesOn, GoodAfter, IsHead, IsMarked, IsRest, Law, Made, MaybeLaw, Never, Nothing, Or, Rules, SameFront, Stops, Tied, TooMany, args_law, as_choice, as_law, before_law, begins_seen, begins_unnamed, begins_unseen, behind_law, bind_is, both_law, closed_law, closed_list_law, closing_begins, closing_law, drops_law, either_as, either_law, either_rules, enclosed_law, end_name_law, end_other, ended_law, erased_both, expr_law, far_rules, first_word, followed_law, has_mark, have_mark, if_false, if_true, in_parentheses_law, level_begins, made_as, made_complete, made_law, mark_law, marked_law, maybe_choice, maybe_enclosed, maybe_law, maybe_mark, name_begins, name_front, name_last, name_law, named_law, nameless, no_name, node_law, none_as, not_refused, nothing_law, nowhere_law, number_law, one_choice, one_front, operator_at_again, operator_at_ok, operator_front, optional_law, or_choice, or_left, or_right, or_rules, others_unseen, passed_front, passes, plain_name, read_as, record_law, refuse_rules, renamed, repeated_law, repeated_open_law, rest_here, same_law, same_rules, same_value, seen_begins, sees_again, sees_at, sees_front, sees_last, sees_ok, sees_other, separated_begins, separated_law, shut_first, shut_rules, sig_law, signal_law, signal_list_law, signal_set_law, sigs_law, some_as, some_read, sort_law, sorts_law, sound, spelled_again, stands, steps_if, steps_in, still, stops_at, stops_end, stops_last, stops_law, stops_rules, then_complete, then_law, tied_law, true_or_false, until_by, until_law, was_told, whole, Told, optional_at, repeated_at, names_law, closed_same}
pub use Rattle.parse_expressions.proofs.Grammar.{Action, Actions, Active, Agent, AndAction, AndPart, Answer, Applied, AreAlike, Assignment, Barred, Before, Begins, Behind, Block, BlockPart, BodyPart, Both, Chain, Channel, ChannelEnd, ChannelPath, Compared, Connect, ContinuousSignal, Counts, Create, Decision, Deep, Definition, Destination, Else, Ended, Ending, Env, Expr, Fails, Fixed, Followed, FormalParameters, FreeAction, InBlock, InParentheses, InSystem, Input, InputAll, InputList, InputPart, Inputs, IsBarred, IsLeftOut, IsMark, IsOpening, Join, Keyword, KeywordValue, ListItem, LocalDefinition, LocalSignalList, LocalSignalSet, LocalSignals, LocalSynonyms, Mark, Named, Next, NextState, NoAction, NoElse, NoPart, Numeral, OpensTooMany, Operator, Optional, Otherwise, Outcome, Output, Paren, Parser, Part, Parts, PriorityHead, PriorityInput, Process, Range, Refusal, Refused, Repeated, RepeatedOnce, Reset, Same, SaveAll, SaveList, SavePart, Saved, Separated, Set, SetClause, SignalItem, SignalList, SignalListItem, Signals, Spelling, SpellsAction, SpellsAnswer, SpellsApplied, SpellsAssignment, SpellsAt, SpellsBlock, SpellsBlockPart, SpellsBodyPart, SpellsBound, SpellsChannel, SpellsClause, SpellsClosing, SpellsCondition, SpellsConnect, SpellsCounts, SpellsDcl, SpellsDecision, SpellsDef, SpellsDestination, SpellsElse, SpellsEnd, SpellsEndConnection, SpellsEndState, SpellsEndStateName, SpellsEnding, SpellsExpr, SpellsFpar, SpellsIn1, SpellsInitial, SpellsInner, SpellsIns, SpellsLabel, SpellsLink, SpellsName, SpellsNextState, SpellsNoDelay, SpellsOne, SpellsParameters, SpellsPart, SpellsPath, SpellsPdef, SpellsPoint, SpellsPrimary, SpellsPriority, SpellsProcess, SpellsSaved, SpellsSig, SpellsSignal, SpellsSignalList, SpellsSignalSet, SpellsStart, SpellsStatement, SpellsStates, SpellsStimulus, SpellsSynonym, SpellsSynonymName, SpellsSystemDef, SpellsTerminator, SpellsTrans, SpellsTransBy, SpellsTree, SpellsVariables, Spot, Start, StateAll, StateList, StatePart, Statement, States, Steps, Stimulus, Stop, Synonyms, SystemDefinition, Task, Terminator, Timers, To, Transition, Tree, Unary, UnaryOperator, Value, Variables, Wherever, Word, Words, actions_of, and_then, either, else_in, else_of, erased, erased_action, erased_actions, erased_answer, erased_applied, erased_assignment, erased_block, erased_block_part, erased_body_part, erased_bound, erased_channel, erased_clause, erased_condition, erased_connection, erased_counts, erased_definition, erased_destination, erased_end, erased_ending, erased_expr, erased_fpar, erased_input, erased_inputs, erased_local, erased_name, erased_next_state, erased_number, erased_otherwise, erased_parameters, erased_parts, erased_path, erased_process, erased_saved, erased_start, erased_states, erased_stimulus, erased_synonym, erased_synonyms, erased_system_definition, erased_terminator, erased_timer, erased_timers, erased_transition, erased_variables, erased_word, exprs_in, limit, links_in, looseness, loosest, made, maybe, operator_mark, parts_in, parts_of, plain, pure, refuse, repeated, sees_one, sees_operator, separated, statements_in, unary_mark, value_mark, word_place, words_of, ◌⊗◌}
unfoldable pub use Rattle.parse_expressions.proofs.Grammar.{expect, front, mark_at, name, operator_at, rest, same_mark, sees, sees_name}
pub use Rattle.sdl_tree.specs.Spells.Expressions.{SpellsTimer}
pub use Rattle.std.proofs.Common.{Bool, Err, List, None, Ok, Option, Some, [], ap, append-nil, append_assoc, arith, codes, false, if◌then◌else◌, inl, inr, is_some, length, length-append, map, option_map, refl, subst, suc, sym, true, true≢false, zero, ℕ, ◌++◌, ◌||◌, ◌∙◌, ◌∷◌, ◌≡◌, ◌≤◌, ◌⊎◌}

-- a node that is made so, spelled as any of its type is
abbrev pub As : {A B : Type 0} → Form B → (A → B) → Form B
As R f = Made f (λ x. R (f x))
