-- What the proofs of readings of more than one crate cite.
pub use Rattle.parse_expressions.proofs.ClosingLaws.{Drops, Named, closed_law, closed_list_law, closing_begins, closing_law, drops_law, end_name_law, ended_law, followed_law, named_law, nowhere_law, closed_same}
pub use Rattle.parse_expressions.proofs.Depth.{GoesOn, IsHead, SameFront, TooMany, passed_front, renamed, within}
pub use Rattle.parse_expressions.proofs.ExpressionLaws.{args_law, expr_law, level_begins, plain_name}
pub use Rattle.parse_expressions.proofs.Laws.{Anywhere, Complete, Form, Gives, GoodAfter, Law, Made, MaybeLaw, Never, Nothing, Or, Rules, Tied, as_law, before_law, behind_law, both_law, either_as, either_law, either_rules, far_rules, made_as, made_complete, made_law, mark_law, maybe_law, node_law, nothing_law, optional_law, passes, refuse_rules, same_law, same_rules, shut_first, shut_rules, some_read, sound, spelled_again, stands, steps_if, steps_in, still, stops_law, stops_rules, then_complete, then_law, tied_law, was_read, was_told, Told}
pub use Rattle.parse_expressions.proofs.ListLaws.{erased_both, repeated_law, repeated_open_law, separated_begins, separated_law, until_by, until_law, optional_at, repeated_at}
pub use Rattle.parse_expressions.proofs.OperatorLaws.{IsMarked, Stops, marked_law, operator_at_again, operator_at_ok, operator_front, stops_at, stops_end, stops_last}
pub use Rattle.parse_expressions.proofs.PartLaws.{enclosed_law, end_other, in_parentheses_law, maybe_enclosed, name_begins, name_front, name_last, name_law, nameless, no_name, number_law, sig_law, whole, names_law}
pub use Rattle.parse_expressions.proofs.SignalLaws.{BeginsOne, Choice, as_choice, begins_seen, begins_unnamed, begins_unseen, has_mark, have_mark, maybe_choice, maybe_mark, one_choice, one_front, or_choice, or_left, or_right, or_rules, others_unseen, record_law, seen_begins, signal_law, signal_list_law, signal_set_law, sigs_law, sort_law, sorts_law}
pub use Rattle.parse_expressions.proofs.Steps.{IsRest, StandsAt, bind_is, first_word, if_false, if_true, none_as, not_read, not_refused, read_as, rest_here, same_value, sees_again, sees_at, sees_front, sees_last, sees_ok, sees_other, some_as, true_or_false}
