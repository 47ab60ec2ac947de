use Rattle.std.proofs.Common.{option_map}
use Rattle.build_constants.proofs.CountLemmas.{counts_accepted, counts_noted}
use Rattle.build_constants.specs.Counts.{maximum_in}
use Rattle.build_names.specs.Faults.{mark_word}
use Rattle.build_expressions.specs.Scope.{scope_of}
use Rattle.sdl_tree.specs.Views.{bound_value, expr_value}
use Rattle.sdl_tree.specs.declared.mark.Mark.TheVariants as mark
use Rattle.build_constants.proofs.counts.stated.Goals as goal

pub returns-clause-counts : goal.returns-clause-counts
returns-clause-counts c =
    let counts = c.args.counts.now in
    counts_accepted (scope_of c.args.scope.now) (option_map expr_value counts.initial)
    (maximum_in (option_map bound_value counts.bound)) c.in_ok-initial.initial c.in_ok-maximum.maximum
    (option_map (λ e. expr_value e.now) c.initial_in.result) (option_map (λ e. expr_value e.now) c.maximum_in.result)
    c.initial_in.ensures c.maximum_in.ensures c.in_ok-initial.ensures.part c.in_ok-maximum.ensures.part
    c.accepted.result c.accepted.ensures.counts

pub returns-clause-noted : goal.returns-clause-noted
returns-clause-noted c =
    let counts = c.args.counts.now in
    counts_noted (scope_of c.args.scope.now) (option_map expr_value counts.initial)
    (maximum_in (option_map bound_value counts.bound)) c.in_ok-initial.initial c.in_ok-maximum.maximum
    (option_map (λ e. expr_value e.now) c.initial_in.result) (option_map (λ e. expr_value e.now) c.maximum_in.result)
    c.initial_in.ensures c.maximum_in.ensures c.in_ok-initial.ensures.part c.in_ok-maximum.ensures.part
    (mark_word mark.Open counts.parenthesis) c.args.faults.now c.read_part.new.faults
    c.read_part-2.new.faults c.accepted.new.faults c.in_ok-initial.ensures.noted
    c.in_ok-maximum.ensures.noted c.accepted.ensures.noted
