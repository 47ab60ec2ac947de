use Rattle.std.proofs.Common.{◌∙◌, ◌+◌, ap, option_copied, sym}
use Rattle.port_model.specs.declared.selection.Class.TheVariants.{Discard}
use Rattle.build_tables.specs.Linked.{choice_by}
use Rattle.build_tables.proofs.ListLemmas.{each-more}
use Rattle.build_tables.proofs.selection.selection_of.Goals as goal

pub loop-number-preserved : goal.loop-number-preserved
loop-number-preserved c =
    let classes = c.loop-number.classes in
    record {
      len = c.in_ok-push.ensures.len ∙ ap (λ n. n + 1) c.loop-number.invariant.len;
      each = rw c.in_ok-push.ensures.items
          (each-more classes.items c.choice_by-choice.result.class Discard c.loop-number.number
          (λ k. (choice_by c.args.parts.valid.now c.args.reactions.now (option_copied c.args.rest)
          (record { 0 = k })).class)
          (sym classes.ok.0 ∙ c.loop-number.invariant.len) c.loop-number.invariant.each
          (ap (λ choice. choice.class) c.choice_by-choice.ensures));
    }
