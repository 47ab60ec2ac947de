use Rattle.std.proofs.Common.{◌∙◌, true, refl, sym}
use Rattle.run_order.proofs.SameValues.{by_entry, by_values, other_event}
use Rattle.run_order.proofs.Timing.{not_so}
use Rattle.run_order.proofs.comparing.is_same.Goals as goal

pub returns-then-not-same_entry : goal.returns-then-not-same_entry
returns-then-not-same_entry c =
    let one = c.args.one.entry in
    let other = c.args.other.entry in (
      λ yes. let no : ⊥ = cc in absurd no,
      λ same.
          absurd (other_event one other c.args.one.values.now c.args.other.values.now
          (not_so c.same_entry.result c.if-not-same_entry.true c.same_entry.ensures.1) same),
    )

pub returns-then-has_values : goal.returns-then-has_values
returns-then-has_values c =
    by_values c.are_same.result c.args.one.entry c.args.other.entry c.args.one.values.now c.args.other.values.now
    (c.same_entry.ensures.0 c.if-not-same_entry.false) (sym c.has_values.ensures ∙ c.if-has_values.true)
    c.are_same.ensures

pub returns : goal.returns
returns c =
    by_entry true c.args.one.entry c.args.other.entry c.args.one.values.now c.args.other.values.now refl
    (c.same_entry.ensures.0 c.if-not-same_entry.false) (sym c.has_values.ensures ∙ c.if-has_values.false)
