use Rattle.std.proofs.Common.{◌≡◌, ◌∙◌, ap, arith, rules}
use Rattle.run_record.specs.Told.{event_told}
use Rattle.view_coverage.specs.Marks.{marks_of}
use Rattle.view_coverage.proofs.MarkLemmas.{marks-step}
use Rattle.view_coverage.proofs.marks.count.add_marks.Goals as goal

pub loop-told-preserved : goal.loop-told-preserved
loop-told-preserved c = record {
  counted = λ part within.
      let size = c.loop-told.invariant.size in
      marks-step c.args.variable c.loop-told.told-iterator c.next.new.self (event_told c.in-Some.told) part
      c.mark_of.result _ _ _ c.in-Some.ensures.steps c.mark_of.ensures
      (c.in_ok-add_mark.ensures.added part (omega (arith, within, size))) (c.loop-told.invariant.counted part within);
  size = c.add_mark.ensures.size ∙ c.loop-told.invariant.size;
}

pub returns-clause-added : goal.returns-clause-added
returns-clause-added c = λ part within.
    let all = c.loop-told.invariant.counted part within in
    let none : marks_of c.args.variable c.loop-told.told-iterator part ≡ 0 =
    ap (λ l. marks_of c.args.variable l part) c.in-None.ensures.steps.0 in
    let read : c.into_iter-told-iterator.result ≡ c.args.one.now.events = search rules in
    let whole : marks_of c.args.variable c.into_iter-told-iterator.result part
    ≡ marks_of c.args.variable c.args.one.now.events part = ap (λ l. marks_of c.args.variable l part) read in
    omega (arith, all, none, whole)
