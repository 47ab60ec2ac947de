use Rattle.std.proofs.Common.{length, sym, arith}
use Rattle.std.proofs.lemmas.Bool.{eqb-true}
use Rattle.std.proofs.lemmas.List.{length-drop, nil_from_length}
use Rattle.sdl_report.proofs.WriteLemmas.{sent_none, sent_more, sent_kept, sent_all, sent_part, some_left}
use Rattle.sdl_report.proofs.write_whole.write_text.Goals as goal
use Rattle.sdl_report.proofs.write_whole.write_text.Goals.{in-Ok, in-Err+else-not-is_interrupted}

pub loop-call-init : goal.loop-call-init
loop-call-init g c = sent_none _ _

pub loop-call-preserved : goal.loop-call-preserved
loop-call-preserved g c =
    elim c.match-write.branch [
      | in-Ok w ↦ rw (w.rest-is, w.split_at.ensures.back) (sent_more _ _ _ _ _ _ c.loop-call.invariant w.in-Ok.ensures.bytes)
      | in-Err+else-not-is_interrupted w ↦ rw w.rest-is (sent_kept _ _ _ _ _ c.loop-call.invariant w.in-Err.ensures.bytes)
    ]

pub returns-then-is_empty-clause-ok : goal.returns-then-is_empty-clause-ok
returns-then-is_empty-clause-ok g c =
    sent_all _ _ _ _ c.loop-call.invariant
    (nil_from_length c.loop-call.rest.now (eqb-true (length c.loop-call.rest.now) 0 (sym c.if-is_empty.ensures)))

pub returns-in-Ok-eq0-clause-err : goal.returns-in-Ok-eq0-clause-err
returns-in-Ok-eq0-clause-err g c =
    let some = some_left c.loop-call.rest.now c.if-is_empty.ensures in
    sent_part _ _ _ _ (sent_more _ _ _ _ _ _ c.loop-call.invariant c.in-Ok-eq0.ensures.bytes)
    (omega (arith, some, c.in-Ok-eq0.field-0-test, length-drop c.in-Ok-eq0.field-0 c.loop-call.rest.now))

pub returns-then-not-is_interrupted-clause-err : goal.returns-then-not-is_interrupted-clause-err
returns-then-not-is_interrupted-clause-err g c =
    sent_part _ _ _ _ (sent_kept _ _ _ _ _ c.loop-call.invariant c.in-Err.ensures.bytes)
    (some_left c.loop-call.rest.now c.if-is_empty.ensures)

pub returns-then-is_empty-2-clause-ok : goal.returns-then-is_empty-2-clause-ok
returns-then-is_empty-2-clause-ok g c =
    sent_all _ _ _ _ c.loop-call.invariant
    (nil_from_length c.loop-call.rest.now (eqb-true (length c.loop-call.rest.now) 0 (sym c.if-is_empty-2.ensures)))

pub returns-else-is_empty-2-clause-err : goal.returns-else-is_empty-2-clause-err
returns-else-is_empty-2-clause-err g c =
    sent_part _ _ _ _ c.loop-call.invariant (some_left c.loop-call.rest.now c.if-is_empty-2.ensures)
