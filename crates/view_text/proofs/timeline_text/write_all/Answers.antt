use Rattle.std.proofs.Common.{◌++◌, ◌∷◌, [], List, ◌∙◌, ap, append_assoc, append-nil, arith, length, refl, sym, subst}
use Rattle.std.specs.List.{flat_map}
use Rattle.std.specs.String.{string_bytes}
use Rattle.sdl_report.specs.Gathered.{Grows}
use Rattle.sdl_report.proofs.GatheredLemmas.{Grows-gathered, OnErr-any}
use Rattle.view_text.specs.Occurrence.{occurrence_value}
use Rattle.view_text.specs.Occurrences.{Occurrence, occurrence_text}
use Rattle.view_text.proofs.Writing.{breaks-step, grows-step}
use Rattle.view_text.proofs.timeline_text.write_all.Goals as goal

pub loop-next-init : goal.loop-next-init
loop-next-init g c = (
  [],
  refl,
  Grows-gathered (g.W.Write.contents c.args.writer.now) (string_bytes c.args.text.now) (string_bytes c.args.text.now) []
      (sym (append-nil (string_bytes c.args.text.now))),
)

pub returns-in_err-write_one-clause-err : goal.returns-in_err-write_one-clause-err
returns-in_err-write_one-clause-err g c =
    let f = occurrence_text (g.T.TimelineText.step_text c.args.view.now) (g.T.TimelineText.lost_text c.args.view.now) in
    let passed = c.loop-next.invariant.0 in
    OnErr-any c.from_residual.result
    (breaks-step f passed (occurrence_value c.in-Some.next) _ _ _ _ _ c.loop-next.invariant.2 _ _
    (ap (λ l. passed ++ l) (sym c.in-Some.ensures) ∙ c.loop-next.invariant.1) c.in_err-write_one.ensures.err)

pub loop-next-preserved : goal.loop-next-preserved
loop-next-preserved g c =
    let f = occurrence_text (g.T.TimelineText.step_text c.args.view.now) (g.T.TimelineText.lost_text c.args.view.now) in
    let passed = c.loop-next.invariant.0 in
    let step = occurrence_value c.in-Some.next in (
      passed ++ step ∷ [],
      append_assoc passed (step ∷ []) _ ∙ ap (λ l. passed ++ l) (sym c.in-Some.ensures) ∙ c.loop-next.invariant.1,
      grows-step f passed step _ _ _ _ _ c.loop-next.invariant.2 _ c.in_ok-write_one.ensures.ok,
    )

pub loop-next-smaller : goal.loop-next-smaller
loop-next-smaller g c = let e = ap length c.in-Some.ensures in omega (arith, e)

pub returns-clause-ok : goal.returns-clause-ok
returns-clause-ok g c =
    let f = occurrence_text (g.T.TimelineText.step_text c.args.view.now) (g.T.TimelineText.lost_text c.args.view.now) in
    let passed = c.loop-next.invariant.0 in
    subst
    (λ (l : List Occurrence). Grows (g.W.Write.contents c.args.writer.now) (string_bytes c.args.text.now)
    (g.W.Write.contents c.loop-next.writer) (string_bytes c.loop-next.text) (flat_map f l))
    (sym (append-nil passed) ∙ ap (λ l. passed ++ l) (sym c.in_default.ensures) ∙ c.loop-next.invariant.1)
    c.loop-next.invariant.2
