-- One line more: it has no signal, or its signal went where it is to.
use Rattle.std.proofs.Common.{◌≡◌, ◌∙◌, ◌<◌, ◌+◌, length, rules, subst, sym, take, None}
use Rattle.std.specs.List.{AllZip}
use Rattle.sdl_system.specs.declared.route.Target.TheVariants as target
use Rattle.settle_checks.proofs.AccountRouteLemmas.{zip_none, zip_some}
use Rattle.settle_checks.specs.Account.{IsRight}
use Rattle.settle_meaning.specs.Puts.{signals_of}
use Rattle.settle_checks.proofs.account.routing.signals_right.Goals as goal
use Rattle.settle_checks.proofs.account.routing.signals_right.Goals.{in-Some+else-place-targets+else-not-is_right, in_default}

pub loop-line-preserved : goal.loop-line-preserved
loop-line-preserved c =
    let right = IsRight c.args.system.now c.args.records.now in
    let lines = c.args.lines.now in
    let targets = c.args.targets.now in
    let i = c.loop-line.line-index in
    elim c.match-line.branch [
      | in-Some+else-place-targets+else-not-is_right w ↦ (
          let below : c.loop-line.place < length targets = search rules in
          record {
            same = w.first-is ∙ w.is_right.ensures.same ∙ c.loop-line.invariant.same;
            right = subst (λ n. AllZip right (signals_of (take (i + 1) lines)) (take n targets)) (sym w.place-is)
                (zip_some right lines i c.line-item.result targets c.loop-line.place c.loop-line-test.true c.line-item.is
                c.loop-line.invariant.right w.in-Some.signal (target.Instance 0) w.in-Some.is below
                (w.is_right.ensures.right w.if-not-is_right.false));
          })
      | in_default w ↦ (
          let none : c.line-item.result.signal ≡ None = search rules in
          record {
            same = w.first-is ∙ c.loop-line.invariant.same;
            right = subst (λ n. AllZip right (signals_of (take (i + 1) lines)) (take n targets)) (sym w.place-is)
                (zip_none right lines i c.line-item.result targets c.loop-line.place c.loop-line-test.true c.line-item.is
                c.loop-line.invariant.right none);
          })
    ]
