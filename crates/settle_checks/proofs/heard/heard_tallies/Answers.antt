-- One target more is noted.
use Rattle.std.proofs.Common.{◌≡◌, ◌∙◌, ◌+◌, ap, length, map, rules, subst, sym, take}
use Rattle.sdl_system.specs.declared.route.Target.TheVariants as target
use Rattle.settle_checks.proofs.HeardLemmas.{targets_all, targets_more}
use Rattle.settle_checks.proofs.TallyLemmas.{lent_back}
use Rattle.settle_checks.specs.Outputs.{AreTallied, outline_to}
use Rattle.settle_checks.proofs.heard.heard_tallies.Goals as goal

pub loop-target-preserved : goal.loop-target-preserved
loop-target-preserved c =
    let targets = c.args.targets.now in
    let i = c.loop-target.target-index in
    let old = c.loop-target.row.items in
    let new = c.note_target.new.row in
    let row : c.deref_mut.result.now ≡ old = c.deref_mut.ensures.value in
    let long : c.loop-target.row.len ≡ length old = search rules in
    let same : length new ≡ length old = c.note_target.ensures.len ∙ ap length row in
    subst (AreTallied (map outline_to (take (i + 1) targets))) (sym (lent_back old new c.loop-target.row.len long same))
    (subst (λ l. AreTallied l new) (sym (targets_more targets i (target.Instance 0) c.loop-target-test.true))
    (c.note_target.ensures.noted c.if-not-note_target.false (map outline_to (take i targets))
    (subst (AreTallied (map outline_to (take i targets))) (sym row) c.loop-target.invariant)))

pub returns : goal.returns
returns c =
    targets_all c.args.targets.now c.loop-target.target-index c.loop-target.row.items (search rules) c.loop-target.invariant
