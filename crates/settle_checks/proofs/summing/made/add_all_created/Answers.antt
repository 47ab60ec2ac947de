-- The children of one record more are added.
use Rattle.std.proofs.Common.{◌≡◌, ◌∙◌, ◌++◌, List, ap, get_or, map, rules}
use Rattle.settle_checks.proofs.MadeLemmas.{record_more}
use Rattle.settle_checks.specs.Summary.{child_of}
use Rattle.settle_checks.specs.declared.summing.creating.Birth.{Birth}
use Rattle.settle_checks.proofs.summing.made.add_all_created.Goals as goal

pub loop-k-preserved : goal.loop-k-preserved
loop-k-preserved c =
    let records = c.args.records.now in
    let sums = c.args.sums.now in
    let k = c.loop-k.k in
    let d = c.index-records-k.result in
    let e = c.index-sums-k.result in
    let made = c.loop-k.made.items in
    let pid_is : c.pid.result ≡ (get_or records k d).pid = search rules in
    let births_are : c.deref.result.now ≡ (get_or sums k e).creating.births.items = search rules in
    record_more records sums k d e c.args.made.now.items made c.add_children.new.made.items c.requires
    c.loop-k-test.true
    c.loop-k.invariant
    (c.in_ok-add_children.ensures c.if-not-branch.false
    ∙ ap (λ n. made ++ map (child_of n) c.deref.result.now) pid_is
    ∙ ap (λ (l : List Birth). made ++ map (child_of (get_or records k d).pid) l) births_are)
