-- No process, or as many records as may live.
use Rattle.std.proofs.Common.{◌≡◌, ◌≤◌, None, Some, rules}
use Rattle.std.specs.Prelude.{slice_get}
use Rattle.settle_checks.proofs.NullLemmas.{full_process, no_process}
use Rattle.settle_meaning.specs.Identities.{count_of}
use Rattle.settle_checks.proofs.summing.nulls.is_full.Goals as goal

pub returns-in_default : goal.returns-in_default
returns-in_default c = λ _.
    let none : slice_get c.args.system.now.processes c.args.process.0 ≡ None = search rules in
    no_process c.args.system.now c.args.records.now c.args.process none

pub returns-in-Some-maximum : goal.returns-in-Some-maximum
returns-in-Some-maximum c = λ many.
    let is : slice_get c.args.system.now.processes c.args.process.0 ≡ Some c.in-Some.one.now = search rules in
    let bound : c.in-Some.one.now.maximum ≡ Some c.in-Some-maximum.most = search rules in
    let enough : c.in-Some-maximum.most ≤ count_of c.args.records.now c.args.process = search rules in
    full_process c.args.system.now c.args.records.now c.args.process c.in-Some.one.now c.in-Some-maximum.most is bound
    enough
