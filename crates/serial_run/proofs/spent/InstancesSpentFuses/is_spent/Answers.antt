use Rattle.std.proofs.Common.{◌≡◌, ◌∙◌, ◌⊎◌, ◌<◌, Some, length, refl, rules, slice_get, subst, sym, vec_len}
use Rattle.std.proofs.lemmas.Option.{slice_get_read}
use Rattle.serial_run.proofs.Thinning.{spent_nowhere, spent_there}
use Rattle.serial_run.proofs.spent.InstancesSpentFuses.is_spent.Goals as goal

pub returns-in-Some : goal.returns-in-Some
returns-in-Some c =
    let all = c.args.self.now.instances.items in
    let place = c.in-Some.place in
    let i = c.index.result.now in
    let there : slice_get all place ≡ Some i =
    slice_get_read all (length all) place i refl (search rules) c.index.ensures in
    c.is_spent.ensures ∙ spent_there all place i c.args.fuse.now (c.in-Some.ensures.some.0 ∙ c.pid.ensures) there

pub returns-in-None : goal.returns-in-None
returns-in-None c =
    let s = c.args.self.now in
    let all = s.instances.items in
    let long : vec_len s.instances ≡ length all = search rules in
    let out = subst (λ k. (c.pid.result ≡ 0) ⊎ (k < c.pid.result)) long c.in-None.ensures.none in
    sym (spent_nowhere all c.args.fuse.now (subst (λ n. (n ≡ 0) ⊎ (length all < n)) c.pid.ensures out))
