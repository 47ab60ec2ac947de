-- The totals tell it.
use Rattle.std.proofs.Common.{◌≡◌, ◌∙◌, ◌≤◌, ◌⊎◌, List, ap, inl, inr, subst}
use Rattle.settle_meaning.specs.Puts.{IsNamed, MayMiss}
use Rattle.settle_checks.proofs.SummingEnoughLemmas.{enough}
use Rattle.settle_checks.specs.Enough.{IsEnoughSince}
use Rattle.settle_checks.specs.Totals.{total}
use Rattle.settle_checks.specs.declared.summing.creating.Birth.{Birth}
use Rattle.settle_checks.proofs.summing.enough.is_enough.Goals as goal
use Rattle.settle_checks.proofs.summing.enough.is_enough.Goals.{else-all-put-via-else-all-put, else-all-put-via-then-all-put+else-not-may_miss}

pub returns : goal.returns
returns c = λ right heard named.
    let from = c.args.from.now in
    let to = c.args.to.now in
    let totals = c.args.totals.now in
    let births = c.args.sum.now.creating.births.items in
    let all_is : c.to-all.result ≡ total totals to.pid =
    c.to-all.ensures ∙ ap (λ n. total totals n) c.pid-number.ensures in
    let allowed : (total totals to.pid ≤ c.args.put) ⊎ MayMiss (IsNamed heard) from to =
    elim c.else-all-put.branch [
      | else-all-put-via-then-all-put+else-not-may_miss w ↦ inr (w.may_miss.ensures w.if-not-may_miss.false heard named)
      | else-all-put-via-else-all-put w ↦ inl (subst (λ n. n ≤ c.args.put) all_is w.if-all-put.false)
    ] in
    let since : IsEnoughSince births to.pid (total totals to.pid) c.args.put =
    subst (λ (l : List Birth). IsEnoughSince l to.pid (total totals to.pid) c.args.put) c.deref.ensures.value
    (subst (λ n. IsEnoughSince c.deref.result.now to.pid n c.args.put) all_is
    (subst (λ n. IsEnoughSince c.deref.result.now n c.to-all.result c.args.put) c.pid-number.ensures
    (c.are_enough_since.ensures right))) in
    enough from to c.args.sum.now totals c.requires.sum c.requires.totals (IsNamed heard) c.args.put allowed since
