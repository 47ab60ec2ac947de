-- As many were put, or some may be missing.
use Rattle.std.proofs.Common.{◌≡◌, ◌∙◌, ap, get_or, inl, inr, map, subst}
use Rattle.settle_checks.proofs.HeardLemmas.{heard_enough}
use Rattle.settle_checks.specs.Outputs.{IsEnoughHeard, IsTallied, no_tally, outline_to, targets_of}
use Rattle.settle_meaning.specs.Puts.{IsNamed}
use Rattle.settle_checks.proofs.heard.is_enough.Goals as goal

pub returns-then-all-put_to : goal.returns-then-all-put_to
returns-then-all-put_to c = λ _ heard are named.
    let to = c.args.to.now in
    let number = c.pid-number.result in
    let t = get_or c.args.row.now number no_tally in
    let same : number ≡ to.pid = c.pid-number.ensures in
    let is : IsTallied (map outline_to (targets_of heard)) to.pid t =
    subst (λ n. IsTallied (map outline_to (targets_of heard)) n t) same (are number c.if-number-row.false) in
    let as_put : c.put_to.result ≡ get_or c.args.sent.now to.pid 0 =
    c.put_to.ensures ∙ ap (λ n. get_or c.args.sent.now n 0) same in
    subst (λ n. IsEnoughHeard (IsNamed heard) heard to n) as_put
    (heard_enough heard to c.put_to.result t is (inl c.if-all-put_to.true))

pub returns-else-all-put_to : goal.returns-else-all-put_to
returns-else-all-put_to c = λ may heard are named.
    let to = c.args.to.now in
    let number = c.pid-number.result in
    let t = get_or c.args.row.now number no_tally in
    let same : number ≡ to.pid = c.pid-number.ensures in
    let is : IsTallied (map outline_to (targets_of heard)) to.pid t =
    subst (λ n. IsTallied (map outline_to (targets_of heard)) n t) same (are number c.if-number-row.false) in
    let as_put : c.put_to.result ≡ get_or c.args.sent.now to.pid 0 =
    c.put_to.ensures ∙ ap (λ n. get_or c.args.sent.now n 0) same in
    subst (λ n. IsEnoughHeard (IsNamed heard) heard to n) as_put
    (heard_enough heard to c.put_to.result t is (inr (c.may_miss.ensures may heard named)))
