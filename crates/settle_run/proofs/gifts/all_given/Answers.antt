-- One record more.
use Rattle.std.proofs.Common.{arith, rules, subst, ℕ, List}
use Rattle.port_model.specs.declared.values.value.Value.{Value}
use Rattle.run_record.specs.Record.{RecordValue}
use Rattle.settle_checks.proofs.AccountLists.{at_done, at_more}
use Rattle.settle_run.proofs.GiftLemmas.{given_one}
use Rattle.settle_run.specs.Gifts.{IsGivenOne, children_at, given_at, given_by}
use Rattle.settle_run.proofs.gifts.all_given.Goals as goal

pub loop-k-preserved : goal.loop-k-preserved
loop-k-preserved c =
    let places : List ℕ = c.in_ok-places.places.items in
    let gifts = c.args.gifts.now in
    let k = c.loop-k.k in
    let trace = c.index-records-k-in-loop-k.result in
    let one = c.index-gifts-k.result in
    let given : ℕ → List Value = given_by places gifts in
    let so : IsGivenOne given trace one.given one.children.items =
    subst (λ (l : List ℕ). IsGivenOne (given_by l gifts) trace one.given one.children.items) c.as_slice.ensures.value
    (c.is_given.ensures c.if-not-is_given.false) in
    at_more (λ k (t : RecordValue). IsGivenOne given t (given_at gifts k) (children_at gifts k)) c.args.records.now k
    trace (search rules) c.index-records-k-in-loop-k.is c.loop-k.invariant
    (given_one gifts given trace k one (omega (arith, c.if-k-gifts.false)) c.index-gifts-k.is so)

pub returns : goal.returns
returns c =
    let gifts = c.args.gifts.now in
    let given : ℕ → List Value = given_by c.in_ok-places.places.items gifts in
    record {
      given = given;
      each = at_done (λ k (t : RecordValue). IsGivenOne given t (given_at gifts k) (children_at gifts k))
          c.args.records.now c.loop-k.k (search rules) c.loop-k.invariant;
    }
