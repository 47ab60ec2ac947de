-- The instances of one process more are added.
use Rattle.std.proofs.Common.{◌≡◌, ◌∙◌, ◌+◌, ◌++◌, ap, drop, length, rules, sym}
use Rattle.settle_checks.proofs.CreatedLemmas.{process_more}
use Rattle.settle_checks.proofs.SummingLists.{rest_is}
use Rattle.settle_meaning.specs.Identities.{first_identities, first_of}
use Rattle.settle_checks.proofs.summing.made.add_initial.Goals as goal

pub loop-process-preserved : goal.loop-process-preserved
loop-process-preserved c =
    let processes = c.args.processes.now in
    let i = c.loop-process.process-index in
    let item = c.process-item.result in
    let made = c.loop-process.made.items in
    let id = c.loop-process.id in
    let now = c.add_instances.new.made.items in
    let next : c.in-Some.next ≡ id + 1 = search rules in
    let added : now ≡ made ++ first_of (length made + 1) (record { 0 = id }) item.initial =
    c.in_ok-add_instances.ensures c.if-not-branch.false in
    ap (λ n. now ++ first_identities (length now + 1) n (drop (i + 1) processes)) next
    ∙ ap (λ l. l ++ first_identities (length l + 1) (id + 1) (drop (i + 1) processes)) added
    ∙ process_more made id item (drop (i + 1) processes)
    ∙ ap (λ l. made ++ first_identities (length made + 1) id l)
    (sym (rest_is processes i item c.loop-process-test.true c.process-item.is))
    ∙ c.loop-process.invariant
