-- One instance more is added.
use Rattle.std.proofs.Common.{◌≡◌, ◌∙◌, ◌+◌, ◌-◌, ◌++◌, ◌∷◌, [], ap, length, rules}
use Rattle.port_model.specs.declared.values.pid.Pid.TheVariants.{Null}
use Rattle.run_record.specs.declared.evaluation.identity.Identity.{Identity}
use Rattle.settle_checks.proofs.CreatedLemmas.{instance_more}
use Rattle.settle_meaning.specs.Identities.{first_of}
use Rattle.settle_checks.proofs.summing.made.add_instances.Goals as goal

pub loop-turn-preserved : goal.loop-turn-preserved
loop-turn-preserved c =
    let made = c.loop-turn.made.items in
    let process = c.args.process in
    let left = c.args.count - (c.loop-turn.turn + 1) in
    let who : Identity = record { process = process; pid = length made + 1; parent = Null } in
    let pushed : c.push.new.self.items ≡ made ++ who ∷ [] = search rules in
    ap (λ l. l ++ first_of (length l + 1) process left) pushed
    ∙ instance_more made process c.args.count c.loop-turn.turn c.loop-turn-test.true
    ∙ c.loop-turn.invariant
