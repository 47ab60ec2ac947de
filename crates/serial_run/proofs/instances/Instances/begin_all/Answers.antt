use Rattle.std.proofs.Common.{◌≡◌, ◌+◌, ◌++◌, ◌∷◌, [], ap, ◌∙◌, arith}
use Rattle.port_model.specs.declared.values.pid.Pid.TheVariants.{Null}
use Rattle.serial_order.specs.RunState.{instance_of}
use Rattle.serial_run.proofs.Beginning.{begun-more}
use Rattle.serial_run.proofs.instances.Instances.begin_all.Goals as goal

pub loop-preserved : goal.loop-preserved
loop-preserved c =
    let first = c.args.self.now in
    let before = c.loop.self in
    let after = c.enter.new.self in
    let process = c.args.process.now in
    let is = c.loop.invariant in
    let did = c.in_ok-enter.ensures in
    let pid = before.living.given + 1 in
    let next : pid ≡ first.living.given + 1 + c.loop.counter = omega (arith, is.given) in
    record {
      serial = did.kept;
      system = c.enter.ensures.system ∙ is.system;
      clock = c.enter.ensures.clock ∙ is.clock;
      fuses = c.enter.ensures.fuses ∙ is.fuses;
      given = did.given ∙ omega (arith, is.given);
      instances = begun-more first.system.now c.args.id process first.instances.items before.instances.items
          after.instances.items (first.living.given + 1) c.loop.counter pid c.none-none.result
          (did.instances ∙ ap (λ (system : _). before.instances.items ++ instance_of system.now process
          (record { process = c.args.id; pid = pid; parent = Null }) c.none-none.result ∷ []) is.system)
          c.none-none.ensures next is.instances;
    }
