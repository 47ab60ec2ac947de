use Rattle.std.proofs.Common.{◌≡◌, ◌+◌, ◌++◌, ◌<◌, Some, length, refl, rules, ap, ◌∙◌, arith, slice_get, subst}
use Rattle.std.proofs.lemmas.Option.{slice_get_read}
use Rattle.serial_order.specs.RunState.{first_of}
use Rattle.serial_run.proofs.Beginning.{begun-process, living-none, none-serial}
use Rattle.run_semantics.specs.World.{Living}
use Rattle.serial_run.proofs.instances.Instances.begin.Goals as goal
use Rattle.sdl_system.specs.System.{SystemValue}

pub loop-number-init : goal.loop-number-init
loop-number-init c = record {
  serial = none-serial c.args.agenda.now.ready _ (living-none c.args.system.now _ c.in_ok-new.field-0 (ap length c.processes.ensures)
      c.in_ok-new.ensures) c.new.ensures.items c.requires;
  system = refl;
  clock = refl;
  fuses = refl;
  instances = c.new.ensures.items;
}

pub begin_all-requires-clause-process : goal.begin_all-requires-clause-process
begin_all-requires-clause-process c =
    let list = c.processes-process-items.result.now in
    let n = c.loop-number.number in
    let process = c.process-item.result in
    let inside : n < length list = search rules in
    let there : slice_get c.args.system.now.processes n ≡ Some process =
    subst (λ all. slice_get all n ≡ Some process) c.processes-process-items.ensures
    (slice_get_read list (length list) n process refl inside c.process-item.is) in
    let number : c.in-Ok.number ≡ n = omega (arith, c.in-Ok.ensures) in
    ap (λ (system : SystemValue). slice_get system.processes c.in-Ok.number) c.loop-number.invariant.system
    ∙ ap (slice_get c.args.system.now.processes) number ∙ there

pub loop-number-preserved : goal.loop-number-preserved
loop-number-preserved c =
    let system = c.args.system.now in
    let list = c.processes-process-items.result.now in
    let n = c.loop-number.number in
    let process = c.process-item.result in
    let before = c.loop-number.run in
    let after = c.begin_all.new.self in
    let is = c.loop-number.invariant in
    let did = c.in_ok-begin_all.ensures in
    let inside : n < length list = search rules in
    let there : slice_get system.processes n ≡ Some process =
    subst (λ all. slice_get all n ≡ Some process) c.processes-process-items.ensures
    (slice_get_read list (length list) n process refl inside c.process-item.is) in
    let number : c.in-Ok.number ≡ n = omega (arith, c.in-Ok.ensures) in
    record {
      serial = did.kept;
      system = ap (λ (r : _). r.now) c.begin_all.ensures.system ∙ is.system;
      clock = c.begin_all.ensures.clock ∙ is.clock;
      fuses = c.begin_all.ensures.fuses ∙ is.fuses;
      instances = begun-process system n c.in-Ok.number before.living.given process before.instances.items
          after.instances.items there
          (did.instances ∙ ap (λ (system : SystemValue). before.instances.items
          ++ first_of system (before.living.given + 1) (record { 0 = c.in-Ok.number }) process process.initial) is.system)
          number (ap (λ (living : Living). living.given) is.serial.living) is.instances;
    }
