use Rattle.std.proofs.Common.{◌≡◌, Some, length, refl, rules, ap, ◌∙◌, sym, set, slice_get}
use Rattle.std.proofs.lemmas.Option.{slice_get_read}
use Rattle.serial_order.specs.RunState.{change_at, with_expiry}
use Rattle.serial_run.proofs.instances.Instances.fire.Goals as goal
use Rattle.serial_run.proofs.Changes.{change_there, expiry_is, serial-set, with_port}
use Rattle.serial_run.specs.Serial.{state_of}
use Rattle.serial_sweeps.specs.Sweeps.{at_agenda}

pub returns-clause-kept : goal.returns-clause-kept
returns-clause-kept c =
    let s = c.args.self.now in
    let before = s.instances.items in
    let place = c.in-Some.place in
    let old = c.index_mut.result.now in
    let there : slice_get before place ≡ Some old =
    slice_get_read before (length before) place old refl (search rules) c.index_mut.ensures.value in
    let now : c.expire.new.self ≡ with_expiry c.args.fuse c.args.agenda.now.clock old =
    expiry_is c.expire.result old c.expire.new.self c.args.fuse c.args.agenda.now.clock
    (sym c.is_err.ensures.value ∙ c.if-is_err.false) c.expire.ensures.state in
    serial-set s _ c.args.agenda.now.ready _ c.pid-number.result place old c.expire.new.self c.requires (sym c.in-Some.ensures.some.0) there
    (with_port old c.expire.new.self (with_expiry c.args.fuse c.args.agenda.now.clock old).owner.state now) refl refl refl
    c.in_ok-wake.ensures.ok

pub returns-clause-state : goal.returns-clause-state
returns-clause-state c = λ m.
    let s = c.args.self.now in
    let g = state_of (at_agenda m c.args.agenda.now) s in
    let fuse = c.args.fuse in
    let before = s.instances.items in
    let place = c.in-Some.place in
    let old = c.index_mut.result.now in
    let there : slice_get before place ≡ Some old =
    slice_get_read before (length before) place old refl (search rules) c.index_mut.ensures.value in
    let now : c.expire.new.self ≡ with_expiry fuse c.args.agenda.now.clock old =
    expiry_is c.expire.result old c.expire.new.self fuse c.args.agenda.now.clock (sym c.is_err.ensures.value ∙ c.if-is_err.false)
    c.expire.ensures.state in
    let instances : set before place c.expire.new.self ≡ change_at (with_expiry fuse c.args.agenda.now.clock) before fuse.pid =
    ap (set before place) now
    ∙ sym (change_there (with_expiry fuse c.args.agenda.now.clock) before fuse.pid place old
    (sym (c.in-Some.ensures.some.0 ∙ c.pid-number.ensures)) there) in
    ap (λ all. record g { instances = all }) instances
