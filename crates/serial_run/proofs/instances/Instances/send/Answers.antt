use Rattle.std.proofs.Common.{◌≡◌, Some, length, refl, rules, ap, ◌∙◌, sym, set, slice_get}
use Rattle.std.proofs.lemmas.Option.{slice_get_read}
use Rattle.serial_order.specs.RunState.{change_at, sent_to, with_put}
use Rattle.serial_run.proofs.instances.Instances.send.Goals as goal
use Rattle.serial_run.proofs.Changes.{change_there, put_is, serial-set, with_port}
use Rattle.serial_run.specs.Serial.{state_of}
use Rattle.serial_sweeps.specs.Sweeps.{at_agenda}

pub returns-clause-kept : goal.returns-clause-kept
returns-clause-kept c =
    let s = c.args.self.now in
    let before = s.instances.items in
    let place = c.in-Some.place in
    let old = c.index_mut.result.now in
    let there : slice_get before place ≡ Some old =
    slice_get_read before (length before) place old refl (search rules) c.index_mut.ensures.value in
    let now : c.put.new.self ≡ with_put c.args.item old =
    put_is c.put.result old c.put.new.self c.args.item (sym c.is_err.ensures.value ∙ c.if-is_err.false)
    c.put.ensures in
    serial-set s _ c.args.agenda.now.ready _ c.in-Instance.number place old c.put.new.self c.requires (sym c.in-Some.ensures.some.0) there
    (with_port old c.put.new.self (with_put c.args.item old).owner.state now) refl refl refl c.in_ok-wake.ensures.ok

pub returns-clause-state : goal.returns-clause-state
returns-clause-state c = λ m.
    let s = c.args.self.now in
    let g = state_of (at_agenda m c.args.agenda.now) s in
    let before = s.instances.items in
    let place = c.in-Some.place in
    let old = c.index_mut.result.now in
    let number = c.in-Instance.number in
    let there : slice_get before place ≡ Some old =
    slice_get_read before (length before) place old refl (search rules) c.index_mut.ensures.value in
    let now : c.put.new.self ≡ with_put c.args.item old =
    put_is c.put.result old c.put.new.self c.args.item (sym c.is_err.ensures.value ∙ c.if-is_err.false)
    c.put.ensures in
    let instances : set before place c.put.new.self ≡ change_at (with_put c.args.item) before number =
    ap (set before place) now
    ∙ sym (change_there (with_put c.args.item) before number place old (sym c.in-Some.ensures.some.0) there) in
    ap (λ all. record g { instances = all }) instances
    ∙ ap (λ target. sent_to g target c.args.item) (sym c.in-Instance.is)
