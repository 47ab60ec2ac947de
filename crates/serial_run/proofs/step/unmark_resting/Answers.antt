use Rattle.std.proofs.Common.{◌≡◌, ◌≢◌, ◌∙◌, ℕ, List, suc, Some, refl, ap, sym, subst, arith, rules, slice_get, set, length}
use Rattle.std.specs.Prelude.{Contains, ◌↔◌}
use Rattle.std.proofs.lemmas.Option.{slice_get_read}
use Rattle.serial_run.specs.Serial.{AreMarked, IsSerial}
use Rattle.serial_run.specs.declared.instances.Instances.{Instances}
use Rattle.serial_order.specs.RunState.{living_of}
use Rattle.sdl_interp.specs.Instance.{InstanceValue}
use Rattle.serial_run.proofs.Places.{marked_off, serial_set, set_there}
use Rattle.serial_run.proofs.step.unmark_resting.Goals as goal

-- ---- the look changes nothing

looked : (xs : List InstanceValue) (place : ℕ) (one new : InstanceValue) → slice_get xs place ≡ Some one → new ≡ one
    → set xs place new ≡ xs
looked xs place one new there same = ap (set xs place) same ∙ set_there xs place one there

-- so the instances are those of a run as before, with these marks
serial_still : {ready : List ℕ} (s t : Instances) (after : List ℕ) (place : ℕ) (one new : InstanceValue)
    → IsSerial ready s → slice_get s.instances.items place ≡ Some one → new ≡ one
    → t.instances.items ≡ set s.instances.items place new → t.system ≡ s.system → t.living ≡ s.living
    → AreMarked after (set s.instances.items place one) → IsSerial after t
serial_still s t after place one new serial there same items system living marked =
    serial_set s t after place one one serial there
    (record { system = refl; process = refl; who = refl; port = refl; pid = refl })
    (items ∙ ap (set s.instances.items place) same) system
    (living ∙ serial.living ∙ ap (living_of s.system.now) (sym (set_there s.instances.items place one there))) marked

-- ---- it rests

pub returns-in-Nothing-clause-items : goal.returns-in-Nothing-clause-items
returns-in-Nothing-clause-items c =
    let xs = c.args.instances.now.instances.items in
    looked xs c.args.place c.index_mut.result.now c.ahead.new.self
    (slice_get_read xs (length xs) c.args.place c.index_mut.result.now refl (search rules) c.index_mut.ensures.value)
    c.ahead.ensures.same

pub returns-in-Nothing-clause-fits : goal.returns-in-Nothing-clause-fits
returns-in-Nothing-clause-fits c =
    let s = c.args.instances.now in
    let place = c.args.place in
    let xs = s.instances.items in
    let one = c.index_mut.result.now in
    let there : slice_get xs place ≡ Some one =
    slice_get_read xs (length xs) place one refl (search rules) c.index_mut.ensures.value in
    let number_is : c.args.number ≡ suc place = omega (arith, c.requires.place.0) in
    let off = subst (λ m. (n : ℕ) → Contains c.rest.new.self n ↔ (Contains c.args.agenda.now.ready n × (n ≢ m))) number_is
    c.rest.ensures.left in
    serial_still s _ c.rest.new.self place one c.ahead.new.self c.requires.fits there c.ahead.ensures.same refl refl refl
    (marked_off c.args.agenda.now.ready c.rest.new.self xs place one c.requires.fits.marked off
    (c.ahead.ensures.nothing c.in-Nothing.is))

-- ---- or it may have something to do

pub returns-in_default-clause-items : goal.returns-in_default-clause-items
returns-in_default-clause-items c =
    let xs = c.args.instances.now.instances.items in
    looked xs c.args.place c.index_mut.result.now c.ahead.new.self
    (slice_get_read xs (length xs) c.args.place c.index_mut.result.now refl (search rules) c.index_mut.ensures.value)
    c.ahead.ensures.same

pub returns-in_default-clause-fits : goal.returns-in_default-clause-fits
returns-in_default-clause-fits c =
    let s = c.args.instances.now in
    let place = c.args.place in
    let xs = s.instances.items in
    let one = c.index_mut.result.now in
    let there : slice_get xs place ≡ Some one =
    slice_get_read xs (length xs) place one refl (search rules) c.index_mut.ensures.value in
    serial_still s _ c.args.agenda.now.ready place one c.ahead.new.self c.requires.fits there c.ahead.ensures.same refl
    refl refl
    (subst (AreMarked c.args.agenda.now.ready) (sym (set_there xs place one there)) c.requires.fits.marked)
