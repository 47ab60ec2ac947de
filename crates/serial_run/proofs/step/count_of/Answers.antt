-- The record of an instance is as long as its events.
use Rattle.std.proofs.Common.{◌≡◌, ◌∙◌, ap, length, refl, rules, List}
use Rattle.std.proofs.lemmas.Option.{slice_get_read}
use Rattle.run_record.specs.Event.{Event}
use Rattle.sdl_interp.specs.Instance.{InstanceValue}
use Rattle.serial_run.proofs.Places.{one_there}
use Rattle.serial_run.proofs.step.count_of.Goals as goal
use Rattle.std.specs.Prelude.{slice_get}

pub returns : goal.returns
returns c = λ i there.
    let xs = c.args.instances.now.instances.items in
    let same : c.index.result.now ≡ i = one_there (slice_get xs c.args.place) c.index.result.now i
    (slice_get_read xs (length xs) c.args.place c.index.result.now refl (search rules) c.index.ensures) there in
    c.len.ensures ∙ ap (λ (events : List Event). length events) c.trace.ensures.events
    ∙ ap (λ (one : InstanceValue). length one.events) same
