-- The first continuous signal with the number.
use Rattle.std.proofs.Common.{◌∙◌, add-one, get_or, sym}
use Rattle.std.proofs.lemmas.Option.{slice_get-get_or}
use Rattle.sdl_system.specs.declared.state.Continuous.{Continuous}
use Rattle.sdl_failures.proofs.BeginLemmas.{numbered-later, numbered-past, numbered-there}
use Rattle.sdl_failures.proofs.replayed.begin.numbered.Goals as goal

pub returns-then-signal-number : goal.returns-then-signal-number
returns-then-signal-number c =
    let signals = c.args.signals.now in
    let i = c.loop-signal.signal-index in
    let nothing : Continuous = record { condition = record { 0 = 0 }; number = 0; begin = record { 0 = 0 } } in
    sym (c.loop-signal.invariant
    ∙ numbered-there c.args.number signals i (get_or signals i nothing)
    (slice_get-get_or signals i nothing c.loop-signal-test.true) c.if-signal-number.true)

pub loop-signal-preserved : goal.loop-signal-preserved
loop-signal-preserved c =
    let signals = c.args.signals.now in
    let i = c.loop-signal.signal-index in
    let nothing : Continuous = record { condition = record { 0 = 0 }; number = 0; begin = record { 0 = 0 } } in
    rw add-one
    (c.loop-signal.invariant
    ∙ numbered-later c.args.number signals i (get_or signals i nothing)
    (slice_get-get_or signals i nothing c.loop-signal-test.true) c.if-signal-number.false)

pub returns : goal.returns
returns c =
    sym (c.loop-signal.invariant
    ∙ numbered-past c.args.number c.args.signals.now c.loop-signal.signal-index c.loop-signal-test.false)
