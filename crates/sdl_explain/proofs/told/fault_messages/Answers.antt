use Rattle.std.proofs.Common.{◌∙◌, ◌++◌, ap}
use Rattle.sdl_build.specs.declared.error.BuildError.{BuildError}
use Rattle.sdl_explain.proofs.ToldLemmas.{all, none, on}
use Rattle.sdl_explain.proofs.told.fault_messages.Goals as goal
use Rattle.sdl_explain.specs.Told.{TellsFault}

pub loop-fault-init : goal.loop-fault-init
loop-fault-init c =
    none BuildError (TellsFault c.args.specification.now) c.args.origin.now c.args.faults.now c.new-all.result.items
    c.new-all.ensures.items

pub loop-fault-preserved : goal.loop-fault-preserved
loop-fault-preserved c =
    on BuildError (TellsFault c.args.specification.now) c.args.origin.now c.args.faults.now c.loop-fault.fault-index
    c.fault-item.result c.fault-item.result c.in_ok-message.message c.loop-fault.all.items c.in_ok-text.text.items _
    c.loop-fault-test.true c.fault-item.is c.loop-fault.invariant
    (record { shown = c.in_ok-message.ensures.shown; other = c.in_ok-message.ensures.other }) c.in_ok-text.ensures
    (c.in_ok-extend_from_slice.ensures.items ∙ ap (λ t. c.loop-fault.all.items ++ t) c.deref.ensures.value)

pub returns : goal.returns
returns c =
    all BuildError (TellsFault c.args.specification.now) c.args.origin.now c.args.faults.now c.loop-fault.fault-index
    c.loop-fault.all.items c.loop-fault-test.false c.loop-fault.invariant
