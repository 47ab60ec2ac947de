use Rattle.std.proofs.Common.{◌∙◌, ◌++◌, ap, get_or, refl}
use Rattle.sdl_explain.proofs.ToldLemmas.{all, none, on}
use Rattle.sdl_explain.proofs.told.line_messages.Goals as goal
use Rattle.sdl_explain.specs.Told.{TellsLine}
use Rattle.sdl_script.specs.declared.script.ScriptError.{ScriptError}
use Rattle.sdl_script.specs.declared.script.ScriptError.TheVariants as refusal

pub loop-fault-init : goal.loop-fault-init
loop-fault-init c =
    none ScriptError (TellsLine c.args.script.now) c.args.origin.now c.args.faults.now c.new-all.result.items
    c.new-all.ensures.items

pub loop-fault-preserved : goal.loop-fault-preserved
loop-fault-preserved c =
    let fault = get_or c.args.faults.now c.loop-fault.fault-index (refusal.Syntax 0) in
    on ScriptError (TellsLine c.args.script.now) c.args.origin.now c.args.faults.now c.loop-fault.fault-index
    (refusal.Syntax 0) fault c.in_ok-message.message c.loop-fault.all.items c.in_ok-text.text.items _
    c.loop-fault-test.true refl c.loop-fault.invariant
    (record { shown = c.in_ok-message.ensures.shown; alone = c.in_ok-message.ensures.other }) c.in_ok-text.ensures
    (c.in_ok-extend_from_slice.ensures.items ∙ ap (λ t. c.loop-fault.all.items ++ t) c.deref.ensures.value)

pub returns : goal.returns
returns c =
    all ScriptError (TellsLine c.args.script.now) c.args.origin.now c.args.faults.now c.loop-fault.fault-index
    c.loop-fault.all.items c.loop-fault-test.false c.loop-fault.invariant
