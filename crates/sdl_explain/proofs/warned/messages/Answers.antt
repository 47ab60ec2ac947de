use Rattle.std.proofs.Common.{◌∙◌, ◌++◌, ap, get_or, refl}
use Rattle.sdl_explain.proofs.ToldLemmas.{all, none, on}
use Rattle.sdl_explain.proofs.warned.messages.Goals as goal
use Rattle.sdl_explain.specs.Warned.{IsMessage}
use Rattle.sdl_warnings.specs.declared.suspicion.Suspicion.TheVariants as suspicion
use Rattle.sdl_warnings.specs.declared.suspicion.Warning.{Warning}

pub loop-warning-init : goal.loop-warning-init
loop-warning-init c =
    none Warning (IsMessage c.args.specification.now) c.args.origin.now c.args.warnings.now c.new-all.result.items
    c.new-all.ensures.items

pub loop-warning-preserved : goal.loop-warning-preserved
loop-warning-preserved c =
    let first : Warning = record { suspicion = suspicion.UnreachedState; place = record { line = 0; column = 0 } } in
    let warning = get_or c.args.warnings.now c.loop-warning.warning-index first in
    on Warning (IsMessage c.args.specification.now) c.args.origin.now c.args.warnings.now c.loop-warning.warning-index
    first warning c.in_ok-message.message c.loop-warning.all.items c.in_ok-text.text.items _
    c.loop-warning-test.true refl c.loop-warning.invariant c.in_ok-message.ensures c.in_ok-text.ensures
    (c.in_ok-extend_from_slice.ensures.items ∙ ap (λ t. c.loop-warning.all.items ++ t) c.deref.ensures.value)

pub returns : goal.returns
returns c =
    all Warning (IsMessage c.args.specification.now) c.args.origin.now c.args.warnings.now c.loop-warning.warning-index
    c.loop-warning.all.items c.loop-warning-test.false c.loop-warning.invariant
