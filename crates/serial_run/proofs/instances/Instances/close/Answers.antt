use Rattle.std.proofs.Common.{◌≡◌, ◌++◌, ◌∷◌, [], false, rules, subst, sym}
use Rattle.std.specs.List.{AllZip}
use Rattle.serial_run.proofs.Closing.{zip_more}
use Rattle.sdl_interp.specs.Instance.{IsClosed}
use Rattle.serial_run.proofs.instances.Instances.close.Goals as goal

pub loop-instance-preserved : goal.loop-instance-preserved
loop-instance-preserved c =
    let yielded = c.loop-instance.yielded in
    let records = c.loop-instance.records.items in
    let i = c.in-Some.instance in
    let trace = c.close.result.trace in
    let pushed : c.push.new.self.items ≡ records ++ trace ∷ [] = search rules in
    subst (λ all. AllZip (IsClosed false c.args.whole) (yielded ++ i ∷ []) all) (sym pushed)
    (zip_more (IsClosed false c.args.whole) yielded records i trace c.loop-instance.invariant c.close.ensures.closed)
