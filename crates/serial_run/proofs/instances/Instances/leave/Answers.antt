use Rattle.std.proofs.Common.{◌≡◌, Option, Some, length, refl, slice_get, subst, sym}
use Rattle.std.specs.Prelude.{IsSomeAnd}
use Rattle.std.proofs.lemmas.Option.{slice_get_read, slice_get_within}
use Rattle.serial_run.proofs.LivingLemmas.{leaves}
use Rattle.sdl_interp.specs.Instance.{InstanceValue}
use Rattle.serial_run.proofs.instances.Instances.leave.Goals as goal

pub returns-clause-living : goal.returns-clause-living
returns-clause-living c =
    let s = c.args.self.now in
    let xs = s.instances.items in
    let i = c.index.result.now in
    let there : slice_get xs c.args.place ≡ Some i =
    slice_get_read xs (length xs) c.args.place i refl
    (slice_get_within xs c.args.place c.requires.now c.requires.is_there) c.index.ensures in
    let at : IsSomeAnd (slice_get xs c.args.place) (λ (i : InstanceValue). i.who ≡ c.who-who.result) =
    subst (λ (o : Option InstanceValue). IsSomeAnd o (λ (i : InstanceValue). i.who ≡ c.who-who.result)) (sym there)
    (sym c.who-who.ensures) in
    leaves s c.args.place c.requires c.who-who.result at c.least_left-least.result c.remove.new.self
    c.least_left-least.ensures c.remove.ensures
