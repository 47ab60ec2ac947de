use Rattle.std.proofs.Common.{◌≡◌, Bool, eqb, refl, subst, true}
use lib.Pointwise.{pointwise}
use Rattle.std.proofs.lemmas.Bool.{eq-eqb}
use Rattle.sdl_system.specs.declared.id.ProcessId.{ProcessId}
use Rattle.build_routes.specs.Table.{AreDistinct}
use Rattle.build_routes.proofs.SharedLemmas.{distinct_by, pointwise_own}
use Rattle.build_routes.proofs.lists.Lists.into_vec.Goals as goal

pub returns-clause-distinct : goal.returns-clause-distinct
returns-clause-distinct c =
    let same_number : ProcessId → ProcessId → Bool = λ p q. eqb p.0 q.0 in
    subst AreDistinct c.self.view_is
    (distinct_by (λ x y. pointwise same_number x.items y.items) (λ list. list.items)
    (λ x y same. subst (λ items. pointwise same_number x.items items ≡ true) same (pointwise_own same_number (λ p. eq-eqb p.0 p.0 refl) x.items))
    c.self.inside.kept.keys c.into_iter.ensures.into_iter_gives.3)
