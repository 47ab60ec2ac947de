use Rattle.std.proofs.Common.{◌≡◌, ◌∙◌, ap, Some, map, slice_get, subst, sym}
use Rattle.std.proofs.lemmas.Bool.{eqb-true}
use Rattle.build_routes.proofs.ReceiverLemmas.{same_process}
use Rattle.build_routes.proofs.SharedLemmas.{keeps_all, pointwise_same, stands_at}
use Rattle.build_routes.proofs.lists.Lists.add.Goals as goal

pub returns-in_err-counted-clause-kept : goal.returns-in_err-counted-clause-kept
returns-in_err-counted-clause-kept c = λ n list is.
    subst (λ x. slice_get (map (λ l. l.items) x) n ≡ Some list) (sym c.in_ok-number.ensures.keys)
    (keeps_all _ c.self.inside.kept.keys c.args.list (λ l. l.items) n list (subst (λ x. slice_get x n ≡ Some list) (sym c.self.view_is) is))

pub returns-clause-kept : goal.returns-clause-kept
returns-clause-kept c = λ n list is.
    subst (λ x. slice_get (map (λ l. l.items) x) n ≡ Some list) (sym c.in_ok-number.ensures.keys)
    (keeps_all _ c.self.inside.kept.keys c.args.list (λ l. l.items) n list (subst (λ x. slice_get x n ≡ Some list) (sym c.self.view_is) is))

pub returns-clause-stands : goal.returns-clause-stands
returns-clause-stands c =
    let stored = c.in_ok-number.ensures.stored in
    stands_at c.insert_full.new.self.keys c.in_ok-counted.field-0 stored.0 (λ l. l.items) c.args.list.items
    (ap (λ n. slice_get c.insert_full.new.self.keys n) c.in_ok-counted.ensures.same ∙ stored.1)
    (pointwise_same _ (λ x y e. same_process x y (eqb-true x.0 y.0 e)) c.args.list.items stored.0.items stored.2)
