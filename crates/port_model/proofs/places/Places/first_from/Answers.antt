use Rattle.std.proofs.Common.{subst}
use Rattle.port_model.specs.Places.{IsFirstFrom, NoneFrom, PlacesValue}
use Rattle.port_model.proofs.PlaceLemmas.{first_from, none_from}
use Rattle.port_model.proofs.places.Places.first_from.Goals as goal

pub returns-in-None-clause-first : goal.returns-in-None-clause-first
returns-in-None-clause-first c =
    subst (λ (p : PlacesValue). NoneFrom c.args.name p) c.self.view_is
    (none_from c.self.inside.names c.self.inside.timers.entries c.args.name c.range.result (c.range.ensures.in_range tt) c.in-None.ensures.steps.0)

pub returns-in-Some-clause-first : goal.returns-in-Some-clause-first
returns-in-Some-clause-first c =
    subst (λ (p : PlacesValue). IsFirstFrom c.args.name p c.in-Some.found.now) c.self.view_is
    (first_from c.self.inside.names c.self.inside.timers.entries c.args.name c.range.result (c.range.ensures.in_range tt) c.in-Some.found.now
    c.next.new.self c.in-Some.ensures.steps)
