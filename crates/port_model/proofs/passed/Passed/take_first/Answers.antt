use Rattle.std.proofs.Common.{refl, subst, sym}
use Rattle.std.specs.Prelude.{List}
use Rattle.port_model.specs.Passed.{Loses, Standing}
use Rattle.port_model.proofs.Passings.{all_unwanted, first_is_there, takes_first}
use Rattle.port_model.proofs.passed.Passed.take_first.Goals as goal

pub take_at-requires : goal.take_at-requires
take_at-requires c = rw (sym c.self.view_is) (first_is_there c.self.invariant c.args.wanted c.args.selection.now c.in-Some.place c.in-Some.ensures)

pub returns-in-None : goal.returns-in-None
returns-in-None c = (refl, rw (sym c.self.view_is) (all_unwanted c.self.invariant c.args.wanted c.args.selection.now c.in-None.ensures))

pub returns-in-Some : goal.returns-in-Some
returns-in-Some c =
    rw (sym c.self.view_is) (takes_first (subst (λ (s : List Standing). Loses s c.in-Some.place c.take_at.result c.take_at.new.self) (sym c.self.view_is) c.take_at.ensures)
    c.self.invariant c.args.wanted c.args.selection.now c.in-Some.ensures)
