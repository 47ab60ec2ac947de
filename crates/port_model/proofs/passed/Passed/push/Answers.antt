use Rattle.std.proofs.Common.{subst, sym, refl}
use Rattle.std.specs.Prelude.{List}
use Rattle.port_model.specs.Passed.{AreBefore, Standing}
use Rattle.port_model.proofs.Passings.{fresh, gots_with, passed_with}
use Rattle.port_model.proofs.passed.Passed.push.Goals as goal

pub invariant_of-self-in_default-insert : goal.invariant_of-self-in_default-insert
invariant_of-self-in_default-insert c =
    let before = subst (λ (s : List Standing). AreBefore c.in-Some.place s) (sym c.self.view_is) c.in-Some.ensures in
    passed_with c.self.invariant c.in-Some.place c.args.got c.insert.new.self.entries c.note.new.self c.insert.ensures.ordered
    (fresh c.in-Some.place c.self.inside.entries.entries before) (c.if-not-note.ensures.noted refl) c.in_default-insert.ensures.updates.0

pub returns-in_default-insert : goal.returns-in_default-insert
returns-in_default-insert c =
    let before = subst (λ (s : List Standing). AreBefore c.in-Some.place s) (sym c.self.view_is) c.in-Some.ensures in
    rw (sym c.self.view_is) (gots_with c.in-Some.place c.args.got c.self.inside.entries.entries before c.in_default-insert.ensures.entries)
