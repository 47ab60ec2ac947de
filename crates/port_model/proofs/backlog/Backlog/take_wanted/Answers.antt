use Rattle.std.proofs.Common.{◌++◌, ◌∙◌, ap, subst, sym, All}
use Rattle.std.specs.Prelude.{List}
use Rattle.port_model.specs.Backlog.{waiting_in, BacklogValue, Leaves}
use Rattle.port_model.specs.Passed.{gots_in, Standing}
use Rattle.port_model.specs.Wanted.{IsUnwanted, IsWanted}
use Rattle.port_model.proofs.Backlogs.{leaves_passed, leaves_rest}
use Rattle.port_model.proofs.backlog.Backlog.take_wanted.Goals as goal

pub returns-in-Some : goal.returns-in-Some
returns-in-Some c =
    let w = c.args.wanted in let classes = c.args.selection.now in let rest = c.self.inside.rest.items in
    subst (λ (b : BacklogValue). Leaves (IsUnwanted w classes) (waiting_in b) c.in-Some.got (gots_in c.take_first.new.self ++ rest) × IsWanted w classes c.in-Some.got)
    c.self.view_is (leaves_passed rest c.in-Some.ensures.0, c.in-Some.ensures.1)

pub returns-in-Some-first_wanted : goal.returns-in-Some-first_wanted
returns-in-Some-first_wanted c =
    let w = c.args.wanted in let classes = c.args.selection.now in
    let same = ap waiting_in c.self-2.view_is ∙ c.pass_unwanted.ensures.same
    ∙ ap (λ (p : List Standing). gots_in p ++ c.self.inside.rest.items) c.in_default.ensures.0 ∙ ap waiting_in c.self.view_is in
    leaves_rest (IsUnwanted w classes) (IsWanted w classes) (gots_in c.self-2.inside.passed) c.self-2.inside.rest.items same
    (subst (λ (b : BacklogValue). All (IsUnwanted w classes) b.passed) (sym c.self-2.view_is) c.pass_unwanted.ensures.passed)
    c.in-Some-first_wanted.ensures c.take_at.ensures.entry c.take_at.ensures.items
