use Rattle.std.proofs.Common.{◌≡◌, get_or, rules, subst}
use Rattle.port_model.specs.Backlog.{BacklogValue}
use Rattle.port_model.specs.Wanted.{IsUnwanted}
use Rattle.port_model.proofs.Backlogs.{passes_unwanted}
use Rattle.port_model.proofs.backlog.Backlog.pass_next_unwanted.Goals as goal

pub returns-clause-passed : goal.returns-clause-passed
returns-clause-passed c =
    passes_unwanted (IsUnwanted c.args.wanted c.args.selection.now) c.pass_next.result c.args.self.now c.pass_next.new.self c.in-Some.got.now c.pass_next.ensures
    (subst (λ (b : BacklogValue). c.in-Some.got.now ≡ get_or b.rest 0 c.in-Some.got.now) c.self.view_is (search rules))
    (let e = c.takes.ensures in let k = c.class_of.ensures in let n = c.name.ensures in let t = c.if-takes.false in cc) c.requires
