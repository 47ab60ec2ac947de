use Rattle.std.proofs.Common.{subst}
use Rattle.explain_syntax.specs.Gap.{LeavesOutIf}
use Rattle.sdl_explain.proofs.others.found_past.Goals as goal
use Rattle.sdl_explain.specs.Others.{IsFound, kept, left_out}

pub returns-then-is_less : goal.returns-then-is_less
returns-then-is_less c =
    left_out c.in_ok-found.found
    (subst (λ b. LeavesOutIf c.args.place c.args.rest.now c.leave_out.new.self b) c.if-is_less.true
    c.in_ok-is_less.ensures.out)
    (subst (λ text. IsFound text c.in_ok-found.found) c.deref.ensures.value c.in_ok-found.ensures)

pub returns : goal.returns
returns c =
    kept
    (subst (λ b. LeavesOutIf c.args.place c.args.rest.now c.leave_out.new.self b) c.if-is_less.false
    c.in_ok-is_less.ensures.out)
