-- What is said of an operation, or of a value.
use Rattle.std.proofs.Common.{subst}
use Rattle.std.specs.Prelude.{IsErr}
use Rattle.sdl_system.specs.Operation.{applied}
use Rattle.sdl_system.specs.declared.operation.Operation.{Operation}
use Rattle.sdl_failures.proofs.blame.+blame.Goals as goal

pub blame_unary-returns : goal.blame_unary-returns
blame_unary-returns t c = (c.args.operation, c.has_none.ensures c.if-not-has_none.false)

pub blame_link-returns : goal.blame_link-returns
blame_link-returns t c = (
  c.in-Arithmetic.field-1,
  subst (λ (o : Operation). IsErr (applied o c.args.left c.in-Ok.right)) c.in-Arithmetic.is
      (c.have_none.ensures c.if-not-have_none.false),
)

pub blame_at-returns : goal.blame_at-returns
blame_at-returns t c = (c.in_ok-sort.sort, c.is_misfit.ensures c.if-not-is_misfit.false)
