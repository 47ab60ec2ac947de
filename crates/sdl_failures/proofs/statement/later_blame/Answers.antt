-- The time is that of the transition, and so much later is past 64 bits.
use Rattle.std.proofs.Common.{◌∙◌, ℕ, subst, sym}
use Rattle.std.specs.Prelude.{IsErr}
use mir.Syntax.{w64}
use mir.Val.{of_z, to_z}
use Rattle.run_semantics.specs.Fails.{later}
use Rattle.sdl_failures.proofs.statement.later_blame.Goals as goal

pub returns : goal.returns
returns c = (
  c.get.ensures ∙ c.now-now.ensures,
  subst (λ (n : ℕ). IsErr (later n (to_z w64 (of_z w64 c.args.duration)))) (sym c.get.ensures)
      (c.is_too_late.ensures c.if-not-is_too_late.false),
)
