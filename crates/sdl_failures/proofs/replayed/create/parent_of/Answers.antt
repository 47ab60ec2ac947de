-- The record that is found has the number.
use Rattle.std.proofs.Common.{◌∙◌, ℕ, ap, arith, sym}
use Rattle.std.proofs.lemmas.Option.{IfSome_then}
use Rattle.port_model.specs.declared.values.pid.Pid.TheVariants as pid
use Rattle.sdl_failures.proofs.replayed.create.parent_of.Goals as goal

pub returns-clause-parent : goal.returns-clause-parent
returns-clause-parent c =
    IfSome_then c.record_of.result c.record_of.ensures.number
    (λ found is. sym c.in-Of.ensures ∙ ap (λ (n : ℕ). pid.Of n) (sym is))

pub returns-clause-lower : goal.returns-clause-lower
returns-clause-lower c =
    IfSome_then c.record_of.result c.record_of.ensures.number (λ found is. omega arith)
