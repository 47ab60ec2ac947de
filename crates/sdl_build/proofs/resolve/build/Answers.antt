use Rattle.std.proofs.Common.{None, subst, sym}
use Rattle.sdl_build.proofs.ResolveLemmas.{is-built, not-none, refused-as}
use Rattle.sdl_build.proofs.ProcessLemmas.{not-made}
use Rattle.sdl_build.specs.Outcome.{IsMadeOf}
use Rattle.build_names.specs.Faults.{diagnostic_of}
use Rattle.sdl_tree.specs.Views.{tree_value}
use Rattle.sdl_build.proofs.resolve.build.Goals as goal

pub returns-in_err-system-clause-built : goal.returns-in_err-system-clause-built
returns-in_err-system-clause-built c = not-made c.from_residual.result _ _ c.from_residual.ensures.1

pub returns-in_err-of-clause-built : goal.returns-in_err-of-clause-built
returns-in_err-of-clause-built c = not-made c.from_residual-in_err-of.result _ _ c.from_residual-in_err-of.ensures.1

pub returns-in-Some-clause-refused : goal.returns-in-Some-clause-refused
returns-in-Some-clause-refused c =
    let tree = tree_value c.args.tree.now in
    refused-as tree (diagnostic_of c.in-Some.fault) c.in_ok-system.system c.in_ok-of.field-0
    (subst (λ fault. IsMadeOf tree fault c.in_ok-system.system) (sym c.in-Some.ensures) c.in_ok-system.ensures)
    c.in_ok-of.ensures

pub unreachable-requires : goal.unreachable-requires
unreachable-requires c =
    let tree = tree_value c.args.tree.now in
    not-none tree (subst (IsMadeOf tree None) c.in-None.is
    (subst (λ fault. IsMadeOf tree fault c.in_ok-system.system) (sym c.in_default.ensures) c.in_ok-system.ensures))

pub returns-clause-built : goal.returns-clause-built
returns-clause-built c =
    let tree = tree_value c.args.tree.now in
    is-built tree c.in-Some-system.system (subst (IsMadeOf tree None) c.in-Some-system.is
    (subst (λ fault. IsMadeOf tree fault c.in_ok-system.system) (sym c.in_default.ensures) c.in_ok-system.ensures))
