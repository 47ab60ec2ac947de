use Rattle.sdl_build.proofs.ResolveLemmas.{behind-if}
use Rattle.sdl_build.proofs.ProcessLemmas.{not-made}
use Rattle.build_definitions.specs.Definitions.{rows_of}
use Rattle.sdl_build.proofs.resolve.look.Goals as goal

pub look_behind_names-requires : goal.look_behind_names-requires
look_behind_names-requires c = c.in_ok-symbols.ensures.names

pub returns : goal.returns
returns c =
    behind-if (rows_of c.args.definitions.now) _ c.of.new.faults _ c.look_behind_names.result
    c.in_ok-symbols.ensures.noted c.look_behind_names.ensures

pub returns-in_err-symbols : goal.returns-in_err-symbols
returns-in_err-symbols c = not-made c.from_residual.result _ _ c.from_residual.ensures.1
