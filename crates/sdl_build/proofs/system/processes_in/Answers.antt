use Rattle.sdl_build.proofs.MadeLemmas.{all-if, noted-anyhow}
use Rattle.sdl_build.specs.Around.{context_of}
use Rattle.sdl_build.proofs.system.processes_in.Goals as goal

pub returns-clause-made : goal.returns-clause-made
returns-clause-made c =
    all-if (context_of c.args.definitions.now c.args.symbols.now c.args.constant_table.now c.args.connections.now)
    c.in_ok-made.made.items c.all_made.result c.in_ok-made.ensures.size c.in_ok-made.ensures.made c.all_made.ensures

pub returns-clause-noted : goal.returns-clause-noted
returns-clause-noted c = noted-anyhow c.all_made.result _ c.in_ok-made.ensures.noted
