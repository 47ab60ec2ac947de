use Rattle.std.proofs.Common.{◌∙◌, ap, [], Option, map, take}
use Rattle.std.specs.Option.{option_map_or}
use Rattle.sdl_system.specs.declared.process.Process.{Process}
use Rattle.sdl_system.specs.declared.process.Variable.{Variable}
use Rattle.sdl_interp.proofs.transitions.variable.parameters_of.Goals as goal

pub returns-in-Ok-clause-ok : goal.returns-in-Ok-clause-ok
returns-in-Ok-clause-ok c =
    c.in-Ok.ensures
    ∙ ap (λ (found : Option Process).
    option_map_or (λ (p : Process). map (λ (v : Variable). v.sort) (take p.parameters p.variables.items)) found [])
    c.in-Some.ensures
