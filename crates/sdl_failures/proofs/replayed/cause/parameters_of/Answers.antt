use Rattle.std.proofs.Common.{◌∙◌, ap, [], Option, map, take}
use Rattle.std.proofs.lemmas.Result.{IfOk-weaker}
use Rattle.std.specs.Option.{option_map_or}
use Rattle.sdl_system.specs.declared.process.Process.{Process}
use Rattle.sdl_system.specs.declared.process.Variable.{Variable}
use Rattle.sdl_failures.proofs.replayed.cause.parameters_of.Goals as goal

pub returns : goal.returns
returns c =
    IfOk-weaker c.sorts_in.result _ _
    (λ sorts is. is
    ∙ ap (λ (found : Option Process).
    option_map_or (λ (p : Process). map (λ (v : Variable). v.sort) (take p.parameters p.variables.items)) found [])
    c.in-Some.ensures)
    c.sorts_in.ensures
