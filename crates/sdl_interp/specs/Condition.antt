-- The conditions of a process, by their numbers.
use Rattle.std.specs.Prelude.{List, Option, map}
use Rattle.sdl_system.specs.Behaviour.{condition_in}
use Rattle.sdl_system.specs.Term.{Term}
use Rattle.sdl_system.specs.declared.process.Process.{Process}
use Rattle.sdl_system.specs.declared.state.Enabling.{Enabling}

-- the enabling conditions of a state
abbrev pub are_conditions : Process → List Enabling → List (Option Term)
are_conditions process conditions = map (λ (e : Enabling). condition_in process e.condition) conditions
