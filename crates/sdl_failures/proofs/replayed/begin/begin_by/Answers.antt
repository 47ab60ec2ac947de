use Rattle.std.proofs.Common.{Option, ap, option_map}
use Rattle.sdl_system.specs.declared.state.Continuous.{Continuous}
use Rattle.sdl_failures.proofs.replayed.begin.begin_by.Goals as goal

pub returns-in-None : goal.returns-in-None
returns-in-None c = ap (λ (o : Option Continuous). option_map (λ (s : Continuous). s.begin) o) c.in-None.ensures

pub returns-in-Some : goal.returns-in-Some
returns-in-Some c = ap (λ (o : Option Continuous). option_map (λ (s : Continuous). s.begin) o) c.in-Some.ensures
