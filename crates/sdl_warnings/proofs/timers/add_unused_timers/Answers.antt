use Rattle.std.proofs.Common.{ap, map, ◌∙◌}
use Rattle.sdl_warnings.specs.Heads.{head_value}
use Rattle.sdl_warnings.proofs.MissingLemmas.{all_missing}
use Rattle.sdl_warnings.proofs.timers.add_unused_timers.Goals as goal

pub returns : goal.returns
returns c =
    all_missing c.add_missing.result _ _ _ _ _ _ _ c.add_missing.ensures c.in_ok-again.ensures
    (ap (map head_value) c.deref.ensures.value ∙ c.in_ok-timers.ensures)
