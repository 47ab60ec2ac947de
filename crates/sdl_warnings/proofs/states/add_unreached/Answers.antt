use Rattle.std.proofs.Common.{List, ap, map, ◌∙◌}
use Rattle.sdl_warnings.specs.Heads.{HeadValue, head_value}
use Rattle.sdl_warnings.specs.Sets.{among}
use Rattle.sdl_warnings.proofs.MissingLemmas.{all_missing}
use Rattle.sdl_warnings.proofs.states.add_unreached.Goals as goal

pub returns : goal.returns
returns c =
    all_missing c.add_missing.result _ _ _ _ _ _ _ c.add_missing.ensures
    (λ text. c.in_ok-reached.ensures text
    ∙ ap (λ (heads : List HeadValue). among heads text)
    (ap (map head_value) c.deref.ensures.value ∙ c.in_ok-named.ensures))
    (ap (map head_value) c.deref-2.ensures.value ∙ c.in_ok-states.ensures)
