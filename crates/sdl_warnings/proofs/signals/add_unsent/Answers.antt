use Rattle.std.proofs.Common.{ℕ, List, ap, map, ◌∙◌}
use Rattle.sdl_warnings.specs.Heads.{HeadValue, head_value}
use Rattle.sdl_warnings.specs.Sets.{among}
use Rattle.sdl_warnings.proofs.MissingLemmas.{all_unsettled}
use Rattle.sdl_warnings.proofs.signals.add_unsent.Goals as goal

pub returns : goal.returns
returns c =
    let there = λ (text : List ℕ). c.in_ok-is_there.ensures text
    ∙ ap (λ (heads : List HeadValue). among heads text)
    (ap (map head_value) c.deref.ensures.value ∙ c.in_ok-taken.ensures) in
    let settled = λ (text : List ℕ). c.in_ok-is_settled.ensures text
    ∙ ap (λ (heads : List HeadValue). among heads text)
    (ap (map head_value) c.deref-2.ensures.value ∙ c.in_ok-fed.ensures) in
    all_unsettled c.add_unsettled.result _ _ _ _ _ _ _ _ _ c.add_unsettled.ensures there settled
    (ap (map head_value) c.deref-3.ensures.value ∙ c.in_ok-defined.ensures)
