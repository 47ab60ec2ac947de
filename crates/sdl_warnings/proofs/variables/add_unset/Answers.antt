use Rattle.std.proofs.Common.{ℕ, ◌||◌, List, ap, map, not, ◌∙◌}
use Rattle.sdl_warnings.specs.Heads.{HeadValue, head_value}
use Rattle.sdl_warnings.specs.Sets.{among}
use Rattle.sdl_warnings.proofs.MissingLemmas.{all_missing}
use Rattle.sdl_warnings.proofs.variables.add_unset.Goals as goal

pub returns : goal.returns
returns c =
    let assigned = λ (text : List ℕ). c.in_ok-assigned.ensures text
    ∙ ap (λ (heads : List HeadValue). among heads text)
    (ap (map head_value) c.deref.ensures.value ∙ c.in_ok-fresh.ensures) in
    let received = λ (text : List ℕ). c.in_ok-received.ensures text
    ∙ ap (λ (heads : List HeadValue). among heads text)
    (ap (map head_value) c.deref-2.ensures.value ∙ c.in_ok-inputs.ensures) in
    all_missing c.add_unset.result _ _ _ _ _ _ _ c.add_unset.ensures
    (λ text i. not (c.in_ok-again.ensures text i) || (assigned text i || received text i))
    (ap (map head_value) c.deref-3.ensures.value ∙ c.in_ok-variables.ensures)
