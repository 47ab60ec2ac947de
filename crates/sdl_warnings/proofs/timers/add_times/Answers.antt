use Rattle.std.proofs.Common.{ℕ, ◌||◌, ◌&&◌, List, ap, map, not, ◌∙◌}
use Rattle.sdl_warnings.specs.Heads.{HeadValue, head_value}
use Rattle.sdl_warnings.specs.Sets.{among}
use Rattle.sdl_warnings.proofs.MissingLemmas.{all_constant}
use Rattle.sdl_warnings.proofs.timers.add_times.Goals as goal

pub returns : goal.returns
returns c =
    let variables = λ (text : List ℕ). c.in_ok-variables.ensures text
    ∙ ap (λ (heads : List HeadValue). among heads text)
    (ap (map head_value) c.deref.ensures.value ∙ c.in_ok-own.ensures) in
    let parameters = λ (text : List ℕ). c.in_ok-parameters.ensures text
    ∙ ap (λ (heads : List HeadValue). among heads text)
    (ap (map head_value) c.deref-2.ensures.value ∙ c.in_ok-passed.ensures) in
    all_constant c.add_times.result _ _ _ _ c.args.words.now c.add_times.ensures
    (λ text i. c.in_ok-constants.ensures text i && not (variables text i || parameters text i))
