use Rattle.std.proofs.Common.{◌∙◌, ℕ, List, ap, refl, sym}
use Rattle.sdl_lex.specs.declared.place.Place.{Place}
use Rattle.build_flow.specs.Listed.{beginnings_listed, led_turn, texts}
use Rattle.build_flow.specs.Quick.{all_confirmed, all_named, name_texts}
use Rattle.build_flow.specs.Reach.{labels_in}
use Rattle.build_flow.specs.Turns.{found_from}
use Rattle.build_flow.proofs.QuickLemmas.{quick-reached}
use Rattle.build_flow.proofs.quick.quick_names.Goals as goal

pub returns-then-are_confirmed : goal.returns-then-are_confirmed
returns-then-are_confirmed c =
    let all = beginnings_listed c.args.beginnings.now in
    let names = c.in_ok-names.names in
    let found = λ (labels : List (List ℕ × Place)). found_from (led_turn labels names) all in
    quick-reached all names (found (labels_in all)) refl
    (ap (λ labels. all_named (all_confirmed names (found labels)) (texts names)) (sym c.requires)
    ∙ ap (all_named (all_confirmed names (found c.args.labels.now)))
    (c.in_ok-names.ensures ∙ ap name_texts (c.deref.ensures.value ∙ sym c.deref-2.ensures.value))
    ∙ sym c.in_ok-are_confirmed.ensures ∙ c.if-are_confirmed.true)
