use Rattle.std.proofs.Common.{◌≡◌, ◌∙◌, ◌++◌, [], ◌∷◌, false, true, is_some, ap, sym}
use Rattle.std.proofs.lemmas.List.{map-append}
use Rattle.build_names.specs.Labels.{names_listed}
use Rattle.build_names.proofs.StateLemmas.{with_new-known, with_new-unknown}
use Rattle.build_names.specs.States.{entry_word, with_new}
use Rattle.build_names.specs.Names.{first_of}
use Rattle.sdl_tree.specs.Views.{name_value}
use Rattle.build_names.proofs.states.add_state.Goals as goal

pub returns-then-is_some-clause-states : goal.returns-then-is_some-clause-states
returns-then-is_some-clause-states c =
    let word = name_value c.args.name.now in
    let known : is_some (first_of c.args.seen.now word.text) ≡ true =
    ap (λ text. is_some (first_of c.args.seen.now text)) (sym c.as_str.ensures.value)
    ∙ ap is_some (sym c.get.ensures) ∙ sym c.if-is_some.ensures in
    sym c.requires
    ∙ sym (with_new-known c.args.seen.now word known)
    ∙ ap (λ words. with_new words word) c.requires

pub returns-clause-states : goal.returns-clause-states
returns-clause-states c =
    let word = name_value c.args.name.now in
    let unknown : is_some (first_of c.args.seen.now word.text) ≡ false =
    ap (λ text. is_some (first_of c.args.seen.now text)) (sym c.as_str.ensures.value)
    ∙ ap is_some (sym c.get.ensures) ∙ sym c.if-is_some.ensures in
    ap names_listed c.in_ok-push.ensures.items
    ∙ map-append (λ name. name_value name.now) c.args.states.now.items (c.args.name ∷ [])
    ∙ ap (λ words. words ++ word ∷ []) (sym c.requires)
    ∙ sym (map-append entry_word c.args.seen.now ((word.text, word.place) ∷ []))
    ∙ sym (with_new-unknown c.args.seen.now word unknown)
    ∙ ap (λ words. with_new words word) c.requires
