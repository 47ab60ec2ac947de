use Rattle.std.proofs.Common.{◌≡◌, ◌∙◌, None, Some, ap, map, sym}
use Rattle.std.specs.String.{string_bytes}
use Rattle.explain_syntax.specs.Cut.{cut_around}
use Rattle.explain_syntax.specs.Gap.{begin_of, names_from, unread}
use Rattle.explain_syntax.proofs.GapLemmas.{none_around, some_around}
use Rattle.explain_syntax.proofs.rests.gap.Gap.around.Goals as goal
use Rattle.sdl_tree.specs.Words.{words_of}

pub returns-in-Err : goal.returns-in-Err
returns-in-Err c = unread c.in-Err.error c.in-Err.ensures.fault (sym c.is_lack.ensures ∙ c.if-is_lack.false)

pub returns-in_default : goal.returns-in_default
returns-in_default c =
    let words = c.in_ok-words.words.items in
    let none : cut_around words c.args.place ≡ None =
    cc (c.deref-2.ensures.value, c.around.ensures, c.in_default.is) in
    none_around c.args.text.now c.args.place c.in-Ok.tokens.items words c.in-Ok.ensures.tokens
    (c.in_ok-words.ensures ∙ ap (words_of c.args.text.now) c.deref.ensures.value) none

pub returns : goal.returns
returns c =
    let text = c.args.text.now in
    let tokens = c.in-Ok.tokens.items in
    let words = c.in_ok-words.words.items in
    let cut = c.in-Some.cut in
    let some : cut_around words c.args.place ≡ Some cut =
    cc (c.deref-2.ensures.value, c.around.ensures, c.in-Some.is) in
    some_around text c.args.place tokens words cut c.begin_of.result c.begin_of-2.result
    (map string_bytes c.in_ok-names_of.field-0.items) c.in-Ok.ensures.tokens
    (c.in_ok-words.ensures ∙ ap (words_of text) c.deref.ensures.value) some
    (c.begin_of.ensures ∙ ap (λ all. begin_of text all cut.from) c.deref-3.ensures.value)
    (c.begin_of-2.ensures ∙ ap (λ all. begin_of text all cut.to) c.deref-4.ensures.value)
    (c.in_ok-names_of.ensures ∙ ap (λ all. names_from all c.args.place cut 0 all) c.deref-5.ensures.value)
