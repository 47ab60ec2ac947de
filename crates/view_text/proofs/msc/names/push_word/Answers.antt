use Rattle.std.proofs.Common.{◌++◌, ◌∙◌, ap, arith, codes, sym}
use Rattle.std.specs.String.{string_bytes}
use Rattle.view_text.proofs.Pushed.{grown}
use Rattle.view_text.proofs.Words.{word-marked, word-other}
use Rattle.view_text.proofs.msc.names.push_word.Goals as goal

pub returns-in_ok-push : goal.returns-in_ok-push
returns-in_ok-push c =
    let text = string_bytes c.args.text.now in
    let name = c.args.name.now in
    grown text name (codes "_") c.in_ok-push_str.ensures.bytes
    (c.in_ok-push.ensures.bytes
    ∙ ap (λ l. string_bytes c.push_str.new.self ++ l) (c.in_ok-push.ensures.ascii (omega arith)))
    ∙ ap (λ l. text ++ l) (sym (word-marked name (sym c.gets_mark.ensures.mark ∙ c.if-gets_mark.true)))

pub returns-else-gets_mark : goal.returns-else-gets_mark
returns-else-gets_mark c =
    c.in_ok-push_str.ensures.bytes
    ∙ ap (λ l. string_bytes c.args.text.now ++ l)
    (sym (word-other c.args.name.now (sym c.gets_mark.ensures.mark ∙ c.if-gets_mark.false)))
