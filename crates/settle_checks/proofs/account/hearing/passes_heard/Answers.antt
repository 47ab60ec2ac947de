-- One line more is looked at.
use Rattle.std.proofs.Common.{◌≡◌, ◌∙◌, ◌+◌, ◌∷◌, ap, drop, List, subst, sym}
use Rattle.std.proofs.lemmas.List.{drop_more}
use Rattle.sdl_script.specs.declared.script.ScriptLine.{ScriptLine}
use Rattle.settle_checks.specs.Crossed.{IsHeardRest, heard_passes}
use Rattle.settle_meaning.specs.Order.{times_heard}
use Rattle.settle_checks.proofs.account.hearing.passes_heard.Goals as goal

pub loop-line-preserved : goal.loop-line-preserved
loop-line-preserved c = λ heard targets signals.
    let lines = c.args.lines.now in
    let i = c.loop-line.line-index in
    let line = c.line-item.result in
    let all = heard_passes (times_heard lines) heard in
    let split : drop i lines ≡ line ∷ drop (i + 1) lines =
    drop_more lines i line c.loop-line-test.true ∙ ap (λ (x : ScriptLine). x ∷ drop (i + 1) lines) (sym c.line-item.is) in
    c.in_ok-note.ensures heard (drop (i + 1) lines) all targets
    (subst (λ (l : List ScriptLine). IsHeardRest l heard all c.loop-line.hearing.place c.loop-line.hearing.passes.items)
    split (c.loop-line.invariant heard targets signals))
