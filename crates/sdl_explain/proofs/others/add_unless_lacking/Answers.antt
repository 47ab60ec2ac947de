use Rattle.std.proofs.Common.{◌∙◌, ap, sym}
use Rattle.std.proofs.lemmas.Result.{on_ok_weaker}
use Rattle.explain_syntax.specs.Gap.{lacks}
use Rattle.sdl_explain.proofs.OthersLemmas.{counts, counts_not}
use Rattle.sdl_explain.proofs.others.add_unless_lacking.Goals as goal

pub returns-then-lacks-clause-told : goal.returns-then-lacks-clause-told
returns-then-lacks-clause-told c =
    counts_not c.args.rest.now c.args.rule c.args.word c.args.others.now
    (ap (lacks c.args.rest.now) (sym c.as_str.ensures.value) ∙ sym c.lacks.ensures ∙ c.if-lacks.true)

pub returns-clause-told : goal.returns-clause-told
returns-clause-told c =
    on_ok_weaker c.add.result
    (counts c.args.rest.now c.args.rule c.args.word c.args.others.now c.add.new.self
    (ap (lacks c.args.rest.now) (sym c.as_str.ensures.value) ∙ sym c.lacks.ensures ∙ c.if-lacks.false))
    c.add.ensures.told
