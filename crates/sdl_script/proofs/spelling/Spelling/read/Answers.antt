use Rattle.std.proofs.Common.{sym, refl, ap, ◌∙◌, subst}
use Rattle.std.proofs.lemmas.Bool.{false≢true}
use Rattle.std.proofs.lemmas.Result.{err_from_is_err_and}
use Rattle.sdl_script.specs.Reading.{number, HasNoTime}
use Rattle.sdl_script.specs.Spelled.{plain}
use Rattle.sdl_script.proofs.LineLemmas.{no_time, line_alone, line_whole, no_signal, syntax_weaker}
use Rattle.sdl_script.proofs.spelling.Spelling.read.Goals as goal

pub returns-in_err-at-clause-err : goal.returns-in_err-at-clause-err
returns-in_err-at-clause-err c =
    let p = err_from_is_err_and c.from_residual.result c.from_residual.ensures.1 in
    rw (p.1, p.2, c.in_err-at.ensures.0) (no_time c.args.line.now (subst HasNoTime c.new-cursor.ensures c.in_err-at.ensures.1))

pub returns-then-is_at_end-clause-ok : goal.returns-then-is_at_end-clause-ok
returns-then-is_at_end-clause-ok c =
    line_alone c.args.line.now c.in_ok-at.at c.read_time.new.cursor (ap number (sym c.new-cursor.ensures) ∙ c.in_ok-at.ensures.0) c.in_ok-at.ensures.1 (c.if-is_at_end.ensures.0 refl)

pub returns-in_err-signal-clause-err : goal.returns-in_err-signal-clause-err
returns-in_err-signal-clause-err c =
    let p = err_from_is_err_and c.from_residual-in_err-signal.result c.from_residual-in_err-signal.ensures.1 in
    rw (p.1, p.2)
    (syntax_weaker c.in_err-signal.field-0.0
    (λ none. no_signal c.args.line.now c.in_ok-at.at c.read_time.new.cursor (ap number (sym c.new-cursor.ensures) ∙ c.in_ok-at.ensures.0)
    (λ nil. false≢true (c.if-is_at_end.ensures.1 nil)) none)
    c.in_err-signal.ensures.err)

pub returns-clause-ok : goal.returns-clause-ok
returns-clause-ok c =
    line_whole c.args.line.now c.in_ok-at.at c.read_time.new.cursor (ap number (sym c.new-cursor.ensures) ∙ c.in_ok-at.ensures.0) c.in_ok-at.ensures.1
    (plain c.in_ok-signal.signal) c.in_ok-signal.ensures.ok
