use Rattle.std.proofs.lemmas.Result.{err_from_is_err_and}
use Rattle.sdl_script.proofs.LineLemmas.{no_name, no_tail, no_end, syntax_weaker}
use Rattle.sdl_script.proofs.ReadingLemmas.{name_sound}
use Rattle.sdl_script.proofs.spelling.read_signal.Goals as goal

pub returns-in_err-name-clause-err : goal.returns-in_err-name-clause-err
returns-in_err-name-clause-err c =
    let p = err_from_is_err_and c.from_residual.result c.from_residual.ensures.1 in
    rw (p.1, p.2, c.in_err-name.ensures.read.0) (no_name c.args.cursor.now c.in_err-name.ensures.read.1)

pub returns-in_err-values-clause-err : goal.returns-in_err-values-clause-err
returns-in_err-values-clause-err c =
    let p = err_from_is_err_and c.from_residual-in_err-values.result c.from_residual-in_err-values.ensures.1 in
    rw (p.1, p.2)
    (syntax_weaker c.in_err-values.field-0.0
    (λ none. no_tail c.args.cursor.now c.in_ok-name.name.now c.read_name.new.cursor c.in_ok-name.ensures.read none)
    c.in_err-values.ensures.err)

pub returns-in_err-to-clause-err : goal.returns-in_err-to-clause-err
returns-in_err-to-clause-err c =
    let p = err_from_is_err_and c.from_residual-in_err-to.result c.from_residual-in_err-to.ensures.1 in
    rw (p.1, p.2, c.in_err-to.ensures.err.0)
    (no_end c.args.cursor.now c.in_ok-name.name.now c.read_name.new.cursor c.in_ok-name.ensures.read c.read_values.new.cursor
    c.in_ok-values.ensures.only c.in_err-to.ensures.err.1)

pub returns-clause-ok : goal.returns-clause-ok
returns-clause-ok c = (
  c.read_name.new.cursor,
  c.read_values.new.cursor,
  name_sound c.in_ok-name.name.now c.args.cursor.now c.read_name.new.cursor c.in_ok-name.ensures.read,
  c.in_ok-values.ensures.ok,
  c.in_ok-to.ensures.ok,
)
