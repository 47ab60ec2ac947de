use Rattle.sdl_script.proofs.EndLemmas.{last_line, ended_line}
use Rattle.sdl_script.proofs.line.split_line.Goals as goal

pub returns-in-None-clause-line : goal.returns-in-None-clause-line
returns-in-None-clause-line c =
    last_line c.args.text.now c.split_at.result.0.now c.split_at.result.1.now c.line_len.result c.line_len.ensures.value c.split_at.ensures.front c.split_at.ensures.back
    c.requires c.in-None.ensures.cases

pub returns-in-Some-clause-line : goal.returns-in-Some-clause-line
returns-in-Some-clause-line c =
    ended_line c.args.text.now c.split_at.result.0.now c.split_at.result.1.now c.line_len.result c.line_len.ensures.value c.split_at.ensures.front c.split_at.ensures.back
    c.in-Some.field-0-0.now c.in-Some.rest.now c.without_return.result.now c.in-Some.ensures.cases.0 c.without_return.ensures
