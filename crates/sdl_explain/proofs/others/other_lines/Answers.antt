use Rattle.sdl_explain.proofs.BesideLemmas.{other_lines_beside, other_lines_few, other_lines_right}
use Rattle.sdl_explain.proofs.others.other_lines.Goals as goal

pub returns-clause-told : goal.returns-clause-told
returns-clause-told c =
    other_lines_beside c.args.specification.now c.args.script.now c.args.first c.in_ok-others.others
    c.in_ok-others.ensures

pub returns-clause-few : goal.returns-clause-few
returns-clause-few c =
    other_lines_few c.args.specification.now c.args.script.now c.args.first c.in_ok-others.others
    c.in_ok-others.ensures

pub returns-clause-all : goal.returns-clause-all
returns-clause-all c =
    other_lines_right c.args.specification.now c.args.script.now c.args.first c.in_ok-others.others
    c.in_ok-others.ensures
