use Rattle.sdl_explain.proofs.BesideLemmas.{others_beside, others_few, others_right}
use Rattle.sdl_explain.proofs.others.other_faults.Goals as goal

pub returns-clause-told : goal.returns-clause-told
returns-clause-told c =
    others_beside c.args.specification.now c.args.first.now c.in_ok-others.others c.in_ok-others.ensures

pub returns-clause-few : goal.returns-clause-few
returns-clause-few c =
    others_few c.args.specification.now c.args.first.now c.in_ok-others.others c.in_ok-others.ensures

pub returns-clause-all : goal.returns-clause-all
returns-clause-all c =
    others_right c.args.specification.now c.args.first.now c.in_ok-others.others c.in_ok-others.ensures
