use Rattle.laws_complete.proofs.ConditionLemmas.{conditions-given, none-missing}
use Rattle.laws_complete.proofs.expressions.conditions_given.Goals as goal
use Rattle.build_states.specs.Reading.{body_read}

pub returns : goal.returns
returns c context body complete is =
    none-missing (body_read context body).numbering.conditions
    (conditions-given context complete body is)
