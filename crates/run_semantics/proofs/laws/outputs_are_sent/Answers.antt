-- Outputs are sent: a lemma says so.
use Rattle.run_semantics.proofs.Acting.{runs_effects}
use Rattle.run_semantics.proofs.Sent.{deeds_send}
use Rattle.run_semantics.proofs.laws.outputs_are_sent.Goals as goal

pub returns : goal.returns
returns c d who from to s t q r deeds history w sent runs known =
    deeds_send who.pid w deeds sent (runs_effects d who from s q runs) known
