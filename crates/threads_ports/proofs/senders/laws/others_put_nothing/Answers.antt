-- Lemmas say so.
use Rattle.threads_ports.proofs.LawLemmas.{others_put_nothing, others_record_nothing}
use Rattle.threads_ports.proofs.senders.laws.others_put_nothing.Goals as goal

pub returns-clause-sent : goal.returns-clause-sent
returns-clause-sent c = others_put_nothing

pub returns-clause-recorded : goal.returns-clause-recorded
returns-clause-recorded c = others_record_nothing
