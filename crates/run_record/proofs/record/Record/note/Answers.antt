use Rattle.run_record.proofs.record.Record.note.Goals as goal

pub returns : goal.returns
returns c = λ one is. c.begin.ensures one (is c.new.result)
