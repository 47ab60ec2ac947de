use Rattle.std.proofs.Common.{ℕ, subst}
use Rattle.port_model.specs.KeptWords.{Notes}
use Rattle.input_port.proofs.QueueKeeping.{kept_one}
use Rattle.input_port.proofs.queue.receiver.note_put.Goals as goal

pub returns : goal.returns
returns c = λ drawn now is kept.
    kept_one c.args.puts.now c.note.new.self drawn now c.args.placed.now is kept
    (subst (λ (word : ℕ). Notes c.args.puts.now word c.note.new.self) c.get.ensures c.note.ensures)
