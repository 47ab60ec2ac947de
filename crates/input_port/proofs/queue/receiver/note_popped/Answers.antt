use Rattle.std.proofs.Common.{subst, sym, Option}
use Rattle.port_model.specs.declared.inbox.placed.Placed.{Placed}
use Rattle.input_port.specs.QueueCalls.{popped_list}
use Rattle.input_port.specs.Kept.{NotesSenders}
use Rattle.input_port.proofs.QueueKeeping.{kept_none}
use Rattle.input_port.proofs.queue.receiver.note_popped.Goals as goal

pub returns-in-None : goal.returns-in-None
returns-in-None c =
    subst (λ (popped : Option Placed). NotesSenders c.args.puts.now (popped_list popped) c.args.puts.now)
    (sym c.in-None.is) (kept_none c.args.puts.now)

pub returns-in-Some : goal.returns-in-Some
returns-in-Some c =
    subst (λ (popped : Option Placed). NotesSenders c.args.puts.now (popped_list popped) c.note_put.new.puts)
    (sym c.in-Some.is) c.note_put.ensures
