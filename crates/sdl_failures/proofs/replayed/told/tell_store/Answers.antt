-- What the store takes to know.
use Rattle.std.proofs.Common.{◌∙◌, ℕ, Some, ap, sym}
use Rattle.port_model.specs.declared.values.pid.Pid.{Pid}
use Rattle.run_record.specs.declared.evaluation.store.Store.{Store}
use Rattle.run_record.specs.Entry.{event_of}
use Rattle.run_record.specs.declared.entry.Entry.{Entry}
use Rattle.sdl_failures.specs.Told.{store_after}
use Rattle.sdl_failures.proofs.PartLemmas.{no-news}
use Rattle.sdl_failures.proofs.replayed.told.tell_store.Goals as goal

pub returns-in_default : goal.returns-in_default
returns-in_default c = λ told.
    no-news c.args.own.process.now c.args.own.number c.args.state c.args.store.now c.args.entry c.args.values.now
    c.in_default.not-Start c.in_default.not-Consumed c.in_default.not-Prior c.in_default.not-Discarded
    c.in_default.not-Provided c.in_default.not-Task c.in_default.not-Create

pub returns-in-Discarded : goal.returns-in-Discarded
returns-in-Discarded c = λ told.
    let s : Store = c.args.store.now in
    ap (λ (e : Entry). store_after c.args.own.process.now c.args.own.number c.args.state s (event_of e c.args.values.now))
    c.in-Discarded.is
    ∙ ap (λ (p : Pid). let t : Store = record s { sender = p; time = c.in-Discarded.at } in Some t)
    (c.sender-store.ensures c.in-Discarded.got.name c.args.values.now)
    ∙ ap (λ (n : ℕ). let t : Store = record s { sender = c.sender-store.result; time = n } in Some t) (sym c.new-store-in-Discarded.ensures)
