-- The values of a signal go to the variables of its input.
use Rattle.std.proofs.Common.{◌∙◌, ℕ, List, Option, ap, sym}
use Rattle.port_model.specs.declared.values.pid.Pid.{Pid}
use Rattle.run_record.specs.declared.evaluation.store.Store.{Store}
use Rattle.run_record.specs.Entry.{got_of}
use Rattle.sdl_system.specs.declared.id.VariableId.{VariableId}
use Rattle.sdl_failures.proofs.GotLemmas.{name-got, values-got}
use Rattle.sdl_failures.proofs.ToldLemmas.{received_whole}
use Rattle.sdl_failures.specs.Received.{received}
use Rattle.sdl_failures.proofs.replayed.told.tell_reception.Goals as goal

pub returns : goal.returns
returns c = λ all.
    let s : Store = c.args.store.now in
    let process = c.args.own.process.now in
    let got = c.args.got in
    let values = c.args.values.now in
    let sender = c.sender-store.result in
    let begun : Store = record s { sender = sender; time = c.new-store.result; done = 0 } in
    received_whole process c.args.state c.args.own.number c.args.at (got_of got values) s begun c.receive.new.store
    got.name values c.in-Some.reception.now (name-got got.origin got.name values) (values-got got.origin got.name values)
    (sym c.in-Some.ensures)
    (ap (λ (p : Pid). let x : Store = record s { sender = p; time = c.args.at; done = 0 } in x)
    (c.sender-store.ensures got.name values)
    ∙ ap (λ (n : ℕ). let x : Store = record s { sender = sender; time = n; done = 0 } in x) (sym c.new-store.ensures))
    (ap (λ (list : List (Option VariableId)). received process list values begun) (sym c.deref.ensures.value)
    ∙ c.receive.ensures all)
