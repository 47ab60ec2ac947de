use Rattle.std.proofs.Common.{◌≡◌, ◌≤◌, ◌∙◌, Some, ap, arith, slice_get, subst, sym}
use Rattle.port_model.specs.Port.{PortState}
use Rattle.run_record.specs.Environment.{initial_store}
use Rattle.run_record.specs.Variables.{VariableList}
use Rattle.sdl_interp.proofs.Instances.{holds_ok, variables_mean}
use Rattle.run_record.specs.Record.{RecordValue}
use Rattle.run_semantics.proofs.Histories.{run_begins}
use Rattle.sdl_interp.specs.Machine.{identity_of}
use Rattle.sdl_system.specs.declared.id.ProcessId.{ProcessId}
use Rattle.sdl_interp.proofs.instance.Instance.new.Goals as goal

pub invariant_of-result : goal.invariant_of-result
invariant_of-result g c =
    let trace : RecordValue = c.reserve.new.self in
    let room = holds_ok c.reserve.result (sym c.is_err.ensures.value ∙ c.if-is_err.false) c.reserve.ensures.ok in
    let enough : 2 ≤ trace.room = room.0 in
    record {
      ready = (
        record {
          room = omega arith;
          alive = ap (λ (q : PortState). q.alive) c.requires.empty;
          own = c.requires.own
              ∙ sym (ap (λ (t : RecordValue). t.pid) c.reserve.ensures.same
              ∙ ap (λ (t : RecordValue). t.pid) c.new-trace.ensures);
        },
        enough,
      );
      listed = subst (λ (id : ProcessId). slice_get c.args.system.now.processes id.0 ≡ Some c.args.process.now)
          (sym (ap (λ (t : RecordValue). t.process) c.reserve.ensures.same
          ∙ ap (λ (t : RecordValue). t.process) c.new-trace.ensures)) c.requires.process;
      state = tt;
      run = λ d is. run_begins d g.P.Inbox.shared (identity_of trace) trace.events c.new.result
          (g.P.Inbox.owning c.args.inbox) c.args.values.now
          (ap (λ (t : RecordValue). t.events) c.reserve.ensures.same
          ∙ ap (λ (t : RecordValue). t.events) c.new-trace.ensures)
          (c.new.ensures ∙ ap (λ (list : VariableList). initial_store list)
          (c.in-Ok.ensures ∙ variables_mean c.args.process.now d.behaviour is.behaves.means c.args.values.now))
          c.requires.empty c.requires.drawn;
    }
