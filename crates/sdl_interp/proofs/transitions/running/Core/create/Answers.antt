use Rattle.std.proofs.Common.{◌∙◌, ap, inl, inr, map, sym, ℕ}
use Rattle.std.proofs.lemmas.Result.{err_from_is_err_and}
use Rattle.port_model.specs.declared.values.pid.Pid.{Pid}
use Rattle.run_record.specs.Value.{values_at}
use Rattle.run_record.specs.declared.evaluation.store.Store.{Store}
use Rattle.run_record.specs.Event as event
use Rattle.run_semantics.specs.Fails.{parameters_of}
use Rattle.run_semantics.specs.Leads.{created, offspring_of}
use Rattle.run_semantics.specs.World.{after_effects}
use Rattle.sdl_interp.proofs.Deeds.{goes_created}
use Rattle.sdl_interp.proofs.Meanings.{by_known, values_meant}
use Rattle.sdl_interp.proofs.Staying.{store_kept, value_noted}
use Rattle.sdl_interp.specs.Running.{seen}
use Rattle.sdl_interp.specs.declared.transitions.machine.Machine.{Machine}
use Rattle.sdl_system.specs.System.{SystemValue}
use Rattle.sdl_system.specs.Term.{term_of}
use Rattle.sdl_interp.proofs.transitions.running.Core.create.Goals as goal

pub returns-clause-ok : goal.returns-clause-ok
returns-clause-ok g c = λ d is origin rest.
    let k = seen g.P.Inbox.owning g.P.Inbox.since c.args.self.now in
    let o = k.work.owner in
    let w = g.W.World.value c.args.world.now in
    let old = c.args.self.now.machine in
    let mid = c.make_room.new.machine in
    let process = c.args.creation.now.process in
    let values = c.in_ok-values.values in
    let number = c.in-Ok.number in
    goes_created d origin rest process (map term_of c.args.creation.now.values.items) values number k.work _ w _
    (values_meant k d is _ _
    (c.deref-2.ensures.value ∙ c.in_ok-sorts.ensures.ok
    ∙ ap (λ (x : SystemValue). parameters_of x process) (sym is.system_is))
    _ _ c.deref.ensures.value _
    (by_known k (λ x. values_at x c.deref-2.result.now (map term_of c.deref.result.now)) c.knowledge.result
    c.knowledge.ensures _ c.in_ok-values.ensures.ok))
    c.in-Ok.ensures.number
    (c.in-Ok.ensures.ok
    ∙ ap (λ (x : ℕ). after_effects w (created process x values number))
    (c.pid.ensures ∙ ap (λ (x : Machine). x.trace.pid) c.make_room.ensures.same))
    (value_noted old mid _ _ c.make_room.ensures.same c.create-2.new.self _ _ (event.Create process number) o o
    c.create-2.ensures
    (ap (λ (x : Pid). record mid.store { offspring = x }) c.offspring_of-self.ensures
    ∙ ap (λ (x : Store). record x { offspring = offspring_of number })
    (store_kept old mid _ _ c.make_room.ensures.same)))

pub returns-in_err-values-clause-err : goal.returns-in_err-values-clause-err
returns-in_err-values-clause-err g c =
    let q = err_from_is_err_and c.from_residual-in_err-values.result c.from_residual-in_err-values.ensures.1 in
    let k = seen g.P.Inbox.owning g.P.Inbox.since c.args.self.now in
    let process = c.args.creation.now.process in
    rw (q.1, q.2) (λ d is origin rest. elim c.in_err-values.ensures.err [
      | inl meant ↦ inr (values_meant k d is _ _
          (c.deref-2.ensures.value ∙ c.in_ok-sorts.ensures.ok
          ∙ ap (λ (x : SystemValue). parameters_of x process) (sym is.system_is))
          _ _ c.deref.ensures.value _
          (by_known k (λ x. values_at x c.deref-2.result.now (map term_of c.deref.result.now)) c.knowledge.result
          c.knowledge.ensures _ meant))
      | inr memory ↦ inl (memory.1, tt)
    ])
