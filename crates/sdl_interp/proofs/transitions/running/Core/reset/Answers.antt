use Rattle.std.proofs.Common.{◌∙◌, ap, inl, inr, map}
use Rattle.std.proofs.lemmas.Result.{err_from_is_err_and}
use Rattle.port_model.specs.Ends.{OwnerState}
use Rattle.run_record.specs.Value.{key_at}
use Rattle.run_record.specs.Event as event
use Rattle.run_semantics.specs.Goes.{with_event}
use Rattle.sdl_interp.proofs.Deeds.{goes_reset}
use Rattle.sdl_interp.proofs.Meanings.{by_known, key_meant}
use Rattle.sdl_interp.proofs.Staying.{store_kept, value_noted}
use Rattle.sdl_interp.specs.Running.{seen}
use Rattle.sdl_system.specs.Table.{timing}
use Rattle.sdl_system.specs.Term.{term_of}
use Rattle.sdl_interp.proofs.transitions.running.Core.reset.Goals as goal

pub returns-clause-ok : goal.returns-clause-ok
returns-clause-ok g c = λ more w d is origin rest.
    let k = seen g.P.Inbox.owning g.P.Inbox.since c.args.self.now in
    let old = c.args.self.now.machine in
    let mid = c.make_room.new.machine in
    let key = c.in_ok-key.key in
    goes_reset d origin rest (timing c.args.one.now) more key k.work _ w c.requires.alive
    (key_meant k d is c.args.one.now.timer _ _ c.deref.ensures.value _
    (by_known k (λ x. key_at x c.args.one.now.timer (map term_of c.deref.result.now)) c.knowledge.result
    c.knowledge.ensures _ c.in_ok-key.ensures.ok))
    (value_noted old mid _ _ c.make_room.ensures.same c.reset-2.new.self mid.store old.store (event.Reset key)
    k.work.owner (g.P.Inbox.owning c.reset.new.self) c.reset-2.ensures
    (store_kept old mid _ _ c.make_room.ensures.same)
    ∙ ap (λ (x : OwnerState). with_event (record k.work { owner = x }) (event.Reset key)) c.reset.ensures.reset)

pub returns-in_err-key-clause-err : goal.returns-in_err-key-clause-err
returns-in_err-key-clause-err g c =
    let q = err_from_is_err_and c.from_residual.result c.from_residual.ensures.1 in
    let k = seen g.P.Inbox.owning g.P.Inbox.since c.args.self.now in
    rw (q.1, q.2) (λ more d is origin rest. elim c.in_err-key.ensures.err [
      | inl meant ↦ inr (key_meant k d is c.args.one.now.timer _ _ c.deref.ensures.value _
          (by_known k (λ x. key_at x c.args.one.now.timer (map term_of c.deref.result.now)) c.knowledge.result
          c.knowledge.ensures _ meant))
      | inr memory ↦ inl (memory.1, tt)
    ])
