use Rattle.std.proofs.Common.{◌∙◌, ◌+◌, ap, inl, inr, map, refl, ℕ, Err}
use Rattle.std.proofs.lemmas.Result.{err_from_is_err_and}
use Rattle.port_model.specs.Ends.{OwnerState}
use Rattle.port_model.specs.declared.inbox.entry.Fuse.{Fuse}
use Rattle.port_model.specs.declared.values.timer_key.TimerKey.{TimerKey}
use Rattle.run_record.specs.Value.{key_at}
use Rattle.run_record.specs.Event as event
use Rattle.run_record.specs.Record.{noted}
use Rattle.run_semantics.specs.Effect.{Arm}
use Rattle.run_semantics.specs.Fails.{due_by}
use Rattle.run_semantics.specs.Goes.{with_event}
use Rattle.run_semantics.specs.World.{WorldValue, after_effect}
use Rattle.sdl_interp.proofs.Deeds.{goes_set, numbered_by}
use Rattle.sdl_interp.proofs.Meanings.{by_known, set_ok, undue, unkeyed}
use Rattle.sdl_interp.proofs.Staying.{store_kept, value_noted}
use Rattle.sdl_interp.specs.Running.{seen}
use Rattle.sdl_system.specs.Table.{setting, when_due}
use Rattle.sdl_system.specs.Term.{term_of}
use Rattle.sdl_interp.proofs.transitions.running.Core.set.Goals as goal

pub returns-clause-ok : goal.returns-clause-ok
returns-clause-ok g c = λ more d is origin rest.
    let k = seen g.P.Inbox.owning g.P.Inbox.since c.args.self.now in
    let o = k.work.owner in
    let after = g.P.Inbox.owning c.set.new.self in
    let w = g.W.World.value c.args.world.now in
    let old = c.args.self.now.machine in
    let mid = c.make_room.new.machine in
    let one = c.args.one.now in
    let due = c.in_ok-due.due in
    let key = c.in_ok-key.key in
    let fuse = c.in-Ok.fuse in
    let arm = o.state.sets + 1 in
    goes_set d origin rest (setting one) more key due k.work _ w _ c.requires.alive
    (numbered_by o.state.sets fuse c.in-Ok.ensures.spent.1)
    (set_ok k d is one _ c.deref.ensures.value due key
    (by_known k (λ x. due_by x (when_due one.due)) c.knowledge.result c.knowledge.ensures _ c.in_ok-due.ensures.ok)
    (by_known k (λ x. key_at x one.timer.timer (map term_of c.deref.result.now)) c.knowledge-2.result
    c.knowledge-2.ensures _ c.in_ok-key.ensures.ok))
    (c.arm.ensures
    ∙ ap (λ (x : WorldValue). after_effect x (Arm fuse)) c.prepare.ensures.same
    ∙ ap (λ (x : Fuse). after_effect w (Arm x)) c.in-Ok.ensures.set.fuse_is
    ∙ ap (λ (x : ℕ). after_effect w (Arm (record { pid = x; key = key; arm = arm; due = due }))) c.requires.own)
    (value_noted old mid _ _ c.make_room.ensures.same c.set-2.new.self mid.store old.store (event.Set key due) o after
    (c.set-2.ensures
    ∙ ap (λ (x : TimerKey). noted mid.trace (event.Set x due))
    (c.key.ensures ∙ ap (λ (x : Fuse). x.key) c.in-Ok.ensures.set.fuse_is))
    (store_kept old mid _ _ c.make_room.ensures.same)
    ∙ ap (λ (x : OwnerState). with_event (record k.work { owner = x }) (event.Set key due))
    c.in-Ok.ensures.set.owner)

pub returns-in_err-due-clause-err : goal.returns-in_err-due-clause-err
returns-in_err-due-clause-err g c =
    let q = err_from_is_err_and c.from_residual.result c.from_residual.ensures.1 in
    let k = seen g.P.Inbox.owning g.P.Inbox.since c.args.self.now in
    rw (q.1, q.2) (λ more d is origin rest. elim c.in_err-due.ensures.err [
      | inl memory ↦ inl (memory, tt)
      | inr meant ↦ inr (inl (undue k d is c.args.one.now _
          (by_known k (λ x. due_by x (when_due c.args.one.now.due)) c.knowledge.result c.knowledge.ensures _ meant)))
    ])

pub returns-in_err-key-clause-err : goal.returns-in_err-key-clause-err
returns-in_err-key-clause-err g c =
    let q = err_from_is_err_and c.from_residual-in_err-key.result c.from_residual-in_err-key.ensures.1 in
    let k = seen g.P.Inbox.owning g.P.Inbox.since c.args.self.now in
    rw (q.1, q.2) (λ more d is origin rest. elim c.in_err-key.ensures.err [
      | inl meant ↦ inr (inl (unkeyed k d is c.args.one.now _ c.deref.ensures.value c.in_ok-due.due _
          (by_known k (λ x. due_by x (when_due c.args.one.now.due)) c.knowledge.result c.knowledge.ensures _
          c.in_ok-due.ensures.ok)
          (by_known k (λ x. key_at x c.args.one.now.timer.timer (map term_of c.deref.result.now)) c.knowledge-2.result
          c.knowledge-2.ensures _ meant)))
      | inr memory ↦ inl (memory.1, tt)
    ])

pub returns-in-Err-SetsSpent-clause-err : goal.returns-in-Err-SetsSpent-clause-err
returns-in-Err-SetsSpent-clause-err g c = λ more d is origin rest.
    let k = seen g.P.Inbox.owning g.P.Inbox.since c.args.self.now in
    inr (inr (record {
      due = c.in_ok-due.due;
      key = c.in_ok-key.key;
      evaluated = set_ok k d is c.args.one.now _ c.deref.ensures.value c.in_ok-due.due c.in_ok-key.key
          (by_known k (λ x. due_by x (when_due c.args.one.now.due)) c.knowledge.result c.knowledge.ensures _
          c.in_ok-due.ensures.ok)
          (by_known k (λ x. key_at x c.args.one.now.timer.timer (map term_of c.deref.result.now)) c.knowledge-2.result
          c.knowledge-2.ensures _ c.in_ok-key.ensures.ok);
      spent = c.in-Err-SetsSpent.ensures.spent.0 (ap Err c.in-Err-SetsSpent.field-0-is);
      told = refl;
    }))
