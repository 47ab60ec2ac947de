use Rattle.std.proofs.Common.{ap, inl, inr, refl}
use Rattle.std.proofs.lemmas.Result.{err_from_is_err_and}
use Rattle.run_record.specs.Value as evaluated
use Rattle.run_record.specs.Event as event
use Rattle.run_semantics.specs.Reception.{assigned}
use Rattle.sdl_interp.proofs.Deeds.{goes_assigned}
use Rattle.sdl_interp.proofs.Meanings.{by_known, placed_meant}
use Rattle.sdl_interp.proofs.Staying.{amid_noted, amid_roomier}
use Rattle.sdl_interp.specs.Machine.{value_of}
use Rattle.sdl_interp.specs.Running.{seen}
use Rattle.sdl_interp.specs.declared.transitions.machine.Machine.{Machine}
use Rattle.sdl_system.specs.Table.{assigning}
use Rattle.sdl_system.specs.Term.{term_of}
use Rattle.sdl_interp.proofs.transitions.running.Core.assign.Goals as goal

pub returns-in_err-value-clause-err : goal.returns-in_err-value-clause-err
returns-in_err-value-clause-err g c =
    let q = err_from_is_err_and c.from_residual-in_err-value.result c.from_residual-in_err-value.ensures.1 in
    let k = seen g.P.Inbox.owning g.P.Inbox.since c.args.self.now in
    rw (q.1, q.2) (λ more d is origin rest. elim c.in_err-value.ensures.err [
      | inl meant ↦ inr (placed_meant k d is c.args.assignment.now.variable c.sort_of-sort.result c.sort_of-sort.ensures
          (term_of c.args.assignment.now.value) _
          (by_known k (λ x. evaluated.at_place c.sort_of-sort.result (evaluated.value_of x
          (term_of c.args.assignment.now.value)))
          c.knowledge.result c.knowledge.ensures _ meant))
      | inr memory ↦ inl (memory.1, tt)
    ])

-- a sum that is known

pub returns-in-Some-clause-amid : goal.returns-in-Some-clause-amid
returns-in-Some-clause-amid g c =
    let old = c.args.self.now in
    let one = c.args.assignment.now.variable in
    let value = c.in-Some.value in
    amid_noted g.P.Inbox.owning g.P.Inbox.since old c.assign_value.new.machine
    (assigned one value old.machine.store) (event.Task one value) _ _ c.in_ok-assign_value.ensures.ok refl
    c.in_ok-assign_value.ensures.room c.requires

pub returns-in-Some-clause-ok : goal.returns-in-Some-clause-ok
returns-in-Some-clause-ok g c = λ more w d is origin rest.
    let k = seen g.P.Inbox.owning g.P.Inbox.since c.args.self.now in
    goes_assigned d origin rest (assigning c.args.assignment.now) more c.in-Some.value k.work _ w
    (placed_meant k d is c.args.assignment.now.variable c.sort_of-sort.result c.sort_of-sort.ensures
    (term_of c.args.assignment.now.value) _ (c.in-Some.ensures k.system k.work.who k.work.owner.state))
    (ap (λ (x : Machine). value_of x k.work.owner) c.in_ok-assign_value.ensures.ok)

pub returns-in_err-assign_value-clause-amid : goal.returns-in_err-assign_value-clause-amid
returns-in_err-assign_value-clause-amid g c =
    amid_roomier g.P.Inbox.owning g.P.Inbox.since c.args.self.now c.assign_value.new.machine _ _
    c.in_err-assign_value.ensures.same c.in_err-assign_value.ensures.kept c.requires

pub returns-in_err-assign_value-clause-same : goal.returns-in_err-assign_value-clause-same
returns-in_err-assign_value-clause-same g c =
    let q = err_from_is_err_and c.from_residual.result c.from_residual.ensures.1 in
    rw q.1 (ap (λ (x : Machine). value_of x (g.P.Inbox.owning c.args.self.now.inbox))
    c.in_err-assign_value.ensures.same)

-- any other expression

pub returns-clause-amid : goal.returns-clause-amid
returns-clause-amid g c =
    let old = c.args.self.now in
    let one = c.args.assignment.now.variable in
    let value = c.in_ok-value.value in
    amid_noted g.P.Inbox.owning g.P.Inbox.since old c.assign_value-2.new.machine
    (assigned one value old.machine.store) (event.Task one value) _ _ c.in_ok-assign_value-2.ensures.ok refl
    c.in_ok-assign_value-2.ensures.room c.requires

pub returns-clause-ok : goal.returns-clause-ok
returns-clause-ok g c = λ more w d is origin rest.
    let k = seen g.P.Inbox.owning g.P.Inbox.since c.args.self.now in
    goes_assigned d origin rest (assigning c.args.assignment.now) more c.in_ok-value.value k.work _ w
    (placed_meant k d is c.args.assignment.now.variable c.sort_of-sort.result c.sort_of-sort.ensures
    (term_of c.args.assignment.now.value) _
    (by_known k (λ x. evaluated.at_place c.sort_of-sort.result (evaluated.value_of x
    (term_of c.args.assignment.now.value)))
    c.knowledge.result c.knowledge.ensures _ c.in_ok-value.ensures.ok))
    (ap (λ (x : Machine). value_of x k.work.owner) c.in_ok-assign_value-2.ensures.ok)

pub returns-in_err-assign_value-2-clause-amid : goal.returns-in_err-assign_value-2-clause-amid
returns-in_err-assign_value-2-clause-amid g c =
    amid_roomier g.P.Inbox.owning g.P.Inbox.since c.args.self.now c.assign_value-2.new.machine _ _
    c.in_err-assign_value-2.ensures.same c.in_err-assign_value-2.ensures.kept c.requires

pub returns-in_err-assign_value-2-clause-same : goal.returns-in_err-assign_value-2-clause-same
returns-in_err-assign_value-2-clause-same g c =
    let q = err_from_is_err_and c.from_residual-in_err-assign_value-2.result
    c.from_residual-in_err-assign_value-2.ensures.1 in
    rw q.1 (ap (λ (x : Machine). value_of x (g.P.Inbox.owning c.args.self.now.inbox))
    c.in_err-assign_value-2.ensures.same)
