use Rattle.std.proofs.Common.{◌+◌, drop, map, refl}
use Rattle.std.proofs.lemmas.Result.{err_from_is_err_and}
use Rattle.sdl_interp.proofs.Pieces.{pieces_begin, pieces_done, pieces_on, pieces_wrong, tasking}
use Rattle.sdl_interp.proofs.Staying.{amid_here, amid_on}
use Rattle.sdl_interp.specs.Running.{seen}
use Rattle.sdl_system.specs.Table.{assigning}
use Rattle.sdl_interp.proofs.transitions.running.Core.assign_all.Goals as goal

pub loop-assignment-init : goal.loop-assignment-init
loop-assignment-init g c =
    let k = seen g.P.Inbox.owning g.P.Inbox.since c.args.self.now in
    record {
      amid = amid_here k c.requires;
      goes = λ w. pieces_begin assigning tasking k c.args.assignments.now w;
    }

pub returns-in_err-assign-clause-amid : goal.returns-in_err-assign-clause-amid
returns-in_err-assign-clause-amid g c =
    amid_on (seen g.P.Inbox.owning g.P.Inbox.since c.args.self.now)
    (seen g.P.Inbox.owning g.P.Inbox.since c.loop-assignment.self)
    (seen g.P.Inbox.owning g.P.Inbox.since c.assign.new.self) c.loop-assignment.invariant.amid c.assign.ensures.amid

pub returns-in_err-assign-clause-err : goal.returns-in_err-assign-clause-err
returns-in_err-assign-clause-err g c =
    let q = err_from_is_err_and c.from_residual.result c.from_residual.ensures.1 in
    let k = seen g.P.Inbox.owning g.P.Inbox.since c.args.self.now in
    let m = seen g.P.Inbox.owning g.P.Inbox.since c.loop-assignment.self in
    let n = seen g.P.Inbox.owning g.P.Inbox.since c.assign.new.self in
    let xs = c.args.assignments.now in
    let i = c.loop-assignment.assignment-index in
    rw (q.1, q.2) (λ w. pieces_wrong assigning tasking k xs i c.assignment-item.result c.loop-assignment-test.true
    c.assignment-item.is m n c.loop-assignment.invariant.amid.same w w w
    (c.loop-assignment.invariant.goes w) _ (c.in_err-assign.ensures.err (map assigning (drop (i + 1) xs)))
    c.in_err-assign.ensures.same refl)

pub loop-assignment-preserved : goal.loop-assignment-preserved
loop-assignment-preserved g c =
    let k = seen g.P.Inbox.owning g.P.Inbox.since c.args.self.now in
    let m = seen g.P.Inbox.owning g.P.Inbox.since c.loop-assignment.self in
    let n = seen g.P.Inbox.owning g.P.Inbox.since c.assign.new.self in
    let xs = c.args.assignments.now in
    let i = c.loop-assignment.assignment-index in
    record {
      amid = amid_on k m n c.loop-assignment.invariant.amid c.assign.ensures.amid;
      goes = λ w. pieces_on assigning tasking k xs i c.assignment-item.result c.loop-assignment-test.true
          c.assignment-item.is m n
          c.loop-assignment.invariant.amid.same w w w
          (c.loop-assignment.invariant.goes w) (c.in_ok-assign.ensures.ok (map assigning (drop (i + 1) xs)) w);
    }

pub returns-clause-ok : goal.returns-clause-ok
returns-clause-ok g c =
    let k = seen g.P.Inbox.owning g.P.Inbox.since c.args.self.now in
    let m = seen g.P.Inbox.owning g.P.Inbox.since c.loop-assignment.self in
    λ w. pieces_done assigning tasking k c.args.assignments.now c.loop-assignment.assignment-index m w w
    c.loop-assignment-test.false (c.loop-assignment.invariant.goes w)
