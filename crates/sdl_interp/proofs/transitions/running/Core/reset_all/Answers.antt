use Rattle.std.proofs.Common.{◌+◌, drop, map, refl}
use Rattle.std.proofs.lemmas.Result.{err_from_is_err_and}
use Rattle.sdl_interp.proofs.Pieces.{pieces_begin, pieces_done, pieces_on, pieces_wrong, timers_reset}
use Rattle.sdl_interp.proofs.Staying.{amid_here, amid_on}
use Rattle.sdl_interp.specs.Running.{seen}
use Rattle.sdl_system.specs.Table.{timing}
use Rattle.sdl_interp.proofs.transitions.running.Core.reset_all.Goals as goal

pub loop-timer-init : goal.loop-timer-init
loop-timer-init g c =
    let k = seen g.P.Inbox.owning g.P.Inbox.since c.args.self.now in
    record {
      amid = amid_here k c.requires;
      goes = λ w. pieces_begin timing timers_reset k c.args.timers.now w;
    }

pub returns-in_err-reset-clause-amid : goal.returns-in_err-reset-clause-amid
returns-in_err-reset-clause-amid g c =
    amid_on (seen g.P.Inbox.owning g.P.Inbox.since c.args.self.now)
    (seen g.P.Inbox.owning g.P.Inbox.since c.loop-timer.self)
    (seen g.P.Inbox.owning g.P.Inbox.since c.reset.new.self) c.loop-timer.invariant.amid c.reset.ensures.amid

pub returns-in_err-reset-clause-err : goal.returns-in_err-reset-clause-err
returns-in_err-reset-clause-err g c =
    let q = err_from_is_err_and c.from_residual.result c.from_residual.ensures.1 in
    let k = seen g.P.Inbox.owning g.P.Inbox.since c.args.self.now in
    let m = seen g.P.Inbox.owning g.P.Inbox.since c.loop-timer.self in
    let n = seen g.P.Inbox.owning g.P.Inbox.since c.reset.new.self in
    let xs = c.args.timers.now in
    let i = c.loop-timer.timer-index in
    rw (q.1, q.2) (λ w. pieces_wrong timing timers_reset k xs i c.timer-item.result c.loop-timer-test.true
    c.timer-item.is m n c.loop-timer.invariant.amid.same w w w
    (c.loop-timer.invariant.goes w) _ (c.in_err-reset.ensures.err (map timing (drop (i + 1) xs)))
    c.in_err-reset.ensures.same refl)

pub loop-timer-preserved : goal.loop-timer-preserved
loop-timer-preserved g c =
    let k = seen g.P.Inbox.owning g.P.Inbox.since c.args.self.now in
    let m = seen g.P.Inbox.owning g.P.Inbox.since c.loop-timer.self in
    let n = seen g.P.Inbox.owning g.P.Inbox.since c.reset.new.self in
    let xs = c.args.timers.now in
    let i = c.loop-timer.timer-index in
    record {
      amid = amid_on k m n c.loop-timer.invariant.amid c.reset.ensures.amid;
      goes = λ w. pieces_on timing timers_reset k xs i c.timer-item.result c.loop-timer-test.true c.timer-item.is m n
          c.loop-timer.invariant.amid.same w w w
          (c.loop-timer.invariant.goes w) (c.in_ok-reset.ensures.ok (map timing (drop (i + 1) xs)) w);
    }

pub returns-clause-ok : goal.returns-clause-ok
returns-clause-ok g c =
    let k = seen g.P.Inbox.owning g.P.Inbox.since c.args.self.now in
    let m = seen g.P.Inbox.owning g.P.Inbox.since c.loop-timer.self in
    λ w. pieces_done timing timers_reset k c.args.timers.now c.loop-timer.timer-index m w w
    c.loop-timer-test.false (c.loop-timer.invariant.goes w)
