use Rattle.std.proofs.Common.{◌+◌, drop, map}
use Rattle.std.proofs.lemmas.Result.{err_from_is_err_and}
use Rattle.sdl_interp.proofs.Pieces.{pieces_begin, pieces_done, pieces_on, pieces_wrong, timers_set}
use Rattle.sdl_interp.proofs.Staying.{amid_here, amid_on}
use Rattle.sdl_interp.specs.Running.{seen}
use Rattle.sdl_system.specs.Table.{setting}
use Rattle.sdl_interp.proofs.transitions.running.Core.set_all.Goals as goal

pub loop-setting-init : goal.loop-setting-init
loop-setting-init g c =
    let k = seen g.P.Inbox.owning g.P.Inbox.since c.args.self.now in
    record {
      amid = amid_here k c.requires;
      goes = pieces_begin setting timers_set k c.args.settings.now (g.W.World.value c.args.world.now);
    }

pub returns-in_err-set-clause-amid : goal.returns-in_err-set-clause-amid
returns-in_err-set-clause-amid g c =
    amid_on (seen g.P.Inbox.owning g.P.Inbox.since c.args.self.now)
    (seen g.P.Inbox.owning g.P.Inbox.since c.loop-setting.self)
    (seen g.P.Inbox.owning g.P.Inbox.since c.set.new.self) c.loop-setting.invariant.amid c.set.ensures.amid

pub returns-in_err-set-clause-err : goal.returns-in_err-set-clause-err
returns-in_err-set-clause-err g c =
    let q = err_from_is_err_and c.from_residual.result c.from_residual.ensures.1 in
    let k = seen g.P.Inbox.owning g.P.Inbox.since c.args.self.now in
    let m = seen g.P.Inbox.owning g.P.Inbox.since c.loop-setting.self in
    let n = seen g.P.Inbox.owning g.P.Inbox.since c.set.new.self in
    let xs = c.args.settings.now in
    let i = c.loop-setting.setting-index in
    rw (q.1, q.2) (pieces_wrong setting timers_set k xs i c.setting-item.result c.loop-setting-test.true
    c.setting-item.is m n c.loop-setting.invariant.amid.same (g.W.World.value c.args.world.now)
    (g.W.World.value c.loop-setting.world)
    (g.W.World.value c.set.new.world)
    c.loop-setting.invariant.goes _ (c.in_err-set.ensures.err (map setting (drop (i + 1) xs)))
    c.in_err-set.ensures.same c.in_err-set.ensures.quiet)

pub loop-setting-preserved : goal.loop-setting-preserved
loop-setting-preserved g c =
    let k = seen g.P.Inbox.owning g.P.Inbox.since c.args.self.now in
    let m = seen g.P.Inbox.owning g.P.Inbox.since c.loop-setting.self in
    let n = seen g.P.Inbox.owning g.P.Inbox.since c.set.new.self in
    let xs = c.args.settings.now in
    let i = c.loop-setting.setting-index in
    record {
      amid = amid_on k m n c.loop-setting.invariant.amid c.set.ensures.amid;
      goes = pieces_on setting timers_set k xs i c.setting-item.result c.loop-setting-test.true c.setting-item.is m n
          c.loop-setting.invariant.amid.same (g.W.World.value c.args.world.now) (g.W.World.value c.loop-setting.world)
          (g.W.World.value c.set.new.world)
          c.loop-setting.invariant.goes (c.in_ok-set.ensures.ok (map setting (drop (i + 1) xs)));
    }

pub returns-clause-ok : goal.returns-clause-ok
returns-clause-ok g c =
    let k = seen g.P.Inbox.owning g.P.Inbox.since c.args.self.now in
    let m = seen g.P.Inbox.owning g.P.Inbox.since c.loop-setting.self in
    pieces_done setting timers_set k c.args.settings.now c.loop-setting.setting-index m
    (g.W.World.value c.args.world.now) (g.W.World.value c.loop-setting.world)
    c.loop-setting-test.false c.loop-setting.invariant.goes
