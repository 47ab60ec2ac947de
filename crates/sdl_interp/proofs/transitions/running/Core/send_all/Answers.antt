use Rattle.std.proofs.Common.{◌≡◌, ◌+◌, ◌<◌, ◌≤◌, ◌∷◌, ap, drop, get_or, length, map, subst, List, Option}
use Rattle.std.proofs.lemmas.Result.{err_from_is_err_and}
use Rattle.std.specs.Option.{option_map}
use Rattle.sdl_interp.proofs.Pieces.{pieces_begin, pieces_done, pieces_on, pieces_wrong, sending_to}
use Rattle.sdl_interp.proofs.Staying.{amid_here, amid_on}
use Rattle.sdl_interp.specs.Running.{seen}
use Rattle.sdl_interp.specs.Work.{Does, FailsAt, IsOf, amid}
use Rattle.sdl_system.specs.Body as body
use Rattle.sdl_system.specs.Body.{Whither}
use Rattle.sdl_system.specs.Table.{sending, whither_of}
use Rattle.sdl_system.specs.declared.statement.Destination.{Destination}
use Rattle.sdl_system.specs.declared.statement.Sending.{Sending}
use Rattle.sdl_interp.proofs.transitions.running.Core.send_all.Goals as goal

pub loop-sending-init : goal.loop-sending-init
loop-sending-init g c =
    let k = seen g.P.Inbox.owning g.P.Inbox.since c.args.self.now in
    record {
      amid = amid_here k c.requires;
      goes = pieces_begin sending (sending_to (option_map whither_of c.args.output.now.to)) k
          c.args.output.now.signals.items (g.W.World.value c.args.world.now);
    }

pub returns-in_err-send-clause-amid : goal.returns-in_err-send-clause-amid
returns-in_err-send-clause-amid g c =
    amid_on (seen g.P.Inbox.owning g.P.Inbox.since c.args.self.now)
    (seen g.P.Inbox.owning g.P.Inbox.since c.loop-sending.self)
    (seen g.P.Inbox.owning g.P.Inbox.since c.send.new.self) c.loop-sending.invariant.amid c.send.ensures.amid

pub loop-sending-preserved : goal.loop-sending-preserved
loop-sending-preserved g c =
    let k = seen g.P.Inbox.owning g.P.Inbox.since c.args.self.now in
    let m = seen g.P.Inbox.owning g.P.Inbox.since c.loop-sending.self in
    let n = seen g.P.Inbox.owning g.P.Inbox.since c.send.new.self in
    let v = g.W.World.value c.loop-sending.world in
    let u = g.W.World.value c.send.new.world in
    let xs = c.args.output.now.signals.items in
    let i = c.loop-sending.sending-index in
    let x = c.sending-item.result in
    let more = map sending (drop (i + 1) xs) in
    let Below : List Sending → Type 0 = λ ys. i < length ys in
    let Is : List Sending → Type 0 = λ ys. x ≡ get_or ys i x in
    let Sends : Option Whither → Type 0 =
    λ to. Does (IsOf m.system m.process) (amid (body.output (sending x ∷ more) to)) m.work v
    (amid (body.output more to)) n.work u in
    record {
      amid = amid_on k m n c.loop-sending.invariant.amid c.send.ensures.amid;
      goes = pieces_on sending (sending_to (option_map whither_of c.args.output.now.to)) k xs i x
          (subst Below c.deref-sending-items.ensures.value c.loop-sending-test.true)
          (subst Is c.deref-sending-items.ensures.value c.sending-item.is) m n c.loop-sending.invariant.amid.same
          (g.W.World.value c.args.world.now) v u c.loop-sending.invariant.goes
          (subst Sends (ap (λ (to : Option Destination). option_map whither_of to) c.as_ref-to.ensures.value)
          (c.in_ok-send.ensures.ok more));
    }

pub returns-in_err-send-clause-err : goal.returns-in_err-send-clause-err
returns-in_err-send-clause-err g c =
    let q = err_from_is_err_and c.from_residual.result c.from_residual.ensures.1 in
    let k = seen g.P.Inbox.owning g.P.Inbox.since c.args.self.now in
    let m = seen g.P.Inbox.owning g.P.Inbox.since c.loop-sending.self in
    let n = seen g.P.Inbox.owning g.P.Inbox.since c.send.new.self in
    let xs = c.args.output.now.signals.items in
    let i = c.loop-sending.sending-index in
    let x = c.sending-item.result in
    let more = map sending (drop (i + 1) xs) in
    let Below : List Sending → Type 0 = λ ys. i < length ys in
    let Is : List Sending → Type 0 = λ ys. x ≡ get_or ys i x in
    rw (q.1, q.2) (pieces_wrong sending (sending_to (option_map whither_of c.args.output.now.to)) k xs i x
    (subst Below c.deref-sending-items.ensures.value c.loop-sending-test.true)
    (subst Is c.deref-sending-items.ensures.value c.sending-item.is) m n c.loop-sending.invariant.amid.same
    (g.W.World.value c.args.world.now) (g.W.World.value c.loop-sending.world) (g.W.World.value c.send.new.world)
    c.loop-sending.invariant.goes _
    (subst (λ (to : Option Whither). FailsAt (IsOf m.system m.process) (amid (body.output (sending x ∷ more) to)) m.work
    c.in_err-send.field-0.0)
    (ap (λ (to : Option Destination). option_map whither_of to) c.as_ref-to.ensures.value)
    (c.in_err-send.ensures.err more))
    c.in_err-send.ensures.same c.in_err-send.ensures.quiet)

pub returns-clause-ok : goal.returns-clause-ok
returns-clause-ok g c =
    let k = seen g.P.Inbox.owning g.P.Inbox.since c.args.self.now in
    let m = seen g.P.Inbox.owning g.P.Inbox.since c.loop-sending.self in
    let i = c.loop-sending.sending-index in
    let Past : List Sending → Type 0 = λ ys. length ys ≤ i in
    pieces_done sending (sending_to (option_map whither_of c.args.output.now.to)) k c.args.output.now.signals.items i m
    (g.W.World.value c.args.world.now) (g.W.World.value c.loop-sending.world)
    (subst Past c.deref-sending-items.ensures.value c.loop-sending-test.false) c.loop-sending.invariant.goes
