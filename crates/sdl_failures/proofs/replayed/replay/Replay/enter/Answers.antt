-- The event that begins the last transition is told.
use Rattle.std.proofs.Common.{refl, sym}
use Rattle.run_record.specs.Entry.{event_of}
use Rattle.sdl_failures.proofs.CameLemmas.{came_in}
use Rattle.sdl_failures.proofs.ToldLemmas.{told_own}
use Rattle.sdl_failures.proofs.replayed.replay.Replay.enter.Goals as goal

pub returns : goal.returns
returns c = λ entered. record {
  same = record { system = refl; process = refl; who = refl };
  comes = λ variables all came.
      let r = c.args.self.now in
      let n = c.tell.new.self in
      let next = c.in-Some.next in
      let state = c.in-Between.state in
      let happened = event_of next.entry next.values.now in
      came_in r.system.now r.process.now r.who variables all r.spot r.known n r.left.left next.rest.left happened came
      c.in-Some.ensures.left c.in_ok-fits.ensures.port state c.in-Some-begin_of.node c.in-Between.is
      (told_own c.own-own.result.process.now r.process.now c.own-own.result.number r.who.pid state r.known.store n.store
      happened c.own-own.ensures.process c.own-own.ensures.number (c.in_ok-fits.ensures.store c.if-not-fits.false))
      (sym (c.in-Some-begin_of.ensures next.values.now));
}
