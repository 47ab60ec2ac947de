-- The next event is that of the part.
use Rattle.std.proofs.Common.{◌≡◌, ◌+◌, None, refl, rules}
use Rattle.run_record.specs.Entry.{event_of}
use Rattle.sdl_failures.proofs.CameLemmas.{came_by}
use Rattle.sdl_failures.proofs.ToldLemmas.{told_own}
use Rattle.sdl_failures.proofs.replayed.replay.Replay.do_part.Goals as goal

pub returns-clause-on : goal.returns-clause-on
returns-clause-on c = λ on. record {
  same = record { system = refl; process = refl; who = refl };
  comes = λ variables all came.
      let r = c.args.self.now in
      let n = c.tell.new.self in
      let next = c.in-Some.next in
      let node = c.args.node.now in
      let after : c.in-Some-checked_add.after ≡ c.args.part + 1 = search rules in
      let happened = event_of next.entry next.values.now in
      came_by r.system.now r.process.now r.who variables all r.spot r.known n r.left.left next.rest.left happened came
      c.in-Some.ensures.left c.in_ok-fits.ensures.port c.args.number c.args.part c.in-Some-checked_add.after
      node.statement node.next c.requires.spot
      (told_own c.own-own.result.process.now r.process.now c.own-own.result.number r.who.pid None r.known.store n.store
      happened c.own-own.ensures.process c.own-own.ensures.number (c.in_ok-fits.ensures.store c.if-not-fits.false))
      c.requires.node (c.does_part.ensures c.if-not-does_part.false next.values.now) after;
}
