-- It comes there on its way.
use Rattle.std.proofs.lemmas.Option.{IfSome_then}
use Rattle.sdl_failures.proofs.FollowLemmas.{follows-then}
use Rattle.sdl_failures.proofs.replayed.replay.Replay.stop.Goals as goal

pub returns-in-Some : goal.returns-in-Some
returns-in-Some c = record { follows = c.in_ok-told.ensures c.if-not-told.false; stops = c.in-Some.ensures }

pub returns : goal.returns
returns c =
    IfSome_then c.stop_in_statement.result c.stop_in_statement.ensures (λ stop stops. record {
      follows = follows-then c.args.self.now c.enter.new.self c.walk.new.self
          (follows-then c.args.self.now c.tell_all.new.self c.enter.new.self
          (c.in_ok-told.ensures c.if-not-told.false) (c.in_ok-entered.ensures c.if-not-entered.false))
          (c.in_ok-fits.ensures c.if-not-fits.false);
      stops = stops;
    })
