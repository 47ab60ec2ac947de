-- All that is known is drawn, and as many signals as the senders have put.
use Rattle.std.proofs.Common.{◌≡◌, ◌∙◌, false, rules, subst, sym}
use Rattle.std.specs.Prelude.{is_err}
use Rattle.settle_checks.proofs.DrawLemmas.{drain_draws, drain_gathered, drained_here}
use Rattle.settle_checks.proofs.GivenLemmas.{are_counted}
use Rattle.settle_checks.specs.Gathering.{GatheringState, PutNothing}
use Rattle.settle_checks.proofs.gathered.gathering.Gathering.count.Goals as goal

pub new-requires : goal.new-requires
new-requires g c =
    let own = c.self.inside in
    let new = c.drain.new.self in
    let ok : is_err c.drain.result ≡ false = search rules in
    let rest = subst (λ (s : GatheringState). PutNothing (g.K.Fixed.puts s.number) s.next c.args.places)
    (sym c.self.view_is) c.requires.rest in
    are_counted (g.K.Fixed.puts own.number) own.next c.args.places own.sent (g.K.Fixed.owners own.at) own.inbox.owner
    new.owner c.if-places-next.false rest (drain_draws own.inbox new c.drain.ensures.drawn)
    (drain_gathered own.inbox new c.drain.ensures.drawn)
    (drained_here c.drain.result new.owner ok c.drain.ensures.fresh) c.knows.ensures.apart
    (sym c.signals.ensures ∙ c.if-signals-sent.false) c.self.invariant.1
