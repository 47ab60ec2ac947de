-- The sender of the place is gathered, and the places before it have put nothing.
use Rattle.std.proofs.Common.{◌≡◌, ◌∙◌, ◌≤◌, ◌+◌, false, rules, subst, sym}
use Rattle.std.specs.Prelude.{is_err}
use Rattle.settle_checks.proofs.DrawLemmas.{gather_takes, gathered_here}
use Rattle.settle_checks.proofs.GivenLemmas.{gathers_one}
use Rattle.settle_checks.specs.Gathering.{GatheringState, PutNothing}
use Rattle.threads_ports.specs.Peers.{put_by}
use Rattle.settle_checks.proofs.gathered.gathering.Gathering.gather.Goals as goal

pub invariant_of-self-2 : goal.invariant_of-self-2
invariant_of-self-2 g c =
    let own = c.self.inside in
    let past = c.if-place-self.false in
    let between = subst (λ (s : GatheringState). PutNothing (g.K.Fixed.puts s.number) s.next c.args.place)
    (sym c.self.view_is) c.requires.between in
    let puts = subst
    (λ (s : GatheringState). s.next ≤ c.args.place → put_by c.args.sender ≡ g.K.Fixed.puts s.number c.args.place)
    (sym c.self.view_is) c.requires.puts past in
    let next : c.in-Some.next ≡ c.args.place + 1 = search rules in
    let sum : c.in-Some-checked_add.sent ≡ own.sent + c.sent.result = search rules in
    let ok : is_err c.gather.result ≡ false = search rules in (
      c.gather.ensures.port ∙ c.self.invariant.0,
      gathers_one (g.K.Fixed.puts own.number) own.next c.args.place c.in-Some.next own.sent c.sent.result
          c.in-Some-checked_add.sent (g.K.Fixed.owners own.at) own.inbox.owner c.gather.new.self.owner c.args.sender past
          next between puts c.sent.ensures sum
          (gather_takes own.inbox c.gather.new.self c.args.sender
          (gathered_here c.gather.result own.inbox c.gather.new.self c.args.sender ok c.gather.ensures.gather))
          c.self.invariant.1,
    )
