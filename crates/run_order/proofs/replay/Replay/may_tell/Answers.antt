use Rattle.std.proofs.Common.{◌≡◌, ◌<◌, Some, length, refl, slice_get, subst, sym}
use Rattle.std.proofs.lemmas.Option.{slice_get_read}
use Rattle.run_order.proofs.Happenings.{may_tell_there, nothing_next}
use Rattle.run_order.proofs.Orders.{order_is}
use Rattle.run_order.proofs.replay.Replay.may_tell.Goals as goal
use Rattle.run_order.specs.OrderState.{OrderState}

pub returns-in_default : goal.returns-in_default
returns-in_default c =
    let members = c.self.inside.members.items in
    let m = c.index-member.result.now in
    let within : c.args.place < length members =
    subst (λ (g : OrderState). c.args.place < length g.members) (sym (order_is c.self.view_is)) c.requires in
    let there : slice_get c.args.self.now.order.members c.args.place ≡ Some m =
    subst (λ (g : OrderState). slice_get g.members c.args.place ≡ Some m) (order_is c.self.view_is)
    (slice_get_read members (length members) c.args.place m refl within c.index-member.ensures) in (
      λ yes. let no : ⊥ = cc in absurd no,
      λ at. absurd (nothing_next c.args.self.now.order c.args.place m at there c.in_default.ensures),
    )

pub returns : goal.returns
returns c =
    let members = c.self.inside.members.items in
    let m = c.index-member.result.now in
    let within : c.args.place < length members =
    subst (λ (g : OrderState). c.args.place < length g.members) (sym (order_is c.self.view_is)) c.requires in
    let there : slice_get c.args.self.now.order.members c.args.place ≡ Some m =
    subst (λ (g : OrderState). slice_get g.members c.args.place ≡ Some m) (order_is c.self.view_is)
    (slice_get_read members (length members) c.args.place m refl within c.index-member.ensures) in (
      λ yes. record {
        m = m;
        what = c.in-Some.what.now;
        later = c.in-Some.ensures.0;
        is_there = there;
        next = c.in-Some.ensures.1;
        may = c.is_allowed.ensures.0 yes;
      },
      λ at. c.is_allowed.ensures.1
          (may_tell_there c.args.self.now.order c.args.place m c.in-Some.what.now c.in-Some.ensures.0 at there
          c.in-Some.ensures.1),
    )
