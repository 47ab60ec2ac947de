use Rattle.std.proofs.Common.{◌≡◌, ◌<◌, Some, length, refl, slice_get, subst, sym}
use Rattle.std.proofs.lemmas.Option.{slice_get_read}
use Rattle.run_order.proofs.Happenings.{may_look_there, nothing_looked}
use Rattle.run_order.proofs.Orders.{order_is}
use Rattle.run_order.proofs.replay.Replay.may_look.Goals as goal
use Rattle.run_record.specs.declared.evaluation.identity.Identity.{Identity}
use Rattle.run_order.specs.Kept.{MayLook}
use Rattle.run_order.specs.OrderState.{OrderState}

pub returns-in_default : goal.returns-in_default
returns-in_default c =
    let members = c.self.inside.members.items in
    let m = c.index-member.result.now in
    let within : c.args.place < length members =
    subst (λ (g : OrderState). c.args.place < length g.members) (sym (order_is c.self.view_is)) c.requires in
    let there : slice_get c.args.self.now.order.members c.args.place ≡ Some m =
    subst (λ (g : OrderState). slice_get g.members c.args.place ≡ Some m) (order_is c.self.view_is)
    (slice_get_read members (length members) c.args.place m refl within c.index-member.ensures) in (
      λ yes. let no : ⊥ = cc in absurd no,
      λ at. absurd (nothing_looked c.args.self.now.order c.args.place m at there c.in_default.ensures),
    )

pub returns : goal.returns
returns c =
    let members = c.self.inside.members.items in
    let m = c.index-member.result.now in
    let within : c.args.place < length members =
    subst (λ (g : OrderState). c.args.place < length g.members) (sym (order_is c.self.view_is)) c.requires in
    let there : slice_get c.args.self.now.order.members c.args.place ≡ Some m =
    subst (λ (g : OrderState). slice_get g.members c.args.place ≡ Some m) (order_is c.self.view_is)
    (slice_get_read members (length members) c.args.place m refl within c.index-member.ensures) in (
      λ yes. record {
        m = m;
        what = c.in-Some.what.now;
        later = c.in-Some.ensures.0;
        is_there = there;
        next = c.in-Some.ensures.1;
        may = subst (λ (who : Identity). MayLook c.args.self.now.order who.process c.in-Some.what.now) c.who.ensures
            (c.goes_so.ensures.0 yes);
      },
      λ at. c.goes_so.ensures.1
          (subst (λ (who : Identity). MayLook c.args.self.now.order who.process c.in-Some.what.now) (sym c.who.ensures)
          (may_look_there c.args.self.now.order c.args.place m c.in-Some.what.now c.in-Some.ensures.0 at there
          c.in-Some.ensures.1)),
    )
