use Rattle.std.proofs.Common.{◌≡◌, ◌↔◌, ◌⊎◌, ◌<◌, ◌∙◌, Contains, ap, arith, length, subst, sym, true}
use Rattle.port_model.specs.declared.values.item.SignalId.{SignalId}
use Rattle.sdl_system.specs.Signal.{is_member}
use Rattle.build_routes.specs.Each.{ForSome}
use Rattle.build_routes.specs.SignalLists.{HasSignal}
use Rattle.build_routes.specs.Valid.{IsHeardFrom, IsValid}
use Rattle.build_routes.proofs.ValidLemmas.{members_more, valid_by}
use Rattle.build_routes.proofs.valid.valid_set.Goals as goal

pub loop-number-preserved : goal.loop-number-preserved
loop-number-preserved c =
    let signal : SignalId = record { 0 = c.loop-number.number } in
    let below : c.loop-number.number < c.args.network.now.signals = omega arith in
    let by_lists = valid_by c.args.network.now c.args.sets.now c.args.id c.args.process signal c.in_ok-lists.lists.items c.requires below
    (λ list. subst (λ paths. Contains c.in_ok-lists.lists.items list ↔ ((list ≡ c.args.process.named) ⊎ ((list ≡ c.args.process.timers) ⊎ IsHeardFrom c.args.id c.args.process paths list)))
    c.deref.ensures.value (c.in_ok-lists.ensures list)) in
    let is_in = subst (λ lists. (c.is_in_some.result ≡ true) ↔ ForSome lists (λ n list. HasSignal c.args.sets.now list signal)) c.deref-in-loop-number.ensures.value c.is_in_some.ensures in
    record {
      size = omega (arith, c.in_ok-push.ensures.len, c.loop-number.invariant.size);
      each = members_more c.args.network.now c.args.id c.args.process c.loop-number.members.items c.push.new.self.items c.loop-number.number c.is_in_some.result
          c.loop-number.invariant.size c.loop-number.invariant.each
          (λ e. by_lists.0 (is_in.0 e), λ valid. is_in.1 (by_lists.1 valid)) c.in_ok-push.ensures.items;
    }

pub returns-clause-places : goal.returns-clause-places
returns-clause-places c =
    ap length c.new.ensures ∙ c.loop-number.invariant.size
    ∙ omega (arith, c.loop-number-test.false, c.loop-number.invariant.size)

pub returns-clause-members : goal.returns-clause-members
returns-clause-members c = λ signal below.
    subst (λ members. (is_member members signal ≡ true) ↔ IsValid c.args.network.now c.args.id c.args.process signal) (sym c.new.ensures)
    (c.loop-number.invariant.each signal (omega (arith, below, c.loop-number-test.false)))
