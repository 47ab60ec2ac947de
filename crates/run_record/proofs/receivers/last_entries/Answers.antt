use Rattle.std.proofs.Common.{◌≡◌, ◌+◌, ◌-◌, ◌∙◌, ap, arith, drop, length, sym, zero-add}
use Rattle.std.specs.Int.{from_bool}
use Rattle.std.proofs.lemmas.List.{drop_all, take_all}
use Rattle.run_record.specs.Packed.{events_in}
use Rattle.run_record.proofs.ReceiverLemmas.{all-events, all-is, back-events, back-front, end-events, end-is, front-within, one-within}
use Rattle.run_record.proofs.receivers.last_entries.Goals as goal

pub back-init : goal.back-init
back-init c =
    let entries = c.args.entries.now in
    record {
      front = sym (take_all (length entries) entries (omega arith));
      events = ap (λ l. events_in l + c.args.count) (drop_all (length entries) entries (omega arith))
          ∙ zero-add c.args.count;
    }

pub split_at-requires : goal.split_at-requires
split_at-requires c =
    let within = front-within c.args.entries.now c.back.before.now c.back.invariant.front in
    omega (arith, within)

pub returns-then-left-eq0-clause-rest : goal.returns-then-left-eq0-clause-rest
returns-then-left-eq0-clause-rest c =
    let entries = c.args.entries.now in
    let is : c.split_at.result.1.now ≡ drop (length c.back.before.now) entries =
    c.split_at.ensures.back in
    is ∙ end-is entries c.back.before.now c.back.invariant.front
    ∙ ap (λ l. drop (length entries - length l) entries) (sym is)

pub returns-then-left-eq0-clause-events : goal.returns-then-left-eq0-clause-events
returns-then-left-eq0-clause-events c =
    let entries = c.args.entries.now in
    let is : c.split_at.result.1.now ≡ drop (length c.back.before.now) entries =
    c.split_at.ensures.back in
    ap events_in is
    ∙ end-events entries c.back.before.now c.back.left c.args.count (omega arith) c.back.invariant.events

pub overflow_sub-left : goal.overflow_sub-left
overflow_sub-left c =
    one-within c.is_event.result c.from-left.result c.back.left c.from-left.ensures (omega arith)

pub back-preserved : goal.back-preserved
back-preserved c =
    let entries = c.args.entries.now in
    let before = c.back.before.now in
    let others = c.in-Some.others.now in
    let last = c.in-Some.last.now in
    let front = c.back.invariant.front in
    let is = c.in-Some.ensures.cases.0 in
    record {
      front = back-front entries before others last front is;
      events = back-events entries before others last front is c.back.left c.args.count c.from-left.result
          (c.from-left.ensures ∙ ap from_bool c.is_event.ensures) (omega arith) c.back.invariant.events;
    }

pub returns-clause-rest : goal.returns-clause-rest
returns-clause-rest c = all-is c.args.entries.now

pub returns-clause-events : goal.returns-clause-events
returns-clause-events c =
    all-events c.args.entries.now c.back.before.now c.back.left c.args.count c.in_default.ensures.cases
    c.back.invariant.events
