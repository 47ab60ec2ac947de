use Rattle.std.proofs.Common.{◌≡◌, ◌≢◌, ◌∙◌, List, ap, inl, inr, subst, sym}
use Rattle.std.specs.List.{AllZip}
use Rattle.run_order.proofs.Chronicles.{begun_order, not_well, one_order, other_records}
use Rattle.run_order.proofs.Timing.{not_so}
use Rattle.run_order.proofs.chronicle.Chronicle.finish.Goals as goal
use Rattle.run_order.specs.Chronicle.{ChronicleState}
use Rattle.run_order.specs.Comparing.{SaySame}
use Rattle.run_order.specs.Endings.{IsNotOf}
use Rattle.run_order.specs.Kept.{end_of_run}
use Rattle.run_order.specs.OneOrder.{IsBegunOrder, IsOneOrder}
use Rattle.run_record.specs.Record.{RecordValue}
use Rattle.run_semantics.specs.Behaves.{AreBehaviours}

pub close-requires : goal.close-requires
close-requires c = c.is_over.ensures.rests c.if-not-is_over.false

-- ---- where it isn't all

pub returns-then-not-is_over-clause-ends : goal.returns-then-not-is_over-clause-ends
returns-then-not-is_over-clause-ends c = λ ps behaviours.
    let i = c.self.inside in
    let now : ChronicleState = record {
      system = i.system.now;
      lines = i.lines.now;
      now = i.replay.order;
      noted = i.replay.noted;
      tellers = i.tellers.items;
      in_transition = i.in_transition;
      lost = i.lost;
    } in
    subst
    (λ (s : ChronicleState). AreBehaviours s.system ps → IsBegunOrder ps s.system s.lines i.tellers.items)
    c.self.view_is (begun_order now c.self.invariant c.if-lost.false ps) behaviours

pub returns-then-not-is_same_time-clause-ends : goal.returns-then-not-is_same_time-clause-ends
returns-then-not-is_same_time-clause-ends c = λ ps behaviours.
    let i = c.self.inside in
    let now : ChronicleState = record {
      system = i.system.now;
      lines = i.lines.now;
      now = i.replay.order;
      noted = i.replay.noted;
      tellers = i.tellers.items;
      in_transition = i.in_transition;
      lost = i.lost;
    } in
    subst
    (λ (s : ChronicleState). AreBehaviours s.system ps → IsBegunOrder ps s.system s.lines i.tellers.items)
    c.self.view_is (begun_order now c.self.invariant c.if-lost.false ps) behaviours

pub returns-then-not-ends_well-clause-ends : goal.returns-then-not-ends_well-clause-ends
returns-then-not-ends_well-clause-ends c = λ ps behaviours.
    let i = c.self.inside in
    let now : ChronicleState = record {
      system = i.system.now;
      lines = i.lines.now;
      now = i.replay.order;
      noted = i.replay.noted;
      tellers = i.tellers.items;
      in_transition = i.in_transition;
      lost = i.lost;
    } in
    subst
    (λ (s : ChronicleState). AreBehaviours s.system ps → IsBegunOrder ps s.system s.lines i.tellers.items)
    c.self.view_is (begun_order now c.self.invariant c.if-lost.false ps) behaviours

pub returns-then-not-all_say_same-clause-ends : goal.returns-then-not-all_say_same-clause-ends
returns-then-not-all_say_same-clause-ends c = λ ps behaviours.
    let i = c.self.inside in
    let now : ChronicleState = record {
      system = i.system.now;
      lines = i.lines.now;
      now = i.replay.order;
      noted = i.replay.noted;
      tellers = i.tellers.items;
      in_transition = i.in_transition;
      lost = i.lost;
    } in
    subst
    (λ (s : ChronicleState). AreBehaviours s.system ps → IsBegunOrder ps s.system s.lines i.tellers.items)
    c.self.view_is (begun_order now c.self.invariant c.if-lost.false ps) behaviours

-- ---- why it isn't

pub returns-then-not-is_over-clause-part : goal.returns-then-not-is_over-clause-part
returns-then-not-is_over-clause-part c = λ ps behaviours.
    let i = c.self.inside in
    subst (λ (s : ChronicleState). IsNotOf ps s c.args.report.now) c.self.view_is
    (inl (c.is_over.ensures.none c.if-not-is_over.true))

pub returns-then-not-is_same_time-clause-part : goal.returns-then-not-is_same_time-clause-part
returns-then-not-is_same_time-clause-part c = λ ps behaviours.
    let i = c.self.inside in
    let other : end_of_run c.args.report.now.whole i.replay.order ≢ c.args.report.now.end = λ same.
    not_so c.is_same_time.result c.if-not-is_same_time.true c.is_same_time.ensures.1 (c.end_of_run-end.ensures ∙ same)
    in
    subst (λ (s : ChronicleState). IsNotOf ps s c.args.report.now) c.self.view_is
    (inr (inl other))

pub returns-then-not-ends_well-clause-part : goal.returns-then-not-ends_well-clause-part
returns-then-not-ends_well-clause-part c = λ ps behaviours.
    let i = c.self.inside in
    subst (λ (s : ChronicleState). IsNotOf ps s c.args.report.now) c.self.view_is
    (inr (inr (inl (not_well c.args.report.now.whole i.in_transition
    (not_so c.ends_well.result c.if-not-ends_well.true c.ends_well.ensures.1)))))

pub returns-then-not-all_say_same-clause-part : goal.returns-then-not-all_say_same-clause-part
returns-then-not-all_say_same-clause-part c = λ ps behaviours.
    let i = c.self.inside in
    let now : ChronicleState = record {
      system = i.system.now;
      lines = i.lines.now;
      now = i.replay.order;
      noted = i.replay.noted;
      tellers = i.tellers.items;
      in_transition = i.in_transition;
      lost = i.lost;
    } in
    let records = c.in_ok-records.records.items in
    let other : AllZip SaySame records c.args.report.now.records.items → ⊥ =
    subst (λ (all : List RecordValue). AllZip SaySame all c.args.report.now.records.items → ⊥) c.deref.ensures.value
    (subst (λ (all : List RecordValue). AllZip SaySame c.deref.result.now all → ⊥) c.deref-2.ensures.value
    (not_so c.all_say_same.result c.if-not-all_say_same.true c.all_say_same.ensures.1)) in
    subst (λ (s : ChronicleState). AreBehaviours s.system ps → IsNotOf ps s c.args.report.now) c.self.view_is
    (other_records now c.args.report.now records c.self.invariant c.in_ok-records.ensures other ps) behaviours

-- ---- where it is

pub returns-clause-ends : goal.returns-clause-ends
returns-clause-ends c = λ ps behaviours.
    let i = c.self.inside in
    let now : ChronicleState = record {
      system = i.system.now;
      lines = i.lines.now;
      now = i.replay.order;
      noted = i.replay.noted;
      tellers = i.tellers.items;
      in_transition = i.in_transition;
      lost = i.lost;
    } in
    let same : c.end_of_run-end.result ≡ c.args.report.now.end =
    c.is_same_time.ensures.0 c.if-not-is_same_time.false in
    let records = c.in_ok-records.records.items in
    let say_same : AllZip SaySame records c.args.report.now.records.items =
    subst (λ (all : List RecordValue). AllZip SaySame all c.args.report.now.records.items) c.deref.ensures.value
    (subst (λ (all : List RecordValue). AllZip SaySame c.deref.result.now all) c.deref-2.ensures.value
    (c.all_say_same.ensures.0 c.if-not-all_say_same.false)) in
    subst
    (λ (s : ChronicleState). AreBehaviours s.system ps
    → IsOneOrder ps s.system s.lines c.args.report.now i.tellers.items) c.self.view_is
    (one_order now c.args.report.now records c.self.invariant c.if-lost.false
    (c.is_over.ensures.over c.if-not-is_over.false) (c.ends_well.ensures.0 c.if-not-ends_well.false)
    (sym c.end_of_run-end.ensures ∙ same) c.in_ok-records.ensures say_same ps) behaviours

-- ---- whose events

pub returns-then-not-is_over-clause-told : goal.returns-then-not-is_over-clause-told
returns-then-not-is_over-clause-told c = ap (λ (s : ChronicleState). s.tellers) c.self.view_is

pub returns-then-not-is_same_time-clause-told : goal.returns-then-not-is_same_time-clause-told
returns-then-not-is_same_time-clause-told c = ap (λ (s : ChronicleState). s.tellers) c.self.view_is

pub returns-then-not-ends_well-clause-told : goal.returns-then-not-ends_well-clause-told
returns-then-not-ends_well-clause-told c = ap (λ (s : ChronicleState). s.tellers) c.self.view_is

pub returns-then-not-all_say_same-clause-told : goal.returns-then-not-all_say_same-clause-told
returns-then-not-all_say_same-clause-told c = ap (λ (s : ChronicleState). s.tellers) c.self.view_is

pub returns-clause-told : goal.returns-clause-told
returns-clause-told c = ap (λ (s : ChronicleState). s.tellers) c.self.view_is
