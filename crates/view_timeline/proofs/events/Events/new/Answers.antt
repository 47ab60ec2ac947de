-- Nothing is told of the records that are taken in.
use Rattle.std.proofs.Common.{◌∙◌, ◌<◌, ap, arith, length, map, subst, take}
use Rattle.std.proofs.lemmas.List.{take_all}
use Rattle.view_timeline.proofs.Starting.{IsFresh, fresh, fresh-more, keeps-fresh, ledger-more, ledger-records, latest-fresh}
use Rattle.view_timeline.specs.Moves.{done_by}
use Rattle.view_timeline.specs.Rows.{row_of}
use Rattle.view_timeline.specs.Traffic.{ledger_of}
use Rattle.view_timeline.proofs.events.Events.new.Goals as goal

pub loop-record-init : goal.loop-record-init
loop-record-init c = record {
  reached = c.new-reached.ensures.items;
  ledger = record {
    links = c.new-traffic.ensures.links;
    arrows = c.new-traffic.ensures.arrows;
    living = c.new-traffic.ensures.living;
    begun = c.new-traffic.ensures.begun;
    rows = c.new-traffic.ensures.rows;
  };
}

pub loop-record-preserved : goal.loop-record-preserved
loop-record-preserved c =
    let records = c.args.records.now in
    let i = c.loop-record.record-index in
    let trace = c.record-item.result in
    let within : i < length records = omega arith in
    let admitted = c.in_ok-admit.ensures in
    let new = ledger_of c.admit.new.traffic in
    record {
      reached = fresh-more records i trace c.loop-record.reached.items c.push.new.self.items
          c.in_ok-cursor.cursor within c.record-item.is c.loop-record.invariant.reached c.in_ok-cursor.ensures
          c.in_ok-push.ensures.items;
      ledger = ledger-records records i trace new within c.record-item.is
          (ledger-more (take i records) trace (ledger_of c.loop-record.traffic) new
          c.loop-record.invariant.ledger (ap (λ links. links.items) admitted.links) admitted.arrows
          (λ channel. ap (λ rows. row_of rows.rows channel) admitted.rows) admitted.living admitted.begun);
    }

pub returns-clause-keeps : goal.returns-clause-keeps
returns-clause-keeps c =
    let records = c.args.records.now in
    let all = take_all c.loop-record.record-index records (omega arith) in
    keeps-fresh records c.new-moves.result.items c.loop-record.reached.items (ledger_of c.loop-record.traffic)
    c.new-moves.ensures.items (c.loop-record.invariant.reached ∙ ap (map fresh) all)
    (subst (λ rs. IsFresh rs (ledger_of c.loop-record.traffic)) all c.loop-record.invariant.ledger)

pub returns-clause-latest : goal.returns-clause-latest
returns-clause-latest c =
    latest-fresh c.args.records.now c.new-moves.result.items c.new-latest.result c.new-moves.ensures.items
    c.new-latest.ensures

pub returns-clause-nothing : goal.returns-clause-nothing
returns-clause-nothing c = ap (done_by c.args.records.now) c.new-moves.ensures.items
