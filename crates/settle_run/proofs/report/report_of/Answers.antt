-- What was tested, counted and kept by types.
use Rattle.std.proofs.Common.{◌≡◌, ◌∙◌, ◌∷◌, ap, map, List, Some, rules, subst, sym}
use Rattle.input_port.specs.Ends.{HeldState}
use Rattle.run_record.specs.Record.{RecordValue}
use Rattle.run_record.specs.declared.record.Report.{Report}
use Rattle.settle_checks.specs.Account.{AreOwnersOf}
use Rattle.settle_run.proofs.CourseLemmas.{are_rows, has_rows, some_puts}
use Rattle.settle_run.proofs.PartLemmas.{are_owners, have_put}
use Rattle.settle_run.proofs.SettledLemmas.{report_settled}
use Rattle.settle_run.specs.Gifts.{AreAllGiven}
use Rattle.settle_run.specs.Parts.{AreColumnsOf, owner_at, peers_of}
use Rattle.threads_instance.specs.declared.doings.Gifts.{Gifts}
use Rattle.threads_ports.specs.Peers.{PeersState, senders_into}
use Rattle.settle_run.proofs.report.report_of.Goals as goal

pub settle_ports-requires-clause-puts : goal.settle_ports-requires-clause-puts
settle_ports-requires-clause-puts g c = have_put c.in_ok-records.field-0.ports.places.items

pub settle_ports-requires-clause-owners : goal.settle_ports-requires-clause-owners
settle_ports-requires-clause-owners g c =
    let parts = c.in_ok-records.field-0 in
    let inboxes : List HeldState = parts.ports.inboxes.items in
    subst (λ (l : List RecordValue). AreOwnersOf (owner_at inboxes) g.J.Run.ports l inboxes)
    (sym c.as_slice-all.ensures.value)
    (are_owners g.J.Run.system g.J.Run.ports c.args.ending.whole c.into_peers.result parts.records.items parts.gifts.items
    inboxes parts.ports.thens.items parts.ports.places.items c.in_ok-records.ensures.parts)

pub settle_ports-requires-clause-thens : goal.settle_ports-requires-clause-thens
settle_ports-requires-clause-thens g c = c.in_ok-records.ensures.parts.thens_are

pub returns-clause-columns : goal.returns-clause-columns
returns-clause-columns g c =
    let parts = c.in_ok-records.field-0 in
    let columns = c.in_ok-records.ensures.columns in
    let closings = c.args.closings.items in
    let all : List RecordValue = c.as_slice-all.result.now in
    let places : List PeersState = parts.ports.places.items in
    are_rows c.args.shared.now.keeps_course c.args.environment.peers closings parts.logs.items places c.in_ok-puts.puts
    c.in_ok-senders.senders c.in_ok-course.course columns.logs_are
    (columns.places_are ∙ ap (λ (p : PeersState). p ∷ peers_of closings) c.into_peers.ensures)
    c.in_ok-puts.ensures.off
    (some_puts c.into_peers.result closings all parts.logs.items parts.ports.inboxes.items places
    (subst (λ (l : List RecordValue). AreColumnsOf c.into_peers.result closings l parts.logs.items
    parts.ports.inboxes.items places) (sym c.as_slice-all.ensures.value) columns)
    parts.ports.places.len c.in_ok-puts.puts parts.ports.places.ok.0 c.in_ok-puts.ensures.kept)
    (λ keeps. c.in_ok-senders.ensures keeps ∙ ap (map senders_into) c.as_slice-places.ensures.value)
    c.in_ok-course.ensures.puts c.in_ok-course.ensures.senders c.in_ok-course.ensures.drawn c.in_ok-course.ensures.versions

pub returns-clause-rows : goal.returns-clause-rows
returns-clause-rows g c =
    has_rows c.args.environment.peers c.args.closings.items c.in_ok-records.field-0.records.items c.in_ok-course.course
    c.in_ok-records.ensures.columns.records_are (returns-clause-columns g c)

pub returns-clause-records : goal.returns-clause-records
returns-clause-records g c = c.in_ok-records.ensures.columns.records_are

pub returns-clause-settled : goal.returns-clause-settled
returns-clause-settled g c =
    let parts = c.in_ok-records.field-0 in
    let e = c.args.environment in
    let report : Report = record { records = parts.records; end = c.in_ok-end.end; whole = c.args.ending.whole } in
    let is : g.J.Run.system ≡ Some c.args.shared.now.system.now = search rules in
    report_settled c.closed_have_histories.ensures c.closed_have_put.ensures c.counted_have_put.ensures g.J.Run.system
    g.J.Run.ports c.args.shared.now.system.now e.lines e.line c.args.ending.limit e.targets e.peers report
    parts.gifts.items parts.ports.inboxes.items parts.ports.thens.items parts.ports.places.items is c.is_heard.ensures
    c.into_peers.result c.lines-lines.result.now c.split_at.result.0.now c.line-line.result parts.ports.places.len
    c.deref-3.result.now c.as_slice-all.result.now c.deref-2.result.now c.into_peers.ensures c.in_ok-records.ensures.parts
    c.lines-lines.ensures c.line-line.ensures c.split_at.ensures.front
    (c.deref-3.ensures.value ∙ c.in_ok-targets.ensures.items ∙ c.targets.ensures) c.as_slice-all.ensures.value
    c.deref-2.ensures.value parts.ports.places.ok.0 c.in_ok-compare.ensures c.in_ok-end.ensures
    c.in_ok-puts.ensures.settled
    (subst (λ (l : List RecordValue). AreAllGiven l parts.gifts.items) c.as_slice-all.ensures.value
    (subst (λ (l : List Gifts). AreAllGiven c.as_slice-all.result.now l) c.as_slice.ensures.value
    c.in_ok-all_given.ensures))
