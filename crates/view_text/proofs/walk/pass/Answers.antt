use Rattle.std.proofs.Common.{◌≤◌, arith}
use Rattle.run_record.specs.Entry.{event_of}
use Rattle.view_text.proofs.Passing.{IfNone-always, item-read, left-after, no_event, on-after, unlinked, within}
use Rattle.view_text.proofs.walk.pass.Goals as goal

pub returns-in_err-next-clause-none : goal.returns-in_err-next-clause-none
returns-in_err-next-clause-none c =
    let records = c.args.records.now in
    let cursors = c.args.cursors.now in
    let move = c.in_ok-first.first.now in
    absurd
    (no_event records cursors c.args.moves.now c.args.links.now c.requires move c.in_ok-first.later.now
    c.in_ok-first.ensures.cases.0 c.in_ok-record.record.now
    (item-read records move.record.0 c.in_ok-record.record c.in_ok-record.ensures.lookup) c.in_ok-cursor.cursor.now
    (item-read cursors move.record.0 c.in_ok-cursor.cursor c.in_ok-cursor.ensures.lookup) c.in_err-next.ensures.left)

pub returns-in_err-link-clause-none : goal.returns-in_err-link-clause-none
returns-in_err-link-clause-none c =
    IfNone-always c.from_residual-in_err-link.result
    (unlinked c.args.records.now c.args.cursors.now c.args.moves.now c.args.links.now c.in_err-link.ensures.cases)

pub overflow_sub-result : goal.overflow_sub-result
overflow_sub-result c =
    let records = c.args.records.now in
    let cursors = c.args.cursors.now in
    let move = c.in_ok-first.first.now in
    let le : move.first.0 ≤ c.in_ok-cursor.cursor.now.told =
    (within records cursors c.args.moves.now c.args.links.now c.requires move c.in_ok-first.later.now
    c.in_ok-first.ensures.cases.0 c.in_ok-record.record.now
    (item-read records move.record.0 c.in_ok-record.record c.in_ok-record.ensures.lookup) c.in_ok-cursor.cursor.now
    (item-read cursors move.record.0 c.in_ok-cursor.cursor c.in_ok-cursor.ensures.lookup)).0 in
    omega (arith, le, c.in_ok-next.ensures.first)

pub returns-clause-left : goal.returns-clause-left
returns-clause-left c =
    let records = c.args.records.now in
    let cursors = c.args.cursors.now in
    let move = c.in_ok-first.first.now in
    let next = c.in_ok-next.next in
    left-after records cursors c.args.moves.now c.args.links.now c.requires move c.in_ok-first.later.now
    c.in_ok-first.ensures.cases.0 c.in_ok-record.record.now
    (item-read records move.record.0 c.in_ok-record.record c.in_ok-record.ensures.lookup) c.in_ok-cursor.cursor.now
    (item-read cursors move.record.0 c.in_ok-cursor.cursor c.in_ok-cursor.ensures.lookup)
    (event_of next.entry next.values.now) next.rest c.in_ok-next.ensures.left c.in_ok-next.ensures.rest_told
    c.in_ok-next.ensures.rest_number next.first c.in_ok-next.ensures.first c.moves_after.result.now
    c.moves_after.ensures c.in_ok-link.link.now c.in_ok-link.rest.now c.in_ok-link.ensures.cases.0

pub returns-clause-on : goal.returns-clause-on
returns-clause-on c =
    let records = c.args.records.now in
    let cursors = c.args.cursors.now in
    let move = c.in_ok-first.first.now in
    let next = c.in_ok-next.next in
    on-after records cursors c.args.moves.now c.args.links.now c.requires move c.in_ok-first.later.now
    c.in_ok-first.ensures.cases.0 c.in_ok-record.record.now
    (item-read records move.record.0 c.in_ok-record.record c.in_ok-record.ensures.lookup) c.in_ok-cursor.cursor.now
    (item-read cursors move.record.0 c.in_ok-cursor.cursor c.in_ok-cursor.ensures.lookup)
    (event_of next.entry next.values.now) next.rest c.in_ok-next.ensures.left c.in_ok-next.ensures.rest_told
    c.in_ok-next.ensures.rest_number next.first c.in_ok-next.ensures.first c.moves_after.result.now
    c.moves_after.ensures
