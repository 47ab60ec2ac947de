use Rattle.std.proofs.Common.{◌≡◌, List, map}
use Rattle.view_timeline.specs.Cursor.{CursorValue}
use Rattle.view_text.proofs.Opening.{fresh, fresh-all, started, started-left}
use Rattle.view_text.proofs.walk.Walk.new.Goals as goal

pub invariant_of-result : goal.invariant_of-result
invariant_of-result c =
    let records = c.args.report.now.records.items in
    let cursors : List CursorValue = c.loop-record.cursors.items in
    let fresh_are : cursors ≡ map fresh records =
    fresh-all records c.deref-record-items.result.now cursors c.loop-record.record-index
    c.deref-record-items.ensures.value c.loop-record-test.false c.loop-record.invariant in
    started records c.args.told.now c.requires.parts c.requires.begun c.deref.result.now cursors
    c.deref-2.result.now c.deref.ensures.value fresh_are c.deref-2.ensures.value

pub returns : goal.returns
returns c =
    let records = c.args.report.now.records.items in
    let cursors : List CursorValue = c.loop-record.cursors.items in
    let fresh_are : cursors ≡ map fresh records =
    fresh-all records c.deref-record-items.result.now cursors c.loop-record.record-index
    c.deref-record-items.ensures.value c.loop-record-test.false c.loop-record.invariant in
    started-left records c.args.told.now c.requires.parts c.requires.begun c.deref.result.now cursors
    c.deref-2.result.now c.deref.ensures.value fresh_are c.deref-2.ensures.value c.deref-3.result.now
    c.deref-3.ensures.value
