use Rattle.std.proofs.Common.{◌∙◌, ap, flat_map, map}
use Rattle.build_constants.specs.ConstantTable.{duration_at, duration_faults_at}
use Rattle.build_definitions.specs.Definitions.{rows_of}
use Rattle.build_definitions.specs.Seen.{signal_seen}
use Rattle.build_names.specs.Faults.{least_of}
use Rattle.build_constants.proofs.ListLemmas.{all_taken, noted_more, one_more}
use Rattle.build_constants.proofs.durations.durations_of.Goals as goal

pub loop-entry-preserved : goal.loop-entry-preserved
loop-entry-preserved c =
    let rows = rows_of c.args.definitions.now in
    let symbols = c.args.symbols.now in
    let constants = c.args.constants.now in
    let entries = c.args.definitions.now.signals.items in
    let items = c.deref-entry-items.result.now in
    let same = c.deref-entry-items.ensures.value in
    let i = c.loop-entry.entry-index in
    let entry = c.entry-item.result in
    record {
      durations =
          one_more signal_seen entries items same i entry c.loop-entry-test.true c.entry-item.is
          (duration_at rows symbols constants) c.loop-entry.durations.items c.push.new.self.items
          c.in_ok-duration_of_entry.field-0 c.loop-entry.invariant.durations c.in_ok-duration_of_entry.ensures.duration
          c.in_ok-push.ensures.items;
      noted =
          noted_more signal_seen entries items same i entry c.loop-entry-test.true c.entry-item.is
          (duration_faults_at rows symbols constants) c.args.faults.now c.loop-entry.faults
          c.duration_of_entry.new.faults
          c.loop-entry.invariant.noted c.in_ok-duration_of_entry.ensures.noted;
    }

pub returns-clause-durations : goal.returns-clause-durations
returns-clause-durations c =
    c.loop-entry.invariant.durations
    ∙ ap (λ l. map (duration_at (rows_of c.args.definitions.now) c.args.symbols.now c.args.constants.now)
    (map signal_seen l)) (all_taken c.args.definitions.now.signals.items c.deref-entry-items.result.now
    c.deref-entry-items.ensures.value c.loop-entry.entry-index c.loop-entry-test.false)

pub returns-clause-noted : goal.returns-clause-noted
returns-clause-noted c =
    c.loop-entry.invariant.noted
    ∙ ap (λ l. least_of c.args.faults.now
    (flat_map (duration_faults_at (rows_of c.args.definitions.now) c.args.symbols.now c.args.constants.now)
    (map signal_seen l))) (all_taken c.args.definitions.now.signals.items c.deref-entry-items.result.now
    c.deref-entry-items.ensures.value c.loop-entry.entry-index c.loop-entry-test.false)
