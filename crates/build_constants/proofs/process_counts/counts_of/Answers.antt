use Rattle.std.proofs.Common.{◌∙◌, ap, flat_map, map}
use Rattle.build_constants.specs.ConstantTable.{counts_at, counts_faults_at}
use Rattle.build_definitions.specs.Definitions.{rows_of}
use Rattle.build_definitions.specs.Seen.{process_seen}
use Rattle.build_names.specs.Faults.{least_of}
use Rattle.build_constants.proofs.ListLemmas.{all_taken, noted_more, one_more}
use Rattle.build_constants.proofs.process_counts.counts_of.Goals as goal

pub loop-entry-preserved : goal.loop-entry-preserved
loop-entry-preserved c =
    let rows = rows_of c.args.definitions.now in
    let symbols = c.args.symbols.now in
    let constants = c.args.constants.now in
    let entries = c.args.definitions.now.processes.items in
    let items = c.deref-entry-items.result.now in
    let same = c.deref-entry-items.ensures.value in
    let i = c.loop-entry.entry-index in
    let entry = c.entry-item.result in
    record {
      counts =
          one_more process_seen entries items same i entry c.loop-entry-test.true c.entry-item.is
          (counts_at rows symbols constants) c.loop-entry.counts.items c.push.new.self.items
          c.in_ok-counted.field-0 c.loop-entry.invariant.counts c.in_ok-counted.ensures.counts
          c.in_ok-push.ensures.items;
      noted =
          noted_more process_seen entries items same i entry c.loop-entry-test.true c.entry-item.is
          (counts_faults_at rows symbols constants) c.args.faults.now c.loop-entry.faults c.counted.new.faults
          c.loop-entry.invariant.noted c.in_ok-counted.ensures.noted;
    }

pub returns-clause-counts : goal.returns-clause-counts
returns-clause-counts c =
    c.loop-entry.invariant.counts
    ∙ ap (λ l. map (counts_at (rows_of c.args.definitions.now) c.args.symbols.now c.args.constants.now)
    (map process_seen l)) (all_taken c.args.definitions.now.processes.items c.deref-entry-items.result.now
    c.deref-entry-items.ensures.value c.loop-entry.entry-index c.loop-entry-test.false)

pub returns-clause-noted : goal.returns-clause-noted
returns-clause-noted c =
    c.loop-entry.invariant.noted
    ∙ ap (λ l. least_of c.args.faults.now
    (flat_map (counts_faults_at (rows_of c.args.definitions.now) c.args.symbols.now c.args.constants.now)
    (map process_seen l))) (all_taken c.args.definitions.now.processes.items c.deref-entry-items.result.now
    c.deref-entry-items.ensures.value c.loop-entry.entry-index c.loop-entry-test.false)
