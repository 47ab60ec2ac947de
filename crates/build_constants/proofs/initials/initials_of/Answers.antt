use Rattle.std.proofs.Common.{◌∙◌, ap, flat_map, map}
use Rattle.build_constants.specs.ConstantTable.{initial_at, initial_faults_at}
use Rattle.build_definitions.specs.Definitions.{rows_of}
use Rattle.build_definitions.specs.Seen.{value_seen}
use Rattle.build_names.specs.Faults.{least_of}
use Rattle.build_constants.proofs.ListLemmas.{all_taken, noted_more, one_more}
use Rattle.build_constants.proofs.initials.initials_of.Goals as goal

pub loop-entry-preserved : goal.loop-entry-preserved
loop-entry-preserved c =
    let rows = rows_of c.args.definitions.now in
    let symbols = c.args.symbols.now in
    let constants = c.args.constants.now in
    let entries = c.args.definitions.now.values.items in
    let items = c.deref-entry-items.result.now in
    let same = c.deref-entry-items.ensures.value in
    let i = c.loop-entry.entry-index in
    let entry = c.entry-item.result in
    record {
      values =
          one_more value_seen entries items same i entry c.loop-entry-test.true c.entry-item.is
          (initial_at rows symbols constants) c.loop-entry.values.items c.push.new.self.items
          c.in_ok-initial_of.field-0 c.loop-entry.invariant.values c.in_ok-initial_of.ensures.value
          c.in_ok-push.ensures.items;
      noted =
          noted_more value_seen entries items same i entry c.loop-entry-test.true c.entry-item.is
          (initial_faults_at rows symbols constants) c.args.faults.now c.loop-entry.faults c.initial_of.new.faults
          c.loop-entry.invariant.noted c.in_ok-initial_of.ensures.noted;
    }

pub returns-clause-values : goal.returns-clause-values
returns-clause-values c =
    c.loop-entry.invariant.values
    ∙ ap (λ l. map (initial_at (rows_of c.args.definitions.now) c.args.symbols.now c.args.constants.now)
    (map value_seen l)) (all_taken c.args.definitions.now.values.items c.deref-entry-items.result.now
    c.deref-entry-items.ensures.value c.loop-entry.entry-index c.loop-entry-test.false)

pub returns-clause-noted : goal.returns-clause-noted
returns-clause-noted c =
    c.loop-entry.invariant.noted
    ∙ ap (λ l. least_of c.args.faults.now
    (flat_map (initial_faults_at (rows_of c.args.definitions.now) c.args.symbols.now c.args.constants.now)
    (map value_seen l))) (all_taken c.args.definitions.now.values.items c.deref-entry-items.result.now
    c.deref-entry-items.ensures.value c.loop-entry.entry-index c.loop-entry-test.false)
