use Rattle.std.proofs.Common.{map, subst, sym}
use Rattle.std.proofs.lemmas.List.{take_all}
use Rattle.std.specs.List.{AllZip, Contains}
use Rattle.std.proofs.lemmas.Slice.Zip.{all_zipped_more}
use Rattle.build_states.specs.Tabled.{table_value}
use Rattle.build_states.proofs.AnswerLemmas.{taken-more}
use Rattle.build_tables.proofs.ListLemmas.{contains-at}
use Rattle.build_tables.specs.Linked.{IsTable, TableOf}
use Rattle.build_tables.proofs.state.tables_of.Goals as goal

pub loop-one-preserved : goal.loop-one-preserved
loop-one-preserved c =
    let parts = c.args.parts in
    let said = table_value c.one-item.result in
    rw (
      c.in_ok-push.ensures.items,
      taken-more table_value c.args.said.now c.loop-one.one-index c.one-item.result c.loop-one-test.true c.one-item.is,
    )
    (all_zipped_more (IsTable parts.entries.now parts.valid.now parts.signals) _ _ said c.in-Some.table
    c.loop-one.invariant
    (subst (TableOf parts.entries.now parts.valid.now parts.signals said) c.in-Some.is c.in_ok-table.ensures))

pub returns-in_default : goal.returns-in_default
returns-in_default c =
    let parts = c.args.parts in
    let said = c.args.said.now in
    let one = c.one-item.result in record {
      one = table_value one;
      listed =
          subst (λ x. Contains (map table_value said) (table_value x)) (sym c.one-item.is)
          (contains-at table_value said c.loop-one.one-index one c.loop-one-test.true);
      lacks =
          subst (TableOf parts.entries.now parts.valid.now parts.signals (table_value one)) c.in_default.is
          c.in_ok-table.ensures;
    }

pub returns : goal.returns
returns c =
    let parts = c.args.parts in
    subst (λ list. AllZip (IsTable parts.entries.now parts.valid.now parts.signals) (map table_value list)
    c.loop-one.tables.items) (take_all c.loop-one.one-index c.args.said.now c.loop-one-test.false) c.loop-one.invariant
