use Rattle.std.proofs.Common.{◌≡◌, ◌∙◌, Some, get_or, slice_get, ◌∷◌, [], ap, arith, length, map, subst}
use Rattle.std.proofs.lemmas.List.{length-map, map-append}
use Rattle.std.proofs.lemmas.Option.{slice_get-get_or}
use Rattle.build_routes.specs.Entries.{IsRow}
use Rattle.build_routes.specs.declared.network.joined.Process.{Process}
use Rattle.build_routes.specs.declared.network.joined.Scope.TheVariants as its
use Rattle.build_routes.specs.declared.network.joined.End.TheVariants as at
use Rattle.build_routes.proofs.TableLemmas.{keeps_on, rows_more}
use Rattle.build_routes.proofs.table.process_rows.Goals as goal

pub loop-number-preserved : goal.loop-number-preserved
loop-number-preserved c =
    let network = c.args.network.now in
    let n = c.loop-number.number in
    let none : Process = record { scope = its.System; named = record { 0 = 0 }; timers = record { 0 = 0 } } in
    let process = get_or network.processes.items n none in
    let here : slice_get network.processes.items n ≡ Some process =
    slice_get-get_or network.processes.items n none (omega (arith, c.loop-number-test.true, ap length c.deref-process-items.ensures.value)) in
    let lists = c.row_from.new.lists in
    let row = c.in_ok-row_from.field-0.items in
    record {
      kept = keeps_on c.args.lists.now c.loop-number.lists c.row_from.new.lists c.loop-number.invariant.kept c.in_ok-row_from.ensures.kept;
      known = c.in_ok-row_from.ensures.known;
      rows = rows_more network c.loop-number.lists c.row_from.new.lists n (map (λ row. row.items) c.loop-number.rows.items)
          (map (λ row. row.items) c.push.new.self.items) c.in_ok-row_from.field-0.items process c.in_ok-row_from.ensures.kept c.loop-number.invariant.rows
          here
          (subst (λ items. IsRow network (record { end = at.Process (record { 0 = n }); scope = (get_or items n none).scope }) lists network.signals row) c.deref-process-items.ensures.value
          (subst (λ k. IsRow network (record { end = at.Process (record { 0 = k }); scope = (get_or c.deref-process-items.result.now n none).scope }) lists network.signals row)
          c.in_ok-counted.ensures.same c.in_ok-row_from.ensures.row))
          (ap (λ rows. map (λ row. row.items) rows) c.in_ok-push.ensures.items ∙ map-append (λ row. row.items) c.loop-number.rows.items (c.in_ok-row_from.field-0 ∷ []))
          (simp length-map (omega (arith, c.in_ok-push.ensures.len, simp length-map at c.loop-number.invariant.rows.size)));
    }

pub returns-in_err-row_from-clause-kept : goal.returns-in_err-row_from-clause-kept
returns-in_err-row_from-clause-kept c =
    keeps_on c.args.lists.now c.loop-number.lists c.row_from.new.lists c.loop-number.invariant.kept
    c.in_err-row_from.ensures.kept

pub returns-in_err-row_from-clause-known : goal.returns-in_err-row_from-clause-known
returns-in_err-row_from-clause-known c = c.in_err-row_from.ensures.known

pub returns-in_err-push-clause-kept : goal.returns-in_err-push-clause-kept
returns-in_err-push-clause-kept c =
    keeps_on c.args.lists.now c.loop-number.lists c.row_from.new.lists c.loop-number.invariant.kept
    c.in_ok-row_from.ensures.kept

pub returns-in_err-push-clause-known : goal.returns-in_err-push-clause-known
returns-in_err-push-clause-known c = c.in_ok-row_from.ensures.known

pub returns-clause-kept : goal.returns-clause-kept
returns-clause-kept c = c.loop-number.invariant.kept

pub returns-clause-known : goal.returns-clause-known
returns-clause-known c = c.loop-number.invariant.known
