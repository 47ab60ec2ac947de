use Rattle.std.proofs.Common.{Some, ap, arith, option_map, sym, ◌-◌, ◌∙◌}
use Rattle.std.proofs.lemmas.Bool.{ltb-false, ltb-true}
use Rattle.std.proofs.lemmas.Option.{slice_get_past}
use Rattle.sdl_system.specs.declared.id.ProcessId.{ProcessId}
use Rattle.run_record.specs.Record.{RecordValue}
use Rattle.view_text.specs.Numbered.{process_of}
use Rattle.view_text.proofs.Least.{at_place, at_place_within, of_zero}
use Rattle.view_text.proofs.living.process_of.Goals as goal

pub returns-then-number-eq0 : goal.returns-then-number-eq0
returns-then-number-eq0 c = λ all.
    sym (ap (process_of c.args.records.now) c.if-number-eq0.true ∙ of_zero c.args.records.now all)

pub returns-in-Some : goal.returns-in-Some
returns-in-Some c = λ all.
    ap (λ (p : ProcessId). Some p.0) c.process.ensures
    ∙ sym (at_place_within c.args.number 1 (c.args.number - 1) c.args.records.now c.in-Some.record.now all (omega arith)
    (ltb-true _ _ (sym c.in-Some.ensures.lookup.0)) c.in-Some.ensures.lookup.1)

pub returns-in-None : goal.returns-in-None
returns-in-None c = λ all.
    let past = ltb-false _ _ (sym c.in-None.ensures.lookup.0) in
    sym (at_place c.args.number 1 (c.args.number - 1) c.args.records.now all (omega arith)
    ∙ ap (option_map (λ (trace : RecordValue). trace.process.0)) (slice_get_past c.args.records.now
    (c.args.number - 1) past))
