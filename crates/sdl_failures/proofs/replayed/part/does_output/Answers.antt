use Rattle.std.proofs.Common.{◌≡◌, List, Some, slice_get, subst, sym}
use Rattle.run_record.specs.Entry.{event_of}
use Rattle.run_record.specs.declared.entry.Entry.{Entry}
use Rattle.sdl_system.specs.declared.statement.Sending.{Sending}
use Rattle.sdl_failures.proofs.ConditionLemmas.{item_read}
use Rattle.sdl_failures.specs.Part.{DoesOutput}
use Rattle.sdl_failures.proofs.replayed.part.does_output.Goals as goal

pub returns-in-Some : goal.returns-in-Some
returns-in-Some c = λ yes values.
    let one = c.in-Some.one in
    subst (λ (e : Entry). DoesOutput c.args.output.now c.args.part (event_of e values)) (sym c.in-Output.is)
    (record {
      one = one.now;
      is = subst (λ (xs : List Sending). slice_get xs c.args.part ≡ Some one.now) c.deref.ensures.value
          (item_read c.deref.result.now c.args.part one c.in-Some.ensures.lookup);
      holds = c.is_number.ensures yes;
    })
