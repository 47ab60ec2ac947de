use Rattle.std.proofs.Common.{subst, sym}
use Rattle.run_record.specs.Entry.{event_of}
use Rattle.run_record.specs.declared.entry.Entry.{Entry}
use Rattle.sdl_failures.proofs.ConditionLemmas.{item_read}
use Rattle.sdl_failures.specs.Part.{DoesSet}
use Rattle.sdl_failures.proofs.replayed.part.does_set.Goals as goal

pub returns-in-Some : goal.returns-in-Some
returns-in-Some c = λ yes values.
    subst (λ (e : Entry). DoesSet c.args.list.now c.args.part (event_of e values)) (sym c.in-Set.is)
    (record {
      one = c.in-Some.one.now;
      is = item_read c.args.list.now c.args.part c.in-Some.one c.in-Some.ensures.lookup;
      holds = c.is_number.ensures yes;
    })
