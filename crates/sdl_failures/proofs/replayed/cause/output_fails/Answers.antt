use Rattle.std.proofs.Common.{◌≡◌, List, Option, Some, slice_get, subst}
use Rattle.run_record.specs.Knowledge.{environment_of}
use Rattle.sdl_system.specs.declared.statement.Destination.{Destination}
use Rattle.sdl_system.specs.declared.statement.Sending.{Sending}
use Rattle.sdl_failures.proofs.ConditionLemmas.{item_read}
use Rattle.sdl_failures.specs.Fails.{SendingFails}
use Rattle.sdl_failures.proofs.replayed.cause.output_fails.Goals as goal

pub returns-in-Some : goal.returns-in-Some
returns-in-Some c =
    let one = c.in-Some.one in
    let knowledge = c.args.knowledge.now in
    λ yes. record {
      one = one.now;
      is = subst (λ (xs : List Sending). slice_get xs c.args.part ≡ Some one.now) c.deref.ensures.value
          (item_read c.deref.result.now c.args.part one c.in-Some.ensures.lookup);
      holds = subst (λ (to : Option Destination).
          SendingFails knowledge.system (environment_of knowledge) to one.now c.args.why)
          c.as_ref.ensures.value (c.sending_fails.ensures yes);
    }
