-- It is the place that was found.
use Rattle.std.proofs.Common.{◌≡◌, ◌∙◌, IfSome, Option, Some, ap, slice_get, subst, sym}
use Rattle.std.specs.Prelude.{option_copied}
use Rattle.sdl_failures.proofs.replayed.condition_kind.failed_condition.Goals as goal
use Rattle.sdl_failures.specs.Stands.{IsPlaceOf}
use Rattle.sdl_failures.specs.declared.replayed.failing.Failing.{Failing}
use Rattle.sdl_failures.specs.declared.replayed.halt.Halt.{Halt}

pub returns : goal.returns
returns c =
    let system = c.args.system.now in
    let records = c.args.records.now in
    let trace = c.args.trace.now in
    let found = c.in-Some.failing in
    record {
      process = found.process.now;
      state = c.in-Condition.state;
      table = c.in-Some-table.table.now;
      number = c.in-Condition.condition;
      known = found.known;
      why = found.why;
      is = subst (λ (o : Option Failing). IfSome o (λ at.
          slice_get system.processes trace.process.0 ≡ Some at.process.now)) c.in-Some.is
          c.in_ok-found.ensures.process;
      has = sym c.table.ensures ∙ ap option_copied c.in-Some-table.is;
      place = subst (λ (h : Halt). IsPlaceOf system records trace h found.known found.why) c.in-Condition.is
          (subst (λ (o : Option Failing). IfSome o (λ at. IsPlaceOf system records trace at.halt at.known at.why))
          c.in-Some.is c.in_ok-found.ensures.place);
      of_kind = c.kind_of.ensures;
    }
