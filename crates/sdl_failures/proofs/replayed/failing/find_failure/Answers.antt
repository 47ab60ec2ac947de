-- The place, by all events of the record.
use Rattle.std.proofs.Common.{◌∙◌, Option, IfSome, ap, slice_get, subst, sym}
use Rattle.run_record.specs.Variables.{VariableList}
use Rattle.sdl_system.specs.declared.id.ProcessId.{ProcessId}
use Rattle.sdl_failures.proofs.FollowLemmas.{stops_there}
use Rattle.sdl_failures.specs.Replay.{StopsAsOf}
use Rattle.sdl_failures.specs.Stands.{BeginsWith, identity_of}
use Rattle.sdl_failures.specs.declared.replayed.failing.Stop.{Stop}
use Rattle.sdl_failures.proofs.replayed.failing.find_failure.Goals as goal

pub returns-clause-place : goal.returns-clause-place
returns-clause-place c =
    let system = c.args.system.now in
    let records = c.args.records.now in
    let trace = c.args.trace.now in
    let process = c.in-Some.process.now in
    let variables = c.in-Some-found.variables in
    let r = c.in_ok-replay.replay in
    let n = c.stop.new.self in
    let ended = c.in-Some-ended.stop in
    record {
      process = process;
      is = ap (λ (id : ProcessId). slice_get system.processes id.0) (sym c.process-number.ensures)
          ∙ sym c.in-Some.ensures;
      variables = variables;
      begins = subst (λ (o : Option VariableList). IfSome o (λ v. BeginsWith system records trace v))
          c.in-Some-found.is c.in_ok-found.ensures;
      comes = stops_there r n system process (identity_of trace) variables trace.events ended.halt ended.why
          c.in_ok-replay.ensures.system c.in_ok-replay.ensures.process c.in_ok-replay.ensures.who
          c.in_ok-replay.ensures.came
          (subst (λ (o : Option Stop). IfSome o (λ s. StopsAsOf r n s.halt s.why)) c.in-Some-ended.is
          c.in_ok-ended.ensures);
    }

pub returns-clause-process : goal.returns-clause-process
returns-clause-process c =
    ap (λ (id : ProcessId). slice_get c.args.system.now.processes id.0) (sym c.process-number.ensures)
    ∙ sym c.in-Some.ensures

pub returns-clause-who : goal.returns-clause-who
returns-clause-who c =
    let r = c.in_ok-replay.replay in
    let n = c.stop.new.self in
    let ended = c.in-Some-ended.stop in
    let stops : StopsAsOf r n ended.halt ended.why =
    subst (λ (o : Option Stop). IfSome o (λ s. StopsAsOf r n s.halt s.why)) c.in-Some-ended.is c.in_ok-ended.ensures in
    stops.follows.same.who ∙ c.in_ok-replay.ensures.who
