-- What is told in an order of a run.
use Rattle.std.proofs.Common.{ℕ, List, length, refl, arith}
use Rattle.run_record.specs.Record.{RecordValue}
use Rattle.run_record.specs.declared.record.Report.{Report}
use Rattle.view_run.specs.Finder.{IsOrderOf, IsPartOf, Job, job_with}
use Rattle.sdl_script.specs.declared.script.ScriptLine.{ScriptLine}
use Rattle.sdl_system.specs.System.{SystemValue}
use Rattle.view_timeline.specs.Parts as parts
use Rattle.view_timeline.specs.Parts.{IsInOrderOf}
use Rattle.view_run.specs.Order.{IsToldAsFar, all_told, stops}
use Rattle.view_timeline.specs.Timeline.{AreBegun}
use Rattle.view_timeline.specs.declared.moves.Timeline.{Timeline}

-- The parts of each record are its entries up to the last one.
pub parts_begun : (records : List RecordValue) (told : Timeline) → parts.EachOnce records told.moves.items
    → AreBegun records told
parts_begun records told once = λ place trace there. record {
  end = length trace.events;
  within = omega arith;
  whole = once.whole place trace there;
}

-- an order of a whole run is one of its beginning
pub one_begun : (job : Job) (tellers : List ℕ) → IsOrderOf job tellers → IsPartOf job tellers
one_begun job tellers one = λ ps behave.
    let order = one ps behave in
    record {
      happenings = order.happenings;
      last = order.last;
      interleaving = order.interleaving;
      told = order.told;
    }

-- what is told of a beginning is told as far as it goes
pub as_far : (system : SystemValue) (lines : List ScriptLine) (report : Report) (tellers : List ℕ) (told : Timeline)
    (number : ℕ) → IsPartOf (job_with system lines report) tellers
    → parts.IsStuck report.records.items tellers told number → IsToldAsFar system lines report told number
as_far system lines report tellers told number is stuck = record {
  tellers = tellers;
  a_run = is;
  ends = stops stuck.stops;
  says = stuck.says;
}

-- also where all of the report is told by it
pub all_as_far : (system : SystemValue) (lines : List ScriptLine) (report : Report) (tellers : List ℕ)
    (told : Timeline) → IsPartOf (job_with system lines report) tellers
    → parts.EachOnce report.records.items told.moves.items → IsInOrderOf report.records.items tellers told
    → parts.IsTimeline report.records.items told → IsToldAsFar system lines report told 0
all_as_far system lines report tellers told is once order says = record {
  tellers = tellers;
  a_run = is;
  ends = all_told once order refl;
  says = says;
}
