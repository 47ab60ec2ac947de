-- What is known of each record of a serial report.
use Rattle.std.proofs.Common.{◌≡◌, ◌∙◌, ◌++◌, ap, ℕ, suc, All, List, Some, slice_get}
use Rattle.laws_creates.proofs.Creates.{records_who}
use Rattle.laws_creates.specs.Creates.{identities}
use Rattle.laws_whole.proofs.Lists.{all_numbered, zip_at}
use Rattle.laws_whole.proofs.Systems.{all_system}
use Rattle.run_record.specs.Event.{Event}
use Rattle.run_record.specs.Record.{RecordValue}
use Rattle.run_record.specs.declared.record.Report.{Report}
use Rattle.run_semantics.specs.Behaves.{AreBehaviours}
use Rattle.run_semantics.specs.Effect.{events_of}
use Rattle.sdl_interp.specs.Instance.{InstanceValue, closing}
use Rattle.sdl_script.specs.Script.{end_of}
use Rattle.sdl_script.specs.declared.script.ScriptLine.{ScriptLine}
use Rattle.sdl_system.specs.Behaviour.{Behaviour}
use Rattle.sdl_system.specs.System.{SystemValue}
use Rattle.serial_order.specs.Laws.{EachIsTold}
use Rattle.serial_order.specs.Report.{Closes, IsSerialReport}
use Rattle.serial_order.specs.RunState.{instance_at}
use Rattle.serial_order.specs.Told.{IsTold, deeds_of, history_of}
use Rattle.settle_meaning.specs.Identities.{identities_of, identity_of}

module _ (ps : List Behaviour) (system : SystemValue) (lines : List ScriptLine) (limit : ℕ) (report : Report)
    (behaviours : AreBehaviours system ps) (run : IsSerialReport ps system lines limit report)
    (each_told : EachIsTold) where
  -- The record is that of the instance with this number, and tells all that it did.
  pub record IsOf (n : ℕ) (trace : RecordValue) : Type 0 where
    pub i : InstanceValue
    pub there : instance_at run.last.instances n ≡ Some i
    pub who : identity_of trace ≡ i.who
    pub number : trace.pid ≡ n
    pub closes : Closes ps report.whole i trace
    pub told : IsTold ps i (deeds_of n run.happenings) (history_of system n run.happenings)
    pub events : trace.events ≡ events_of (deeds_of n run.happenings) ++ closing report.whole i.position
    pub system_is : i.system ≡ system

  pub record_of : (k : ℕ) (trace : RecordValue) → slice_get report.records.items k ≡ Some trace → IsOf (suc k) trace
  record_of k trace there =
      let pair : (i : InstanceValue) × (slice_get run.last.instances k ≡ Some i) × Closes ps report.whole i trace =
      zip_at (Closes ps report.whole) run.last.instances report.records.items k trace run.records there in
      let i : InstanceValue = pair.0 in
      let closes : Closes ps report.whole i trace = pair.2 in
      let all_told = each_told ps system lines (end_of lines) run.happenings run.last behaviours run.execution in
      let told : IsTold ps i (deeds_of (suc k) run.happenings) (history_of system (suc k) run.happenings) =
      all_told.each (suc k) i pair.1 in
      record {
        i = i;
        there = pair.1;
        who = λ j. record {
          process = closes.closed.process j;
          pid = closes.closed.pid j;
          parent = closes.closed.parent j;
        };
        number = closes.closed.pid ∙ all_told.numbers (suc k) i pair.1;
        closes = closes;
        told = told;
        events = closes.closed.events
            ∙ ap (λ (l : List Event). l ++ closing report.whole i.position) told.recorded;
        system_is = all_system ps system (end_of lines) run.execution (suc k) i pair.1;
      }

  -- so is each
  pub all_records : (P : RecordValue → Type 0)
      → ((k : ℕ) (trace : RecordValue) → slice_get report.records.items k ≡ Some trace → IsOf (suc k) trace → P trace)
      → All P report.records.items
  all_records P at = all_numbered P report.records.items (λ k trace there. at k trace there (record_of k trace there))

  -- whose the records are
  pub whos_are : identities_of report.records.items ≡ identities run.last.instances
  whos_are = records_who ps report.whole run.last.instances report.records.items run.records
