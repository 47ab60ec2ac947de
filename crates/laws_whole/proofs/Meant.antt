-- Signals go where the routes lead them, by instances that may have lived then.
use Rattle.std.proofs.Common.{◌≡◌, ◌∙◌, ◌++◌, ap, refl, subst, sym, ℕ, suc, Bool, true, false, All, List, [], ◌∷◌, None, Option, Some}
use Rattle.std.proofs.lemmas.List.Elements.{All-append, All-cons, All-map, All-nil, All-weaker}
use Rattle.laws_creates.proofs.Steps.{outputs_are_meant, signals_are_meant}
use Rattle.laws_creates.specs.Steps.{target_for}
use Rattle.laws_whole.proofs.Course.{IsOf, all_records}
use Rattle.laws_whole.proofs.Hearing.{heard_from, heard_of, heard_of_one}
use Rattle.laws_whole.proofs.Lists.{all_flat, all_split}
use Rattle.laws_whole.proofs.Living.{are_living}
use Rattle.laws_whole.proofs.Moments.{moment_amid, moment_before, own_processes}
use Rattle.laws_whole.proofs.Occurs.{Occurs, OfDeeds, all_occur, deeds_all}
use Rattle.laws_whole.proofs.Whos.{who_is}
use Rattle.run_record.specs.declared.evaluation.identity.Identity.{Identity}
use Rattle.run_record.specs.Event as event
use Rattle.run_record.specs.Event.{Event}
use Rattle.run_record.specs.Record.{RecordValue}
use Rattle.run_record.specs.declared.record.Report.{Report}
use Rattle.run_semantics.specs.Behaves.{AreBehaviours}
use Rattle.run_semantics.specs.Effect.{Deed, Effect, Send, effects_of, events_of}
use Rattle.sdl_interp.specs.declared.transitions.machine.Position.{Position}
use Rattle.sdl_interp.specs.declared.transitions.machine.Position.TheVariants as position
use Rattle.sdl_interp.specs.Instance.{closing}
use Rattle.sdl_script.specs.Script.{end_of}
use Rattle.sdl_script.specs.declared.script.ScriptLine.{ScriptLine}
use Rattle.sdl_script.specs.declared.script.ScriptSignal.{ScriptSignal}
use Rattle.sdl_system.specs.Behaviour.{Behaviour}
use Rattle.sdl_system.specs.System.{SystemValue}
use Rattle.sdl_system.specs.declared.id.ProcessId.{ProcessId}
use Rattle.sdl_system.specs.declared.route.Source.TheVariants as source
use Rattle.sdl_system.specs.declared.route.Target.{Target}
use Rattle.serial_order.specs.Execution.{Expired, Happening, Heard, Moved, Ticked}
use Rattle.serial_order.specs.Laws.{EachIsTold}
use Rattle.serial_order.specs.Report.{IsSerialReport}
use Rattle.serial_order.specs.RunState.{after_effects, instance_at, living_of}
use Rattle.serial_order.specs.Told.{deeds_of}
use Rattle.settle_meaning.specs.Living.{AreMeant, IsMeant}
use Rattle.settle_meaning.specs.Puts as puts
use Rattle.settle_meaning.specs.Puts.{IsHeardRight}

-- what closes a record is no output
closing_meant : (system : SystemValue) (records : List RecordValue) (process : ProcessId) (whole : Bool) (at : Position)
    → All (IsMeant system records process) (closing whole at)
closing_meant system records process whole position.BeforeStart =
    All-cons (IsMeant system records process) (event.Cut None) [] tt (All-nil (IsMeant system records process))
closing_meant system records process true (position.In n) =
    All-cons (IsMeant system records process) (event.Rest n) [] tt (All-nil (IsMeant system records process))
closing_meant system records process false (position.In n) =
    All-cons (IsMeant system records process) (event.Cut (Some n)) [] tt (All-nil (IsMeant system records process))
closing_meant system records process whole position.Ended = All-nil (IsMeant system records process)

module _ (ps : List Behaviour) (system : SystemValue) (lines : List ScriptLine) (limit : ℕ) (report : Report)
    (behaviours : AreBehaviours system ps) (run : IsSerialReport ps system lines limit report)
    (each_told : EachIsTold) where
  abbrev records : List RecordValue
  records = report.records.items

  -- ---- outputs

  module _ (who : Identity) (before : List Deed) (deed : Deed) (after : List Deed)
      (occurs : Occurs ps system lines (end_of lines) run.happenings (Moved who (before ++ deed ∷ after))) where
    event_meant : (e : Event) → deed.event ≡ e → IsMeant system records who.process e
    event_meant (event.Output signal to values target) is = record {
      least = (living_of system (after_effects occurs.at (effects_of before)).instances).least;
      living = are_living system records (after_effects occurs.at (effects_of before)).instances
          (moment_amid ps system lines limit report behaviours run each_told who before deed after occurs)
          (own_processes ps system lines limit report behaviours run each_told);
      goes = (outputs_are_meant ps system lines (end_of lines) occurs.before occurs.at occurs.to who before deed after
          occurs.execution occurs.follows signal to values target is).0;
    }
    event_meant happened is = tt

  module _ (k : ℕ) (trace : RecordValue)
      (of : IsOf ps system lines limit report behaviours run each_told (suc k) trace) where
    abbrev DeedIsMeant : Deed → Type 0
    DeedIsMeant deed = IsMeant system records trace.process deed.event

    -- who makes a step of this instance
    same_process : (who : Identity) (deeds : List Deed)
        → Occurs ps system lines (end_of lines) run.happenings (Moved who deeds) → who.pid ≡ suc k
        → who.process ≡ trace.process
    same_process who deeds occurs own =
        let in_end : instance_at run.last.instances who.pid ≡ Some of.i =
        ap (λ n. instance_at run.last.instances n) own ∙ of.there in
        sym (ap (λ (w : Identity). w.process)
        (of.who ∙ who_is ps system lines (end_of lines) run.execution who deeds occurs of.i in_end))

    deeds_meant : (next : Happening) → Occurs ps system lines (end_of lines) run.happenings next
        → OfDeeds (suc k) DeedIsMeant next
    deeds_meant (Moved who deeds) occurs = λ own.
        all_split DeedIsMeant deeds
        (λ before deed after is.
        subst (λ (process : ProcessId). IsMeant system records process deed.event) (same_process who deeds occurs own)
        (event_meant who before deed after
        (subst (λ (list : List Deed). Occurs ps system lines (end_of lines) run.happenings (Moved who list)) is occurs)
        deed.event refl))
    deeds_meant (Expired fuse) occurs = tt
    deeds_meant (Heard line effects) occurs = tt
    deeds_meant (Ticked time) occurs = tt

    record_meant : AreMeant system records trace
    record_meant =
        let deeds : List Deed = deeds_of (suc k) run.happenings in
        subst (λ (l : List Event). All (IsMeant system records trace.process) l) (sym of.events)
        (All-append (IsMeant system records trace.process) (events_of deeds) (closing report.whole of.i.position)
        (All-map (IsMeant system records trace.process) (λ (deed : Deed). deed.event) deeds
        (deeds_all (suc k) DeedIsMeant run.happenings
        (All-weaker (Occurs ps system lines (end_of lines) run.happenings) (OfDeeds (suc k) DeedIsMeant) deeds_meant
        run.happenings (all_occur ps system lines (end_of lines) run.execution))))
        (closing_meant system records trace.process report.whole of.i.position))

  pub all_meant : All (AreMeant system records) records
  all_meant =
      all_records ps system lines limit report behaviours run each_told (AreMeant system records)
      (λ k trace there of. record_meant k trace of)

  -- ---- the script

  module _ (line : ScriptLine) (effects : List Effect)
      (occurs : Occurs ps system lines (end_of lines) run.happenings (Heard line effects)) where
    signal_right : (o : Option ScriptSignal) → line.signal ≡ o
        → All (IsHeardRight system records) (heard_from o effects)
    signal_right None is = All-nil (IsHeardRight system records)
    signal_right (Some signal) is =
        let target : Target =
        target_for system occurs.at.instances signal.item.name source.Env signal.to in
        let sent : effects ≡ Send target signal.item ∷ [] =
        signals_are_meant ps system lines (end_of lines) occurs.before occurs.at occurs.to line effects signal
        occurs.execution occurs.follows is in
        let one : puts.Heard = record { signal = signal; target = target } in
        subst (λ (l : List Effect). All (IsHeardRight system records) (heard_from (Some signal) l)) (sym sent)
        (All-cons (IsHeardRight system records) one []
        (record {
          least = (living_of system occurs.at.instances).least;
          living = are_living system records occurs.at.instances
              (moment_before ps system lines limit report behaviours run each_told (Heard line effects) occurs)
              (own_processes ps system lines limit report behaviours run each_told);
          goes = refl;
        }) (All-nil (IsHeardRight system records)))

  one_right : (next : Happening) → Occurs ps system lines (end_of lines) run.happenings next
      → All (IsHeardRight system records) (heard_of_one next)
  one_right (Heard line effects) occurs = signal_right line effects occurs line.signal refl
  one_right (Moved who deeds) occurs = All-nil (IsHeardRight system records)
  one_right (Expired fuse) occurs = All-nil (IsHeardRight system records)
  one_right (Ticked time) occurs = All-nil (IsHeardRight system records)

  pub all_right : All (IsHeardRight system records) (heard_of run.happenings)
  all_right =
      all_flat (IsHeardRight system records) heard_of_one run.happenings
      (All-weaker (Occurs ps system lines (end_of lines) run.happenings)
      (λ (next : Happening). All (IsHeardRight system records) (heard_of_one next)) one_right run.happenings
      (all_occur ps system lines (end_of lines) run.execution))
