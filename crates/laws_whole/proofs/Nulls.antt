-- A create that gives null has a cause that the records tell.
use Rattle.std.proofs.Common.{◌≡◌, ◌∙◌, ◌++◌, ap, arith, length-append, refl, subst, sym, ℕ, suc, Bool, true, false, All, List, [], ◌∷◌, None, Option, Some, length}
use Rattle.std.proofs.lemmas.List.Elements.{All-append, All-cons, All-map, All-nil, All-weaker}
use Rattle.std.proofs.lemmas.List.{length-map}
use Rattle.std.specs.Option.{option_map_or}
use Rattle.laws_creates.proofs.Creates.{who_count}
use Rattle.laws_creates.proofs.Steps.{nulls_have_cause}
use Rattle.laws_creates.specs.Creates.{identities}
use Rattle.laws_creates.specs.Steps as steps
use Rattle.laws_whole.proofs.Course.{all_records}
use Rattle.laws_whole.proofs.Lists.{all_split}
use Rattle.laws_whole.proofs.Living.{IsMoment, living_within}
use Rattle.laws_whole.proofs.Moments.{moment_amid}
use Rattle.laws_whole.proofs.Occurs.{Occurs, OfDeeds, all_occur, deeds_all}
use Rattle.run_record.specs.declared.evaluation.identity.Identity.{Identity}
use Rattle.run_record.specs.Event as event
use Rattle.run_record.specs.Event.{Event}
use Rattle.run_record.specs.Record.{RecordValue}
use Rattle.run_record.specs.declared.record.Report.{Report}
use Rattle.run_semantics.specs.Behaves.{AreBehaviours}
use Rattle.run_semantics.specs.Effect.{Deed, effects_of, events_of}
use Rattle.sdl_interp.specs.declared.transitions.machine.Position.{Position}
use Rattle.sdl_interp.specs.declared.transitions.machine.Position.TheVariants as position
use Rattle.sdl_interp.specs.Instance.{InstanceValue, closing}
use Rattle.sdl_script.specs.Script.{end_of}
use Rattle.sdl_script.specs.declared.script.ScriptLine.{ScriptLine}
use Rattle.sdl_system.specs.Behaviour.{Behaviour}
use Rattle.sdl_system.specs.System.{SystemValue}
use Rattle.sdl_system.specs.declared.id.ProcessId.{ProcessId}
use Rattle.sdl_system.specs.declared.process.Process.{Process}
use Rattle.serial_order.specs.Execution.{Expired, Happening, Heard, Moved, Ticked}
use Rattle.serial_order.specs.Laws.{EachIsTold}
use Rattle.serial_order.specs.Report.{IsSerialReport}
use Rattle.serial_order.specs.RunState.{after_effects}
use Rattle.serial_order.specs.Told.{deeds_of}
use Rattle.settle_meaning.specs.Identities.{HasCause, HasNoNumber, all_given, as_many, identities_of, identity_of}

-- what closes a record is no create
closing_all : (system : SystemValue) (records : List RecordValue) (whole : Bool) (at : Position)
    → All (HasCause system records) (closing whole at)
closing_all system records whole position.BeforeStart =
    All-cons (HasCause system records) (event.Cut None) [] tt (All-nil (HasCause system records))
closing_all system records true (position.In n) =
    All-cons (HasCause system records) (event.Rest n) [] tt (All-nil (HasCause system records))
closing_all system records false (position.In n) =
    All-cons (HasCause system records) (event.Cut (Some n)) [] tt (All-nil (HasCause system records))
closing_all system records whole position.Ended = All-nil (HasCause system records)

-- the cause at a moment is one for the records
told_cause : (system : SystemValue) (records : List RecordValue) (xs : List InstanceValue) (id : ProcessId)
    → IsMoment records xs → steps.HasNoNumber system xs id → HasNoNumber system records id
told_cause system records xs id moment (steps.as_many process most is bounded living) =
    as_many most (ap (λ (o : Option Process). option_map_or (λ (p : Process). p.maximum) o (Some 0)) is ∙ bounded)
    (omega (arith, living, living_within id xs records moment.front))
told_cause system records xs id moment (steps.all_given given) =
    let count : length (identities_of records) ≡ length (identities xs ++ moment.front.rest) =
    ap (λ (l : List Identity). length l) moment.front.is in
    all_given (omega (
      arith,
      given,
      count,
      length-append (identities xs) moment.front.rest,
      who_count xs,
      length-map records identity_of,
    ))
told_cause system records xs id moment (steps.no_process none) =
    as_many 0 (ap (λ (o : Option Process). option_map_or (λ (p : Process). p.maximum) o (Some 0)) none) (omega arith)

module _ (ps : List Behaviour) (system : SystemValue) (lines : List ScriptLine) (limit : ℕ) (report : Report)
    (behaviours : AreBehaviours system ps) (run : IsSerialReport ps system lines limit report)
    (each_told : EachIsTold) where
  abbrev records : List RecordValue
  records = report.records.items

  abbrev DeedHasCause : Deed → Type 0
  DeedHasCause deed = HasCause system records deed.event

  module _ (who : Identity) (before : List Deed) (deed : Deed) (after : List Deed)
      (occurs : Occurs ps system lines (end_of lines) run.happenings (Moved who (before ++ deed ∷ after))) where
    null_cause : (id : ProcessId) → deed.event ≡ event.Create id None → HasNoNumber system records id
    null_cause id is =
        told_cause system records (after_effects occurs.at (effects_of before)).instances id
        (moment_amid ps system lines limit report behaviours run each_told who before deed after occurs)
        (nulls_have_cause ps system lines (end_of lines) occurs.before occurs.at occurs.to who before deed after
        occurs.execution occurs.follows id is)

    event_cause : (e : Event) → deed.event ≡ e → HasCause system records e
    event_cause (event.Create id None) is = null_cause id is
    event_cause (event.Create id (Some number)) is = tt
    event_cause happened is = tt

  deeds_cause : (n : ℕ) (next : Happening) → Occurs ps system lines (end_of lines) run.happenings next
      → OfDeeds n DeedHasCause next
  deeds_cause n (Moved who deeds) occurs = λ own.
      all_split DeedHasCause deeds
      (λ before deed after is.
      event_cause who before deed after
      (subst (λ (list : List Deed). Occurs ps system lines (end_of lines) run.happenings (Moved who list)) is occurs)
      deed.event refl)
  deeds_cause n (Expired fuse) occurs = tt
  deeds_cause n (Heard line effects) occurs = tt
  deeds_cause n (Ticked time) occurs = tt

  pub all_caused : All (λ (trace : RecordValue). All (HasCause system records) trace.events) records
  all_caused =
      all_records ps system lines limit report behaviours run each_told
      (λ (trace : RecordValue). All (HasCause system records) trace.events)
      (λ k trace there of.
      let deeds : List Deed = deeds_of (suc k) run.happenings in
      subst (λ (l : List Event). All (HasCause system records) l) (sym of.events)
      (All-append (HasCause system records) (events_of deeds) (closing report.whole of.i.position)
      (All-map (HasCause system records) (λ (deed : Deed). deed.event) deeds
      (deeds_all (suc k) DeedHasCause run.happenings
      (All-weaker (Occurs ps system lines (end_of lines) run.happenings) (OfDeeds (suc k) DeedHasCause)
      (deeds_cause (suc k)) run.happenings (all_occur ps system lines (end_of lines) run.execution))))
      (closing_all system records report.whole of.i.position)))
