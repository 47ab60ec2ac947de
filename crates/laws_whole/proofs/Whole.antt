-- The report of a serial run is whole or cut.
use Rattle.std.proofs.Common.{◌≡◌, ◌∙◌, ◌++◌, ap, subst, sym, ℕ, suc, Bool, true, false, List, Some, slice_get, arith, inl, inr, zero, Contains, [], ◌∷◌}
use Rattle.std.proofs.lemmas.List.Elements.{Contains-append_right}
use Rattle.std.proofs.lemmas.Option.{none-some, same_Some}
use Rattle.laws_timers.specs.Fused.{HistoriesAreInTime, NoTimerIsDue}
use Rattle.laws_whole.proofs.Closing.{Found, IsQuietTo, all_due, found, history_in_time, puts_more}
use Rattle.laws_whole.proofs.Course.{IsOf, all_records}
use Rattle.laws_whole.proofs.Cuts.{IsSentTo}
use Rattle.laws_whole.proofs.Finish.{ends_so}
use Rattle.laws_whole.proofs.Hearing.{heard_of}
use Rattle.laws_whole.proofs.Lists.{all_at}
use Rattle.laws_whole.proofs.Made.{are_made}
use Rattle.laws_whole.proofs.Meant.{all_meant, all_right}
use Rattle.laws_whole.proofs.Nulls.{all_caused}
use Rattle.laws_whole.proofs.Puts.{are_put}
use Rattle.laws_whole.specs.Whole.{EachMissingIsNamed, IsNamedIn, SerialReportsAreWholeOrCut}
use Rattle.port_model.specs.History.{IsLegal, PortEvent}
use Rattle.port_model.specs.Port.{PortState, empty_port}
use Rattle.port_model.specs.declared.values.item.Item.{Item}
use Rattle.run_record.specs.declared.evaluation.identity.Identity.{Identity}
use Rattle.run_record.specs.Record.{RecordValue}
use Rattle.run_record.specs.declared.record.Report.{Report}
use Rattle.run_semantics.specs.Behaves.{AreBehaviours}
use Rattle.run_semantics.specs.ControlPoint.{AtStart, Definition}
use Rattle.run_semantics.specs.Effect.{Deed}
use Rattle.run_semantics.specs.Instance.{first_store}
use Rattle.run_semantics.specs.Leads.{IsQuiet}
use Rattle.run_semantics.specs.RunLaws.{RunsAreLegal}
use Rattle.run_semantics.specs.Runs.{Runs}
use Rattle.sdl_interp.specs.Machine.{place_of}
use Rattle.sdl_interp.specs.declared.transitions.machine.Position.{Position}
use Rattle.sdl_interp.specs.declared.transitions.machine.Position.TheVariants as position
use Rattle.sdl_interp.specs.Instance.{IsQuietAt}
use Rattle.sdl_script.specs.Script.{end_of}
use Rattle.sdl_script.specs.declared.script.ScriptLine.{ScriptLine}
use Rattle.sdl_system.specs.Behaviour.{Behaviour}
use Rattle.sdl_system.specs.System.{SystemValue}
use Rattle.serial_order.specs.Execution.{Rests}
use Rattle.serial_order.specs.Laws.{AreFromEnv, EachIsMatched, EachIsTold, LinesAreHeard}
use Rattle.serial_order.specs.Report as serial
use Rattle.serial_order.specs.Report.{IsSerialReport}
use Rattle.serial_order.specs.Told.{deeds_of, history_of}
use Rattle.settle_meaning.specs.Identities.{identity_of}
use Rattle.settle_meaning.specs.MeaningLaws.{ExpiriesHaveSets}
use Rattle.settle_meaning.specs.Puts.{ArePut, Heard, IsNamed}
use Rattle.settle_meaning.specs.Report.{HasHistory, IsReported}

-- the laws below
pub record Laws : Type 0 where
  pub told : EachIsTold
  pub matched : EachIsMatched
  pub lines_heard : LinesAreHeard
  pub in_time : HistoriesAreInTime
  pub not_due : NoTimerIsDue
  pub legal : RunsAreLegal
  pub sets : ExpiriesHaveSets

module _ (laws : Laws) (ps : List Behaviour) (system : SystemValue) (lines : List ScriptLine) (limit : ℕ)
    (report : Report) (behaviours : AreBehaviours system ps) (env : AreFromEnv lines)
    (run : IsSerialReport ps system lines limit report) (Known : List Heard → ℕ → Type 0)
    (by_script : (n : ℕ) → IsNamed (heard_of run.happenings) n → Known (heard_of run.happenings) n)
    (by_output : (n j : ℕ) (one : RecordValue) → slice_get report.records.items j ≡ Some one → IsSentTo n one.events
    → Known (heard_of run.happenings) n) where
  abbrev records : List RecordValue
  records = report.records.items

  module _ (k : ℕ) (trace : RecordValue) (there : slice_get records k ≡ Some trace)
      (of : IsOf ps system lines limit report behaviours run laws.told (suc k) trace) where
    abbrev p : Behaviour
    p = of.told.p

    abbrev d : Definition
    d = record { system = system; behaviour = p }

    abbrev history : List PortEvent
    history = history_of system (suc k) run.happenings

    abbrev deeds : List Deed
    deeds = deeds_of (suc k) run.happenings

    abbrev port : PortState
    port = of.i.owner.state

    -- all that it did is a run
    runs : Runs d (identity_of trace) AtStart (first_store p of.told.values) empty_port deeds history
        (place_of of.i.position) of.i.store port
    runs =
        subst (λ (who : Identity). Runs d who AtStart (first_store p of.told.values) empty_port deeds history
        (place_of of.i.position) of.i.store port) (sym of.who)
        (subst (λ (s : SystemValue). Runs (record { system = s; behaviour = p }) of.i.who AtStart
        (first_store p of.told.values) empty_port deeds history (place_of of.i.position) of.i.store port) of.system_is
        of.told.runs)

    -- in a whole run it rests
    rests : (whole : Bool) → serial.Ends whole ps lines limit run.happenings run.last report.end → whole ≡ true
        → Rests ps of.i
    rests true ends is = all_at (Rests ps) run.last.instances k of.i of.there ends.rest
    rests false ends is = let wrong : ⊥ = cc in absurd wrong

    quiet_at : (at : Position) → IsQuietAt d at of.i
        → IsQuietTo d report.end trace of.told.values deeds history of.i.store port at
    quiet_at position.BeforeStart quiet = quiet
    quiet_at (position.In n) quiet = (
      quiet.0,
      subst (λ (who : Identity). IsQuiet d who port n of.i.store quiet.0) (sym of.who) quiet.1,
    )
    quiet_at position.Ended quiet = tt

    quiet : report.whole ≡ true → IsQuietTo d report.end trace of.told.values deeds history of.i.store port
        of.i.position
    quiet is =
        let rest : Rests ps of.i = rests report.whole run.ends is in
        let same : rest.p ≡ p = same_Some rest.p p (sym rest.meant.listed ∙ of.told.meant.listed) in
        quiet_at of.i.position
        (subst (λ (b : Behaviour). IsQuietAt (record { system = system; behaviour = b }) of.i.position of.i) same
        (subst (λ (s : SystemValue). IsQuietAt (record { system = s; behaviour = rest.p }) of.i.position of.i)
        of.system_is rest.quiet))

    closed : Found d report.end trace of.told.values deeds history of.i.store port report.whole
    closed =
        found d report.end trace of.told.values deeds history of.i.store port report.whole of.i.position runs of.events
        quiet
        (λ is. all_due report.end (suc k) port.timers
        (laws.not_due ps system lines limit report behaviours run is (suc k) of.i of.there))

    abbrev whole_history : List PortEvent
    whole_history = history ++ closed.more

    legal : IsLegal empty_port whole_history port
    legal =
        laws.legal d (identity_of trace) AtStart closed.place (first_store p of.told.values) of.i.store empty_port port
        closed.all
        whole_history closed.runs

    has_history : HasHistory (Known (heard_of run.happenings)) ps system (heard_of run.happenings) report.whole
        report.end records trace
    has_history = record {
      history = whole_history;
      port = port;
      legal = legal;
      run = record {
        p = p;
        listed = ap (λ (who : Identity). slice_get ps who.process.0) of.who ∙ of.told.meant.listed;
        values = of.told.values;
        deeds = closed.all;
        place = closed.place;
        store = of.i.store;
        recorded = closed.recorded;
        runs = closed.runs;
      };
      put = subst (λ (l : List Item). ArePut (Known (heard_of run.happenings)) (heard_of run.happenings) records trace
          l)
          (sym (puts_more history closed.more closed.is_more))
          (are_put ps system lines limit report behaviours env run laws.told laws.matched laws.lines_heard
          (Known (heard_of run.happenings)) by_script by_output k trace there);
      in_time = history_in_time history closed.more
          (laws.in_time ps system lines (end_of lines) run.happenings run.last behaviours run.execution (suc k))
          closed.is_more;
      sets = laws.sets whole_history port legal;
      closes = closed.closes;
    }

  is_reported : IsReported Known ps system lines limit report
  is_reported = record {
    heard = heard_of run.happenings;
    made = are_made ps system lines limit report behaviours run laws.told;
    nulls = all_caused ps system lines limit report behaviours run laws.told;
    each = all_records ps system lines limit report behaviours run laws.told
        (HasHistory (Known (heard_of run.happenings)) ps system (heard_of run.happenings) report.whole report.end
        records)
        (λ k trace there of. has_history k trace there of);
    outputs = all_meant ps system lines limit report behaviours run laws.told;
    signals = all_right ps system lines limit report behaviours run laws.told;
    ends = ends_so ps system lines limit report behaviours run laws.told laws.lines_heard;
  }

pub serial_reports : Laws → SerialReportsAreWholeOrCut
serial_reports laws ps system lines limit report behaviours env run =
    is_reported laws ps system lines limit report behaviours env run (λ heard number. Unit {0}) (λ n named. tt)
    (λ n j one there sent. tt)

-- where a record stands among all
among : (records : List RecordValue) (j : ℕ) (one : RecordValue) → slice_get records j ≡ Some one → Contains records one
among [] j one there = absurd (none-some one there)
among (first ∷ rest) zero one there = (0, omega arith, same_Some first one there)
among (first ∷ rest) (suc j) one there = Contains-append_right (first ∷ []) rest one (among rest j one there)

pub each_missing_is_named : Laws → EachMissingIsNamed
each_missing_is_named laws ps system lines limit report behaviours env run =
    is_reported laws ps system lines limit report behaviours env run (IsNamedIn report.records.items)
    (λ n named. inl named)
    (λ n j one there sent.
    inr (record {
      trace = one;
      among = among report.records.items j one there;
      signal = sent.signal;
      values = sent.values;
      sent = sent.among;
    }))
