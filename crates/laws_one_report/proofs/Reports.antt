-- One serial report, and one text.
use Rattle.std.proofs.Common.{◌≡◌, ◌∙◌, ◌++◌, ◌<◌, ap, arith, length, map, refl, subst, sym, ℕ, Bool, true, false, All, List, [], ◌∷◌, None, Some}
use Rattle.std.proofs.lemmas.List.Elements.{All-cons, All-head, All-nil, All-tail}
use Rattle.std.specs.List.{AllZip, flat_map}
use Rattle.serial_order.specs.Execution.{Happening, transitions_of}
use Rattle.serial_order.specs.RunState.{RunState, beginning}
use Rattle.serial_order.specs.Report.{Closes, Ends, IsSerialReport}
use Rattle.sdl_interp.specs.Instance.{InstanceValue, closing}
use Rattle.run_record.specs.Event as event
use Rattle.run_record.specs.Event.{Event}
use Rattle.run_record.specs.Record.{RecordValue}
use Rattle.sdl_report.specs.ReportText.{end_text, event_line, event_text, heading_text, line, record_text, report_text}
use Rattle.run_record.specs.declared.record.Report.{Report}
use Rattle.sdl_script.specs.Script.{end_of}
use Rattle.sdl_script.specs.declared.script.ScriptLine.{ScriptLine}
use Rattle.sdl_system.specs.Behaviour.{Behaviour}
use Rattle.sdl_system.specs.System.{SystemValue}
use Rattle.laws_one_report.proofs.Executions.{agree}
use Rattle.laws_one_report.proofs.Ends.{not_longer, transitions_same}
use Rattle.laws_one_report.proofs.Lacking.{ByNumber, by_number, first_part}
use Rattle.laws_one_report.specs.Same.{AreSame, AreOfOneRun, IsSameReport, OneReport, OneReportOfAll, OneText, bare, read}
use Rattle.laws_one_step.specs.Unique.{LackNothing}

-- ---- records

-- the record of an instance, as it is read
abbrev record_of : Bool → InstanceValue → RecordValue
record_of whole i = record {
  process = i.who.process;
  pid = i.who.pid;
  parent = i.who.parent;
  events = i.events ++ closing whole i.position;
  room = 0;
  values_room = 0;
}

module _ (ps : List Behaviour) (whole : Bool) where
  closed_read : (i : InstanceValue) (trace : RecordValue) → Closes ps whole i trace
      → read trace ≡ record_of whole (bare i)
  closed_read i trace closes =
      λ k. record {
        process = closes.closed.process k;
        pid = closes.closed.pid k;
        parent = closes.closed.parent k;
        events = closes.closed.events k;
        room = 0;
        values_room = 0;
      }

  all_read : (instances : List InstanceValue) (records : List RecordValue) → AllZip (Closes ps whole) instances records
      → map read records ≡ map (record_of whole) (map bare instances)
  all_read [] [] closes = refl
  all_read [] (trace ∷ records) closes = absurd closes
  all_read (i ∷ instances) [] closes = absurd closes
  all_read (i ∷ instances) (trace ∷ records) closes =
      ap (λ x. x ∷ map read records) (closed_read i trace closes.0)
      ∙ ap (λ list. record_of whole (bare i) ∷ list) (all_read instances records closes.1)

  -- what lacks nothing in the records lacks nothing in the instances
  none_lacks : (instances : List InstanceValue) (records : List RecordValue)
      → AllZip (Closes ps whole) instances records → All (λ (trace : RecordValue). LackNothing trace.events) records
      → All (λ (i : InstanceValue). LackNothing i.events) instances
  none_lacks [] [] closes all = All-nil (λ (i : InstanceValue). LackNothing i.events)
  none_lacks [] (trace ∷ records) closes all = absurd closes
  none_lacks (i ∷ instances) [] closes all = absurd closes
  none_lacks (i ∷ instances) (trace ∷ records) closes all =
      All-cons (λ (j : InstanceValue). LackNothing j.events) i instances
      (first_part i.events (closing whole i.position)
      (subst LackNothing closes.0.closed.events
      (All-head (λ (t : RecordValue). LackNothing t.events) trace records all)))
      (none_lacks instances records closes.1
      (All-tail (λ (t : RecordValue). LackNothing t.events) trace records all))

-- ---- one report

module _ (ps : List Behaviour) (lines : List ScriptLine) (limit : ℕ) (happenings others : List Happening)
    (last end : RunState) (same : transitions_of happenings ≡ transitions_of others) where
  one_whole : (whole whole' : Bool) (time time' : ℕ) → Ends whole ps lines limit happenings last time
      → Ends whole' ps lines limit others end time' → whole ≡ whole'
  one_whole true true time time' ends ends' = refl
  one_whole false false time time' ends ends' = refl
  one_whole true false time time' ends ends' =
      let fewer : transitions_of happenings < limit = ends.fewer in
      let many : transitions_of others ≡ limit = ends'.as_many in absurd (omega (arith, fewer, many, same))
  one_whole false true time time' ends ends' =
      let fewer : transitions_of others < limit = ends'.fewer in
      let many : transitions_of happenings ≡ limit = ends.as_many in absurd (omega (arith, fewer, many, same))

  one_time : (whole : Bool) (time time' : ℕ) → last.clock ≡ end.clock → Ends whole ps lines limit happenings last time
      → Ends whole ps lines limit others end time' → time ≡ time'
  one_time true time time' clock ends ends' = ends.is_end ∙ sym ends'.is_end
  one_time false time time' clock ends ends' = ends.is_end ∙ clock ∙ sym ends'.is_end

pub one_report : OneReport
one_report ps system lines limit one other both =
    let first : IsSerialReport ps system lines limit one = both.first in
    let second : IsSerialReport ps system lines limit other = both.second in
    let lack : ByNumber first.last.instances =
    by_number first.last.instances
    (none_lacks ps one.whole first.last.instances one.records.items first.records both.first_lacks) in
    let lack' : ByNumber second.last.instances =
    by_number second.last.instances
    (none_lacks ps other.whole second.last.instances other.records.items second.records both.second_lacks) in
    let up : length first.happenings < length second.happenings → ⊥ =
    not_longer ps system lines limit both.script first.happenings second.happenings first.last second.last first.execution
    second.execution lack lack' one.whole other.whole one.end other.end first.ends second.ends in
    let down : length second.happenings < length first.happenings → ⊥ =
    not_longer ps system lines limit both.script second.happenings first.happenings second.last first.last second.execution
    first.execution lack' lack other.whole one.whole other.end one.end second.ends first.ends in
    let same : AreSame first.happenings second.happenings first.last second.last =
    agree ps (end_of lines) (beginning system lines) first.execution second.execution lack lack'
    (level (length first.happenings) (length second.happenings) up down) in
    let made = transitions_same first.happenings second.happenings same.happened in
    let whole : one.whole ≡ other.whole =
    one_whole ps lines limit first.happenings second.happenings first.last second.last made one.whole other.whole
    one.end
    other.end first.ends second.ends in
    record {
      records = all_read ps one.whole first.last.instances one.records.items first.records
          ∙ (λ k. map (record_of (whole k)) (same.whole k).instances)
          ∙ sym (all_read ps other.whole second.last.instances other.records.items second.records);
      end = one_time ps lines limit first.happenings second.happenings first.last second.last made one.whole one.end
          other.end (ap (λ (g : RunState). g.clock) same.whole) first.ends
          (subst (λ w. Ends w ps lines limit second.happenings second.last other.end) (sym whole) second.ends);
      whole = whole;
    } where
      level : (a b : ℕ) → (a < b → ⊥) → (b < a → ⊥) → a ≡ b
      level a b up down = omega arith

-- ---- one text

module _ (system : SystemValue) where
  event_read : (trace : RecordValue) (e : Event) → event_text system (read trace) e ≡ event_text system trace e
  event_read trace (event.Start at) = refl
  event_read trace (event.Consumed at got) = refl
  event_read trace (event.Prior at got) = refl
  event_read trace (event.Discarded at got) = refl
  event_read trace (event.Provided at number) = refl
  event_read trace (event.FailedAt at why) = refl
  event_read trace (event.Task variable value) = refl
  event_read trace (event.Output signal named values target) = refl
  event_read trace (event.Set key due) = refl
  event_read trace (event.Reset key) = refl
  event_read trace (event.Create process number) = refl
  event_read trace (event.NextState state) = refl
  event_read trace event.Stop = refl
  event_read trace (event.Failed why) = refl
  event_read trace (event.Rest state) = refl
  event_read trace (event.Cut (Some state)) = refl
  event_read trace (event.Cut None) = refl

  lines_read : (trace : RecordValue) (events : List Event)
      → flat_map (event_line system (read trace)) events ≡ flat_map (event_line system trace) events
  lines_read trace [] = refl
  lines_read trace (e ∷ rest) =
      ap (λ text. line text ++ flat_map (event_line system (read trace)) rest) (event_read trace e)
      ∙ ap (λ text. event_line system trace e ++ text) (lines_read trace rest)

  record_read : (trace : RecordValue) → record_text system (read trace) ≡ record_text system trace
  record_read trace =
      ap (λ text. line (heading_text system trace) ++ text) (lines_read trace trace.events)

  records_read : (records : List RecordValue)
      → flat_map (record_text system) (map read records) ≡ flat_map (record_text system) records
  records_read [] = refl
  records_read (trace ∷ rest) =
      ap (λ text. text ++ flat_map (record_text system) (map read rest)) (record_read trace)
      ∙ ap (λ text. record_text system trace ++ text) (records_read rest)

  end_same : (one other : Report) → one.end ≡ other.end → one.whole ≡ other.whole → end_text one ≡ end_text other
  end_same one other end whole = cc

  text_same : (one other : Report) → IsSameReport one other → report_text system one ≡ report_text system other
  text_same one other same =
      ap (λ text. text ++ line (end_text one))
      (sym (records_read one.records.items) ∙ ap (λ list. flat_map (record_text system) list) same.records
      ∙ records_read other.records.items)
      ∙ ap (λ text. flat_map (record_text system) other.records.items ++ line text)
      (end_same one other same.end same.whole)

pub one_text : OneText
one_text ps system lines limit one other both =
    text_same system one other (one_report ps system lines limit one other both)

-- each of the two is the same as the report that is one for all behaviours
pub one_report_of_all : OneReportOfAll
one_report_of_all ps qs system lines limit of_all one other x =
    let by_first : AreOfOneRun ps system lines limit of_all one = record {
      script = x.script;
      first = x.all ps x.first_meant;
      second = x.first;
      first_lacks = x.all_lacks;
      second_lacks = x.first_lacks;
    } in
    let by_second : AreOfOneRun qs system lines limit of_all other = record {
      script = x.script;
      first = x.all qs x.second_meant;
      second = x.second;
      first_lacks = x.all_lacks;
      second_lacks = x.second_lacks;
    } in
    let a = one_report ps system lines limit of_all one by_first in
    let b = one_report qs system lines limit of_all other by_second in (
      record { records = sym a.records ∙ b.records; end = sym a.end ∙ b.end; whole = sym a.whole ∙ b.whole },
      sym (one_text ps system lines limit of_all one by_first) ∙ one_text qs system lines limit of_all other by_second,
    )
