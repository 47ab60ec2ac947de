-- A report is settled: all that was tested, counted and kept by types says so.
use Rattle.std.proofs.Common.{◌≡◌, ◌∙◌, ◌<◌, ◌+◌, ap, get_or, length, subst, sym, take, ℕ, List, [], Option, Some}
use Rattle.std.specs.Prelude.{Contains}
use Rattle.std.specs.declared.alloc.Global.{Global}
use Rattle.std.proofs.lemmas.List.Elements.{All-contains_itself, All-get_or, All-weaker}
use Rattle.crossbeam_queue.specs.SegTies.{SegId}
use Rattle.input_port.specs.Counts.{signals_in}
use Rattle.input_port.specs.Ends.{HeldState}
use Rattle.port_model.specs.declared.values.item.Item.{Item}
use Rattle.port_model.specs.declared.values.pid.Pid.TheVariants.{Env}
use Rattle.run_record.specs.Record.{RecordValue}
use Rattle.run_record.specs.declared.record.Report.{Report}
use Rattle.run_semantics.specs.Behaves.{AreBehaviours}
use Rattle.sdl_script.specs.declared.script.ScriptLine.{ScriptLine}
use Rattle.sdl_system.specs.Behaviour.{Behaviour}
use Rattle.sdl_system.specs.System.{SystemValue}
use Rattle.sdl_system.specs.declared.route.Target.{Target}
use Rattle.settle_checks.specs.Account.{AreCompared, ArePlaces, AreTimed, CountedHavePut, HasPut, HaveSignals, put_at}
use Rattle.settle_checks.specs.Ending.{IsEnding}
use Rattle.settle_checks.specs.Outputs.{targets_of}
use Rattle.settle_closing.specs.ClosingLaws.{ClosedHaveHistories, ClosedHavePut}
use Rattle.settle_closing.specs.History.{HasHistoryOf}
use Rattle.settle_closing.specs.Left.{IsLeftOfOne}
use Rattle.settle_closing.specs.declared.ending.PortThen.{PortThen}
use Rattle.settle_meaning.specs.Order.{AreInOrder}
use Rattle.settle_meaning.specs.Puts.{ArePut, Heard, IsNamed, heard_by, signals_heard, signals_of}
use Rattle.settle_meaning.specs.Settled.{IsSettledOne, IsSettledReport}
use Rattle.settle_meaning.specs.Timers.{AreDue}
use Rattle.settle_meaning.specs.Times.{AreRisingFrom}
use Rattle.settle_run.proofs.GiftLemmas.{are_given}
use Rattle.settle_run.specs.Gifts.{AreAllGiven, children_at, given_at}
use Rattle.settle_run.specs.Parts.{AreParts, AreSettledPorts, IsSettledPort, owner_at}
use Rattle.threads_shared.specs.Environment.{IsHeardBy}
use Rattle.threads_instance.specs.declared.doings.Gifts.{Gifts}
use Rattle.threads_ports.specs.Peers.{ArePeers, PeersState}

module _ (closed_have_histories : ClosedHaveHistories) (closed_have_put : ClosedHavePut)
    (counted_have_put : CountedHavePut) (named : Option SystemValue) (ports : ℕ → SegId Global)
    (system : SystemValue) (lines : List ScriptLine) (line limit : ℕ) (targets : List Target) (environment : PeersState)
    (report : Report) (gifts : List Gifts) (inboxes : List HeldState) (thens : List PortThen) (places : List PeersState)
    (is : named ≡ Some system) (by_lines : IsHeardBy lines line targets environment)
    (parts : AreParts named ports report.whole environment report.records.items gifts inboxes thens places)
    (compared : AreCompared system lines by_lines.heard report.records.items places)
    (ended : IsEnding report.whole lines limit by_lines.heard report.records.items report.end)
    (settled : AreSettledPorts (put_at places) (owner_at inboxes) (length places) report.whole report.end
    report.records.items)
    (given : AreAllGiven report.records.items gifts) where
  abbrev records : List RecordValue
  records = report.records.items

  abbrev heard : List Heard
  heard = by_lines.heard

  module _ (ps : List Behaviour) (meant : AreBehaviours system ps) where
    -- what each place has put ends what is sent from there
    are_places : ArePlaces heard records places
    are_places = record {
      long = parts.places_long;
      environment = subst (λ (peers : PeersState). ArePeers Env (heard_by heard) peers) (sym parts.environment_is)
          by_lines.put;
      instances = λ k d within.
          let left : IsLeftOfOne named ports report.whole (get_or records k d) (owner_at inboxes k)
          (get_or places (k + 1) []) (given_at gifts k) (children_at gifts k) = parts.left k d within in
          closed_have_put named ports report.whole left.instance (get_or records k d) (owner_at inboxes k)
          (get_or places (k + 1) []) (given_at gifts k) (children_at gifts k) ps system is meant left.left;
    }

    -- each record has a history of its port, into which all was put that was sent there, and was taken in time
    settled_one : (k : ℕ) (d : RecordValue) → k < length records
        → IsSettledOne ps system lines heard given.given report.whole report.end records (get_or records k d)
    settled_one k d within =
        let trace : RecordValue = get_or records k d in
        let left : IsLeftOfOne named ports report.whole trace (owner_at inboxes k) (get_or places (k + 1) [])
        (given_at gifts k) (children_at gifts k) = parts.left k d within in
        let port : IsSettledPort (put_at places trace.pid) (length places) report.whole report.end (owner_at inboxes k)
        trace = settled k d within in
        let history : HasHistoryOf ps system report.whole report.end trace port.owner.drawn (given_at gifts k)
        (children_at gifts k) =
        closed_have_histories named ports report.whole left.instance trace (owner_at inboxes k) port.owner
        (get_or places (k + 1) []) (given_at gifts k) (children_at gifts k) ps system report.end is meant left.left
        port.counted.draws port.kept port.ends in
        let has : HasPut lines heard records trace (signals_in port.owner.drawn) =
        counted_have_put lines heard records places trace (owner_at inboxes k) port.owner compared.made.rising are_places
        compared.put compared.heard_put compared.ordered
        (All-get_or (Contains records) records k d within (All-contains_itself records)) port.counted in
        record {
          has = record {
            history = history.history;
            port = history.port;
            legal = history.legal;
            run = history.run;
            put = subst (λ (puts : List Item). ArePut (IsNamed heard) heard records trace puts) (sym history.puts)
                has.put;
            in_time = history.in_time;
            sets = history.sets;
            closes = history.closes;
          };
          given_are = are_given given.given trace (given_at gifts k) (children_at gifts k) history.run.values
              history.run.deeds history.begins history.created (given.each k d within);
          in_order = subst (λ (puts : List Item). AreInOrder lines heard records trace puts) (sym history.puts)
              has.in_order;
          rests = history.rests;
        }

  pub is_settled : IsSettledReport system lines limit report
  is_settled = record {
    heard = heard;
    given = given.given;
    accounted = record {
      made = compared.made;
      nulls = compared.nulls;
      started = compared.started;
      within = compared.within;
      outputs = compared.outputs;
      signals = compared.signals;
      rising = All-weaker AreTimed (λ (trace : RecordValue). AreRisingFrom 0 trace.events)
          (λ trace timed. timed.rising) records compared.timed;
      due = All-weaker AreTimed (λ (trace : RecordValue). AreDue trace.events) (λ trace timed. timed.due) records
          compared.timed;
      ended = ended.ended;
      ends = ended.ends;
      is_end = ended.is_end;
    };
    each = λ ps meant. settled_one ps meant;
  }

-- so it is by what was tested on the same values under other names
module _ (closed_have_histories : ClosedHaveHistories) (closed_have_put : ClosedHavePut)
    (counted_have_put : CountedHavePut) (named : Option SystemValue) (ports : ℕ → SegId Global)
    (system : SystemValue) (lines : List ScriptLine) (line limit : ℕ) (targets : List Target) (environment : PeersState)
    (report : Report) (gifts : List Gifts) (inboxes : List HeldState) (thens : List PortThen) (places : List PeersState)
    (is : named ≡ Some system) (by_lines : IsHeardBy lines line targets environment)
  where
    abbrev of_report : List RecordValue
    of_report = report.records.items

    pub report_settled : (senders : PeersState) (all first : List ScriptLine) (count long : ℕ) (went : List Target)
        (traces : List RecordValue) (peers : List PeersState) → senders ≡ environment
        → AreParts named ports report.whole senders of_report gifts inboxes thens places → all ≡ lines → count ≡ line
        → first ≡ take count all → went ≡ targets → traces ≡ of_report → peers ≡ places → long ≡ length places
        → ((heard : List Heard) → signals_heard heard ≡ signals_of first → targets_of heard ≡ went
        → HaveSignals heard all → AreCompared system all heard traces peers)
        → ((heard : List Heard) → signals_heard heard ≡ signals_of (take count all)
        → IsEnding report.whole all limit heard traces report.end)
        → AreSettledPorts (put_at places) (owner_at inboxes) long report.whole report.end traces
        → AreAllGiven of_report gifts → IsSettledReport system lines limit report
    report_settled senders all first count long went traces peers senders_are parts all_is count_is first_is went_is
        traces_are peers_are long_is compares ends settled given =
        let heard : List Heard = by_lines.heard in
        let taken : take count all ≡ take line lines =
        ap (λ n. take n all) count_is ∙ ap (λ (l : List ScriptLine). take line l) all_is in
        let of_all : signals_heard heard ≡ signals_of (take line all) =
        by_lines.signals ∙ ap (λ (l : List ScriptLine). signals_of (take line l)) (sym all_is) in
        let compared : AreCompared system lines heard of_report places =
        subst (λ (l : List ScriptLine). AreCompared system l heard of_report places) all_is
        (subst (λ (l : List PeersState). AreCompared system all heard of_report l) peers_are
        (subst (λ (l : List RecordValue). AreCompared system all heard l peers) traces_are
        (compares heard (by_lines.signals ∙ ap signals_of (sym (first_is ∙ taken)))
        (by_lines.targets_are ∙ sym went_is) (line, of_all)))) in
        let ended : IsEnding report.whole lines limit heard of_report report.end =
        subst (λ (l : List ScriptLine). IsEnding report.whole l limit heard of_report report.end) all_is
        (subst (λ (l : List RecordValue). IsEnding report.whole all limit heard l report.end) traces_are
        (ends heard (by_lines.signals ∙ ap signals_of (sym taken)))) in
        let counted : AreSettledPorts (put_at places) (owner_at inboxes) (length places) report.whole report.end of_report =
        subst
        (λ n. AreSettledPorts (put_at places) (owner_at inboxes) n report.whole report.end of_report)
        long_is
        (subst
        (λ (l : List RecordValue). AreSettledPorts (put_at places) (owner_at inboxes) long report.whole report.end l)
        traces_are settled) in
        is_settled closed_have_histories closed_have_put counted_have_put named ports system lines line limit targets
        environment report gifts inboxes thens places is by_lines
        (subst (λ (p : PeersState). AreParts named ports report.whole p of_report gifts inboxes thens places) senders_are
        parts)
        compared ended counted given
