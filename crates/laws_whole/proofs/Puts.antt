-- What is put into the port of an instance is what was sent to it, but for what was sent before it was there.
use Rattle.std.proofs.Common.{◌≡◌, ◌∙◌, ◌⊎◌, ◌++◌, ◌+◌, ◌<◌, ◌≤◌, ap, append-nil, arith, cond, if◌then◌else◌, inl, inr, refl, subst, sym, ℕ, zero, suc, Bool, true, false, All, Contains, IfSome, List, [], ◌∷◌, None, Option, Some, map, slice_get}
use Rattle.std.proofs.lemmas.Bool.{cases_lt}
use Rattle.std.proofs.lemmas.List.Elements.{All-head, All-tail, All-weaker, Contains-append_left}
use Rattle.std.proofs.lemmas.Option.{none-some, slice_get-map}
use Rattle.std.specs.Option.{option_map}
use Rattle.laws_creates.proofs.Creates.{step_effects}
use Rattle.laws_creates.specs.Creates.{created_in, created_in_one, identities}
use Rattle.laws_whole.proofs.Course.{IsOf, record_of, whos_are}
use Rattle.laws_whole.proofs.Cuts.{AreOrderly, Cut, IsSentTo, all_behind, all_cut, all_there, cut_more, sent_before, since_create}
use Rattle.laws_whole.proofs.Hearing.{SendsItsSignal, all_send, heard_of, line_effects, one_sends}
use Rattle.laws_whole.proofs.Lists.{all_numbered, at_front}
use Rattle.laws_whole.proofs.Occurs.{Occurs, all_occur}
use Rattle.laws_whole.proofs.ScriptPuts.{EnvEnd, env_end, env_there}
use Rattle.laws_whole.proofs.Senders.{PutsSo, all_so, contains_pid, deeds_so, own_puts}
use Rattle.laws_whole.proofs.Sending.{AreSent, sent_to-append}
use Rattle.laws_whole.proofs.Steps.{all_orderly}
use Rattle.laws_whole.proofs.Whos.{born, front_before}
use Rattle.port_model.specs.History.{Expire, PortEvent, Put, Reset, Set, Stop, Take}
use Rattle.port_model.specs.Same.{same_pid}
use Rattle.port_model.specs.declared.values.item.Item.{Item}
use Rattle.port_model.specs.declared.values.pid.Pid.{Pid}
use Rattle.port_model.specs.declared.values.pid.Pid.TheVariants as pid
use Rattle.port_model.specs.declared.values.pid.Pid.TheVariants.{Of}
use Rattle.run_record.specs.declared.evaluation.identity.Identity.{Identity}
use Rattle.run_record.specs.Event as event
use Rattle.run_record.specs.Event.{Event}
use Rattle.run_record.specs.Record.{RecordValue}
use Rattle.run_record.specs.declared.record.Report.{Report}
use Rattle.run_semantics.specs.Behaves.{AreBehaviours}
use Rattle.run_semantics.specs.Effect.{Deed, Effect, calls_of, events_of}
use Rattle.run_semantics.specs.Sent.{sent_to}
use Rattle.sdl_interp.specs.declared.transitions.machine.Position.{Position}
use Rattle.sdl_interp.specs.declared.transitions.machine.Position.TheVariants as position
use Rattle.sdl_interp.specs.Instance.{InstanceValue, closing}
use Rattle.sdl_script.specs.Script.{end_of}
use Rattle.sdl_script.specs.declared.script.ScriptLine.{ScriptLine}
use Rattle.sdl_script.specs.declared.script.ScriptSignal.{ScriptSignal}
use Rattle.sdl_system.specs.Behaviour.{Behaviour}
use Rattle.sdl_system.specs.System.{SystemValue}
use Rattle.sdl_system.specs.declared.route.Dest.TheVariants as dest
use Rattle.sdl_system.specs.declared.route.Target.{Target}
use Rattle.sdl_system.specs.declared.route.Target.TheVariants as target
use Rattle.serial_order.specs.Execution.{Expired, Happening, Heard, Hears, Moved, Steps, Ticked}
use Rattle.serial_order.specs.Laws.{AreFromEnv, EachIsMatched, EachIsTold, LinesAreHeard}
use Rattle.serial_order.specs.Report.{IsSerialReport}
use Rattle.serial_order.specs.RunState.{instance_at}
use Rattle.serial_order.specs.Told as told
use Rattle.serial_order.specs.Told.{Moment, deeds_of, first_moment, from, history_of, is_from, lines_of, sends_from}
use Rattle.settle_meaning.specs.Histories.{puts_of}
use Rattle.settle_meaning.specs.Identities.{identities_of, identity_of}
use Rattle.settle_meaning.specs.Puts as puts
use Rattle.settle_meaning.specs.Puts.{ArePut, EndsWith, IsNamed, IsOfOne, IsPutBy, IsPutByEnv, MayMiss, MayMissHeard, heard_by, sent_by}

-- ---- two tables say it in the same words

same_puts : (history : List PortEvent) → told.puts_of history ≡ puts_of history
same_puts [] = refl
same_puts (Put item ∷ rest) = ap (λ (l : List Item). item ∷ l) (same_puts rest)
same_puts (Expire key arm due at ∷ rest) = same_puts rest
same_puts (Take classes taken ∷ rest) = same_puts rest
same_puts (Set key due arm ∷ rest) = same_puts rest
same_puts (Reset key ∷ rest) = same_puts rest
same_puts (Stop ∷ rest) = same_puts rest

same_sender : (m : ℕ) (sender : Pid) → is_from (Of m) sender ≡ same_pid sender (Of m)
same_sender m pid.Null = refl
same_sender m pid.Env = refl
same_sender m (Of k) = refl

same_env : (sender : Pid) → is_from pid.Env sender ≡ same_pid sender pid.Env
same_env pid.Null = refl
same_env pid.Env = refl
same_env (Of k) = refl

from_is : (one : Pid) → ((sender : Pid) → is_from one sender ≡ same_pid sender one) → (items : List Item)
    → sent_by one items ≡ from one items
from_is one same [] = refl
from_is one same (item ∷ rest) =
    ap (λ (b : Bool). cond b (item ∷ sent_by one rest) (sent_by one rest)) (sym (same item.sender))
    ∙ by_test (is_from one item.sender) (from_is one same rest) where
      by_test : (b : Bool) → sent_by one rest ≡ from one rest
          → cond b (item ∷ sent_by one rest) (sent_by one rest)
          ≡ (if b then item ∷ from one rest else from one rest)
      by_test true more = ap (λ (l : List Item). item ∷ l) more
      by_test false more = more

-- ---- the report

module _ (ps : List Behaviour) (system : SystemValue) (lines : List ScriptLine) (limit : ℕ) (report : Report)
    (behaviours : AreBehaviours system ps) (env : AreFromEnv lines)
    (run : IsSerialReport ps system lines limit report) (each_told : EachIsTold) (matched : EachIsMatched)
    (lines_heard : LinesAreHeard) where
  abbrev records : List RecordValue
  records = report.records.items

  abbrev time : ℕ
  time = end_of lines

  abbrev now : Moment
  now = first_moment system

  abbrev heard : List puts.Heard
  heard = heard_of run.happenings

  orderly : AreOrderly system now run.happenings
  orderly = (all_orderly ps system lines time run.execution).orderly

  sends : All SendsItsSignal run.happenings
  sends = all_send ps system lines time run.happenings run.execution

  whos : identities_of records ≡ identities run.last.instances
  whos = whos_are ps system lines limit report behaviours run each_told

  -- ---- the senders

  place_of_number : (xs : List InstanceValue) (n : ℕ) (i : InstanceValue) → instance_at xs n ≡ Some i
      → (k : ℕ) × (slice_get xs k ≡ Some i)
  place_of_number xs zero i there = absurd (none-some i there)
  place_of_number xs (suc k) i there = (k, there)

  is_of_record : (who : Identity) (deeds : List Deed)
      (occurs : Occurs ps system lines time run.happenings (Moved who deeds))
      → Contains (map (λ (trace : RecordValue). Of trace.pid) records) (Of who.pid)
  is_of_record who deeds occurs =
      let step : Steps ps occurs.at who deeds occurs.to = occurs.follows in
      let xs : List InstanceValue = occurs.at.instances in
      let place : (k : ℕ) × (slice_get xs k ≡ Some step.old) = place_of_number xs who.pid step.old step.is_there in
      let own : slice_get (identities xs) place.0 ≡ Some who =
      slice_get-map (λ (j : InstanceValue). j.who) xs place.0
      ∙ ap (λ (o : Option InstanceValue). option_map (λ (j : InstanceValue). j.who) o) place.1
      ∙ ap Some step.is_who in
      let later : List Identity = created_in_one (Moved who deeds) ++ created_in occurs.after in
      contains_pid records place.0 who
      (ap (λ (l : List Identity). slice_get l place.0)
      (whos ∙ front_before ps system lines time run.execution (Moved who deeds) occurs)
      ∙ at_front (identities xs) later place.0 who own)

  line_so : (o : Option ScriptSignal) (to : Target) → IfSome o (λ (s : ScriptSignal). s.item.sender ≡ pid.Env)
      → AreSent (λ (item : Item). IsOfOne records item) (line_effects o to)
  line_so None to is = tt
  line_so (Some signal) to is = (inl is, tt)

  all_middle : (before : List ScriptLine) (line : ScriptLine) (after : List ScriptLine)
      → AreFromEnv (before ++ line ∷ after) → IfSome line.signal (λ (s : ScriptSignal). s.item.sender ≡ pid.Env)
  all_middle [] line after all =
      All-head (λ (line : ScriptLine). IfSome line.signal (λ (s : ScriptSignal). s.item.sender ≡ pid.Env)) line after
      all
  all_middle (other ∷ before) line after all =
      all_middle before line after
      (All-tail (λ (line : ScriptLine). IfSome line.signal (λ (s : ScriptSignal). s.item.sender ≡ pid.Env)) other
      (before ++ line ∷ after) all)

  happening_so : (next : Happening) → Occurs ps system lines time run.happenings next
      → PutsSo (λ (item : Item). IsOfOne records item) next
  happening_so (Moved who deeds) occurs =
      let step : Steps ps occurs.at who deeds occurs.to = occurs.follows in (
        ap (λ (list : List Deed). told.puts_of (calls_of list)) (sym step.deeds_are)
            ∙ ap told.puts_of (sym step.goes.own) ∙ own_puts step.goes.history,
        deeds_so (λ (item : Item). IsOfOne records item) who.pid
            (λ item is. inr (subst (λ (p : Pid). Contains (map (λ (trace : RecordValue). Of trace.pid) records) p)
            (sym is)
            (is_of_record who deeds occurs))) deeds
            (step_effects ps occurs.at who deeds occurs.to occurs.follows),
      )
  happening_so (Expired fuse) occurs = tt
  happening_so (Heard line effects) occurs =
      let hears : Hears occurs.at line effects occurs.to = occurs.follows in
      let one : SendsItsSignal (Heard line effects) = one_sends ps system lines time run.happenings (Heard line effects)
      occurs in
      let parts : lines_of occurs.before ++ line ∷ hears.later ≡ lines =
      ap (λ (l : List ScriptLine). lines_of occurs.before ++ l) (sym hears.next)
      ∙ lines_heard ps system lines time occurs.before occurs.at behaviours occurs.execution in
      subst (λ (l : List Effect). AreSent (λ (item : Item). IsOfOne records item) l) (sym one.1)
      (line_so line.signal one.0
      (all_middle (lines_of occurs.before) line hears.later
      (subst (λ (l : List ScriptLine). AreFromEnv l) (sym parts) env)))
  happening_so (Ticked at) occurs = tt

  no_others : (n : ℕ) → All (λ (item : Item). IsOfOne records item) (told.puts_of (history_of system n run.happenings))
  no_others n =
      all_so (λ (item : Item). IsOfOne records item) n now run.happenings
      (All-weaker (Occurs ps system lines time run.happenings) (PutsSo (λ (item : Item). IsOfOne records item))
      happening_so run.happenings (all_occur ps system lines time run.execution))

  -- ---- one port

  closing_sends : (m n : ℕ) (whole : Bool) (at : Position) → sent_to m (closing whole at) n ≡ []
  closing_sends m n whole position.BeforeStart = refl
  closing_sends m n true (position.In state) = refl
  closing_sends m n false (position.In state) = refl
  closing_sends m n whole position.Ended = refl

  -- who the instance of a record is
  who_at : (k : ℕ) (trace : RecordValue) → slice_get records k ≡ Some trace
      → slice_get (identities run.last.instances) k ≡ Some (identity_of trace)
  who_at k trace there =
      ap (λ (l : List Identity). slice_get l k) (sym whos)
      ∙ slice_get-map identity_of records k
      ∙ ap (λ (o : Option RecordValue). option_map identity_of o) there

  null_of : (m : ℕ) → pid.Null ≡ Of m → ⊥
  null_of m same = cc

  same_of : (m n : ℕ) → Of m ≡ Of n → m ≡ n
  same_of m n same = cc

  -- one that is not there from the beginning on was created
  is_made : (k : ℕ) (trace : RecordValue) → slice_get records k ≡ Some trace → now.given < suc k
      → trace.parent ≡ pid.Null → ⊥
  is_made k trace there beyond null =
      elim (born ps system lines time run.happenings run.execution k (identity_of trace) (who_at k trace there)) [
        | inl initial ↦ let wrong : ⊥ = omega (arith, initial.0, beyond) in wrong
        | inr made ↦ null_of made.1.0 (sym null ∙ made.1.1)
      ]

  -- the parent of an instance has a lesser number
  no_child : (j n : ℕ) (trace : RecordValue) → slice_get records j ≡ Some trace → trace.pid < n → trace.parent ≡ Of n
      → ⊥
  no_child j n trace there less parent =
      elim (born ps system lines time run.happenings run.execution j (identity_of trace) (who_at j trace there)) [
        | inl initial ↦ null_of n (sym initial.1 ∙ parent)
        | inr made ↦
            let same : made.1.0 ≡ n = same_of made.1.0 n (sym made.1.1 ∙ parent) in
            let before : made.1.0 < trace.pid = made.1.2 in
            let wrong : ⊥ = omega (arith, same, before, less) in
            wrong
      ]

  module _ (Known : ℕ → Type 0) (by_script : (n : ℕ) → IsNamed heard n → Known n)
      (by_output : (n j : ℕ) (one : RecordValue) → slice_get records j ≡ Some one → IsSentTo n one.events → Known n)
      (k : ℕ) (to : RecordValue) (to_there : slice_get records k ≡ Some to) where
    to_of : IsOf ps system lines limit report behaviours run each_told (suc k) to
    to_of = record_of ps system lines limit report behaviours run each_told k to to_there

    abbrev n : ℕ
    n = suc k

    first : 0 < n
    first = omega arith

    abbrev put : List Item
    put = told.puts_of (history_of system n run.happenings)

    module _ (j : ℕ) (from_one : RecordValue) (from_there : slice_get records j ≡ Some from_one) where
      from_of : IsOf ps system lines limit report behaviours run each_told (suc j) from_one
      from_of = record_of ps system lines limit report behaviours run each_told j from_one from_there

      abbrev m : ℕ
      m = suc j

      abbrev sent : List Item
      sent = sends_from (Of m) n now run.happenings

      cut : Cut m n from_one.events sent
      cut =
          subst (λ (l : List Event). Cut m n l sent) (sym from_of.events)
          (cut_more m n (events_of (deeds_of m run.happenings)) (closing report.whole from_of.i.position) sent
          (closing_sends m n report.whole from_of.i.position) (all_cut system m n first now run.happenings orderly))

      all_sent : sent_to m from_one.events n ≡ sent_to m (events_of (deeds_of m run.happenings)) n
      all_sent =
          ap (λ (l : List Event). sent_to m l n) from_of.events
          ∙ sent_to-append m n (events_of (deeds_of m run.happenings)) (closing report.whole from_of.i.position)
          ∙ ap (λ (l : List Item). sent_to m (events_of (deeds_of m run.happenings)) n ++ l)
          (closing_sends m n report.whole from_of.i.position)
          ∙ append-nil (sent_to m (events_of (deeds_of m run.happenings)) n)

      -- what is missing of what one sends to another
      record Missing : Type 0 where
        missing : List Item
        all : sent_to m from_one.events n ≡ missing ++ sent
        allowed : (missing ≡ []) ⊎ MayMiss Known from_one to

      none_missing : sent ≡ sent_to m (events_of (deeds_of m run.happenings)) n → Missing
      none_missing full = record { missing = []; all = all_sent ∙ sym full; allowed = inl refl }

      some_missing : m < n → now.given < n → (sent_to m cut.early n ≡ []) ⊎ IsSentTo n cut.early → Missing
      some_missing less beyond before = record {
        missing = sent_to m cut.early n;
        all = ap (λ (l : List Event). sent_to m l n) cut.events_are
            ∙ sent_to-append m n cut.early cut.late
            ∙ ap (λ (l : List Item). sent_to m cut.early n ++ l) (sym cut.put_is);
        allowed = by_sent before;
      } where
        -- an output of its record names the number
        in_record : IsSentTo n cut.early → IsSentTo n from_one.events
        in_record one = record {
          signal = one.signal;
          values = one.values;
          among = subst
              (λ (l : List Event). Contains l
              (event.Output one.signal (dest.Pid (Of n)) one.values (target.Instance n)))
              (sym cut.events_are)
              (Contains-append_left cut.early cut.late
              (event.Output one.signal (dest.Pid (Of n)) one.values (target.Instance n)) one.among);
        }

        by_sent : (sent_to m cut.early n ≡ []) ⊎ IsSentTo n cut.early
            → (sent_to m cut.early n ≡ []) ⊎ MayMiss Known from_one to
        by_sent (inl nothing) = inl nothing
        by_sent (inr one) =
            inr (record {
              created = is_made k to to_there beyond;
              other = λ same. let wrong : ⊥ = omega (arith, less, same, from_of.number, to_of.number) in wrong;
              no_parent = λ is.
                  no_child j to.pid from_one from_there (omega (arith, less, from_of.number, to_of.number)) is;
              known = subst (λ a. Known a) (sym to_of.number) (by_output n j from_one from_there (in_record one));
            })

      by_cases : (n < m + 1) ⊎ (m + 1 ≤ n) → (now.given < n) ⊎ (n ≤ now.given) → Missing
      by_cases (inl behind) other = none_missing (all_behind system m n first behind now run.happenings orderly)
      by_cases (inr before) (inl beyond) = some_missing (omega (arith, before)) beyond
          (sent_before m n cut.early cut.is_before)
      by_cases (inr before) (inr within) =
          none_missing (all_there system m n first now run.happenings orderly (omega (arith, within)))

      put_from : sent_by (Of m) put ≡ sent
      put_from =
          from_is (Of m) (same_sender m) put
          ∙ matched ps system lines time run.happenings run.last behaviours run.execution env (Of m) n

      is_put_by : IsPutBy Known from_one to (sent_by (Of from_one.pid) put)
      is_put_by =
          let found : Missing = by_cases (cases_lt n (m + 1)) (cases_lt now.given n) in
          let put_is : sent_by (Of from_one.pid) put ≡ sent =
          ap (λ a. sent_by (Of a) put) from_of.number ∙ put_from in
          subst (λ (l : List Item). IsPutBy Known from_one to l) (sym put_is) (record {
            missing = found.missing;
            all = ap (λ a. sent_to a from_one.events to.pid) from_of.number
                ∙ ap (λ a. sent_to m from_one.events a) to_of.number ∙ found.all;
            allowed = found.allowed;
            since = λ before later process is.
                let since_n : EndsWith sent (sent_to m later n) =
                since_create m n from_one.events sent cut before later process
                (is ∙ ap (λ a. before ++ event.Create process (Some a) ∷ later) to_of.number) in
                subst (λ (l : List Item). EndsWith sent l)
                (sym (ap (λ a. sent_to a later to.pid) from_of.number ∙ ap (λ a. sent_to m later a) to_of.number))
                since_n;
          })

    env_sent : sent_by pid.Env put ≡ sends_from pid.Env n now run.happenings
    env_sent =
        from_is pid.Env same_env put
        ∙ matched ps system lines time run.happenings run.last behaviours run.execution env pid.Env n

    env_put : (now.given < n) ⊎ (n ≤ now.given) → IsPutByEnv Known heard to (sends_from pid.Env n now run.happenings)
    env_put (inl beyond) =
        let end : EnvEnd n first now run.happenings = env_end n first system now run.happenings orderly sends in
        record {
          missing = end.missing;
          all = ap (λ a. heard_by heard a) to_of.number ∙ end.all;
          allowed = elim end.named [
            | inl nothing ↦ inl nothing
            | inr named ↦
                inr (record {
                  created = is_made k to to_there beyond;
                  known = subst (λ a. Known a) (sym to_of.number) (by_script n named);
                })
          ];
        }
    env_put (inr within) = record {
      missing = [];
      all = ap (λ a. heard_by heard a) to_of.number
          ∙ sym (env_there n first now run.happenings sends (omega (arith, within)));
      allowed = inl refl;
    }

    are_put_told : ArePut Known heard records to put
    are_put_told = record {
      instances = all_numbered (λ (from_one : RecordValue). IsPutBy Known from_one to (sent_by (Of from_one.pid) put))
          records
          (λ j from_one from_there. is_put_by j from_one from_there);
      environment = subst (λ (l : List Item). IsPutByEnv Known heard to l) (sym env_sent)
          (env_put (cases_lt now.given n));
      no_other = no_others n;
    }

    -- what is put into the port of an instance was sent there, and what was sent is put
    pub are_put : ArePut Known heard records to (puts_of (history_of system n run.happenings))
    are_put =
        subst (λ (l : List Item). ArePut Known heard records to l) (same_puts (history_of system n run.happenings))
        are_put_told
