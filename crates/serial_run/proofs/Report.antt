-- A run begins as the serial order says, and what it comes to is a serial report.
use Rattle.std.proofs.Common.{◌≡◌, ◌⊎◌, ◌∙◌, ◌+◌, ◌<◌, ◌++◌, Bool, true, false, IsTrue, ℕ, List, [], ◌∷◌, All, None, Option, Some, refl, inl, inr, sym, ap, append-nil, subst, arith, length}
use Rattle.std.specs.Prelude.{if◌then◌else◌}
use Rattle.std.specs.List.{AllZip}
use Rattle.std.proofs.lemmas.List.Elements.{All-head, All-tail}
use Rattle.port_model.specs.KeptWords.{IsKeptOf}
use Rattle.run_semantics.specs.Behaves.{AreBehaviours}
use Rattle.port_model.specs.declared.inbox.entry.Fuse.{Fuse}
use Rattle.serial_order.specs.Execution.{Execution, EndsInTransition, Happening, IsNoFuseBefore, IsNoLineBefore, Rests, transitions_of}
use Rattle.serial_order.specs.RunState.{RunState, beginning, first_instances}
use Rattle.serial_order.specs.Report.{Closes, Ends}
use Rattle.serial_run.specs.Serial.{IsOfSystem, IsSerial, state_of}
use Rattle.serial_run.specs.Thinned.{IsThinned}
use Rattle.serial_run.specs.declared.instances.Instances.{Instances}
use Rattle.sdl_interp.specs.Instance.{InstanceValue, IsAtRest, IsClosed}
use Rattle.run_record.specs.Record.{RecordValue}
use Rattle.run_record.specs.declared.record.Report.{Report}
use Rattle.sdl_script.specs.Script.{end_of}
use Rattle.sdl_script.specs.declared.script.ScriptLine.{ScriptLine}
use Rattle.serial_run.specs.Advances.{Advances, Reaches}
use Rattle.serial_run.specs.Clearing.{with_all}
use Rattle.serial_run.specs.ExecutionLaws.{behind, execution_append, tellers_of-append, transitions_of-append}
use Rattle.serial_run.specs.Meanings.{all_rest, meaning}
use Rattle.serial_run.specs.Told.{IsSerialRun, NotesThese, tellers_of}
use Rattle.serial_run.specs.Winding.{Wound, wound}
use Rattle.serial_sweeps.specs.Sweeps.{Moment, until, until_of}
use Rattle.sdl_system.specs.Behaviour.{Behaviour}
use Rattle.sdl_system.specs.System.{SystemValue}

-- the first instances, at the first moment
pub begins_so : (system : SystemValue) (lines : List ScriptLine) (m : Moment) (a : Instances) → m.clock ≡ 0
    → m.begun ≡ false → m.turn ≡ 0 → m.bound ≡ length a.instances.items → m.fuses ≡ [] → m.script ≡ lines
    → a.system.now ≡ system → a.instances.items ≡ first_instances system 1 0 system.processes
    → state_of m a ≡ beginning system lines
begins_so system lines m a clock begun turn bound fuses script same instances =
    let all = bound ∙ ap length instances in
    λ i. record {
      system = same i;
      clock = clock i;
      until = until_of (begun i) (clock i);
      instances = instances i;
      turn = turn i;
      bound = all i;
      fuses = fuses i;
      script = script i;
    }

-- the records of instances of the system
closes_all : (ps : List Behaviour) (system : SystemValue) (whole : Bool) (instances : List InstanceValue)
    (records : List RecordValue) → AreBehaviours system ps → All (IsOfSystem system) instances
    → AllZip (IsClosed false whole) instances records → AllZip (Closes ps whole) instances records
closes_all ps system whole [] [] behaviours members closed = closed
closes_all ps system whole [] (trace ∷ more) behaviours members closed = absurd closed
closes_all ps system whole (i ∷ rest) [] behaviours members closed = absurd closed
closes_all ps system whole (i ∷ rest) (trace ∷ more) behaviours members closed =
    let known = meaning ps system i behaviours (All-head (IsOfSystem system) i rest members) in (
      record { p = known.p; meant = known.meant; closed = closed.0 },
      closes_all ps system whole rest more behaviours (All-tail (IsOfSystem system) i rest members) closed.1,
    )

-- what a whole run ensures
abbrev pub IsWhole : ℕ → Moment → Instances → Type 0
IsWhole last n b = All IsAtRest b.instances.items × (n.script ≡ []) × IsNoFuseBefore (last + 1) n.fuses × (0 < n.left)

-- what a run comes to at its end: an execution that ends as a report does, with the instances of the run
record Ended (ps : List Behaviour) (system : SystemValue) (lines : List ScriptLine) (limit : ℕ) (b : Instances)
    (k l : Option (List ℕ)) (whole : Bool) (end : ℕ) : Type 0 where
  happenings : List Happening
  last : RunState
  execution : Execution ps (end_of lines) (beginning system lines) happenings last
  instances : last.instances ≡ b.instances.items
  noted : NotesThese k (tellers_of happenings) l
  ends : Ends whole ps lines limit happenings last end

module _ (ps : List Behaviour) (system : SystemValue) (lines : List ScriptLine) (limit : ℕ) (ready : List ℕ)
    (n : Moment) (b : Instances) (behaviours : AreBehaviours b.system.now ps) (serial : IsSerial ready b)
    (happenings : List Happening) (fuses : List Fuse)
    (execution : Execution ps (end_of lines) (beginning system lines) happenings
    (record (state_of n b) { fuses = fuses }))
    (thinned : IsThinned (record (state_of n b) { fuses = fuses }) (state_of n b))
    (counted : n.left + transitions_of happenings ≡ limit) (k l : Option (List ℕ))
    (noted : NotesThese k (tellers_of happenings) l) where
  abbrev at : RunState
  at = record (state_of n b) { fuses = fuses }

  -- a whole run: what spent fuses are left by its end expire
  ends_whole : (end : ℕ) → IsWhole (end_of lines) n b → end ≡ end_of lines
      → Ended ps system lines limit b k l true end
  ends_whole end h is_end =
      let rests : All (Rests ps) b.instances.items = all_rest ps b behaviours serial h.0 in
      let w : Wound ps (end_of lines) at n.fuses (end_of lines + 1) =
      wound ps (end_of lines) n.fuses (end_of lines + 1) at (record {
        rest = rests;
        in_order = thinned.in_order;
        thins = thinned.thins;
        no_fuse = h.2;
        no_line = subst (IsNoLineBefore (end_of lines + 1)) (sym h.1) tt;
        none_due = subst (IsNoLineBefore (until n)) (sym h.1) tt;
        within = λ none. omega arith;
      }) in
      let all = transitions_of-append happenings w.happenings in
      let none = w.none in
      let left : 0 < n.left = h.3 in
      record {
        happenings = happenings ++ w.happenings;
        last = record at { clock = w.clock; until = w.until; turn = w.turn; bound = w.bound; fuses = w.fuses };
        execution = execution_append execution w.execution;
        instances = refl;
        noted = subst (λ tellers. NotesThese k tellers l)
            (sym (tellers_of-append happenings w.happenings ∙ ap (λ more. tellers_of happenings ++ more) w.nobody
            ∙ append-nil (tellers_of happenings))) noted;
        ends = record {
          fewer = omega (arith, counted, all, none, left);
          rest = rests;
          heard = h.1;
          no_fuse = w.no_fuse;
          is_end = is_end;
        };
      }

  ends_cut : (end : ℕ) → n.left ≡ 0 → (n.left ≡ 0 → EndsInTransition happenings) → end ≡ n.clock
      → Ended ps system lines limit b k l false end
  ends_cut end spent reached is_end = record {
    happenings = happenings;
    last = at;
    execution = execution;
    instances = refl;
    noted = noted;
    ends = record {
      as_many = omega (arith, counted, spent);
      in_transition = reached spent;
      is_end = is_end;
    };
  }

  ends_by : (end : ℕ) (whole : Bool) → (n.left ≡ 0 → EndsInTransition happenings)
      → (IsTrue whole → IsWhole (end_of lines) n b) → IsTrue whole ⊎ (n.left ≡ 0)
      → ((whole ≡ true) × (end ≡ end_of lines)) ⊎ ((whole ≡ false) × (end ≡ n.clock))
      → Ended ps system lines limit b k l whole end
  ends_by end true reached rests cut is_end =
      ends_whole end (rests refl)
      (elim is_end [ inl w ↦ w.1 | inr w ↦ let wrong : ⊥ = cc (w.0) in absurd wrong ])
  ends_by end false reached rests cut is_end =
      let spent : n.left ≡ 0 = elim cut [ inl w ↦ let wrong : ⊥ = cc in absurd wrong | inr w ↦ w ] in
      ends_cut end spent reached
      (elim is_end [ inl w ↦ let wrong : ⊥ = cc (w.0) in absurd wrong | inr w ↦ w.1 ])

-- nothing is missing at the beginning
begins_thinned : (system : SystemValue) (lines : List ScriptLine)
    → IsThinned (beginning system lines) (beginning system lines)
begins_thinned system lines = record { same = refl; in_order = tt; thins = refl }

-- what a list has that began without a word
kept_of : (keeps : Bool) (k l : Option (List ℕ)) (tellers : List ℕ) → k ≡ (if keeps then Some [] else None)
    → NotesThese k tellers l → IsKeptOf l tellers
kept_of keeps k l tellers begins (inr lost) = subst (λ kept. IsKeptOf kept tellers) (sym lost) tt
kept_of true k l tellers begins (inl is) =
    subst (λ kept. IsKeptOf kept tellers) (sym (is ∙ ap (behind tellers) begins)) refl
kept_of false k l tellers begins (inl is) =
    subst (λ kept. IsKeptOf kept tellers) (sym (is ∙ ap (behind tellers) begins)) tt

pub report : (ps : List Behaviour) (system : SystemValue) (lines : List ScriptLine) (limit : ℕ) (ready : List ℕ)
    (m n : Moment) (a b : Instances) (keeps : Bool) (k l : Option (List ℕ)) (told : Report) → AreBehaviours system ps
    → k ≡ (if keeps then Some [] else None) → state_of m a ≡ beginning system lines → m.left ≡ limit
    → Reaches (end_of lines) m a k n b l → IsSerial ready b
    → (IsTrue told.whole → IsWhole (end_of lines) n b) → IsTrue told.whole ⊎ (n.left ≡ 0)
    → AllZip (IsClosed false told.whole) b.instances.items told.records.items
    → ((told.whole ≡ true) × (told.end ≡ end_of lines)) ⊎ ((told.whole ≡ false) × (told.end ≡ n.clock))
    → IsSerialRun ps system lines limit told l
report ps system lines limit ready m n a b keeps k l told behaviours begins state left reaches serial rests cut records
    is_end =
    let first = subst (λ all. AreBehaviours all ps) (sym (ap (λ g. g.system) state)) behaviours in
    let begun : RunState = beginning system lines in
    let run : Advances ps (end_of lines) m a k begun n b l =
    reaches ps first begun (subst (IsThinned begun) (sym state) (begins_thinned system lines)) in
    let last = subst (λ all. AreBehaviours all ps) (sym (ap (λ r. r.now) run.system)) first in
    let is = with_all run.to (state_of n b) run.thinned in
    let ended : Ended ps system lines limit b k l told.whole told.end =
    ends_by ps system lines limit ready n b last serial run.happenings run.to.fuses
    (subst (λ (x : RunState). Execution ps (end_of lines) begun run.happenings x) (sym is) run.execution)
    (subst (λ (x : RunState). IsThinned x (state_of n b)) (sym is) run.thinned) (run.counted ∙ left) k l run.noted
    told.end told.whole run.in_transition rests cut is_end in
    record {
      serial = record {
        happenings = ended.happenings;
        last = ended.last;
        execution = ended.execution;
        records = subst (λ all. AllZip (Closes ps told.whole) all told.records.items) (sym ended.instances)
            (closes_all ps b.system.now told.whole b.instances.items told.records.items last serial.members records);
        ends = ended.ends;
      };
      kept = kept_of keeps k l (tellers_of ended.happenings) begins ended.noted;
    }
