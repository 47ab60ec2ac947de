-- The numbers of the instances: each has the next one, from 1 on.
use Rattle.std.proofs.Common.{◌≡◌, ◌∙◌, ◌++◌, ◌+◌, ap, arith, refl, subst, sym, ℕ, zero, suc, List, [], ◌∷◌, length, map}
use Rattle.std.specs.List.{flat_map, range_with_len}
use Rattle.serial_order.proofs.Made.{MakeNext}
use Rattle.serial_order.specs.Execution.{Execution, Expired, Follows, Happening, Heard, Moved, Ticked, begins, goes}
use Rattle.serial_order.specs.RunState.{RunState, after_effects, beginning, first_instances, first_of}
use Rattle.laws_creates.proofs.Creates.{effects_who, all_who, deeds_whom, next_who, records_who, step_effects, step_makes, system_kept, who_append, who_count, whom}
use Rattle.laws_creates.specs.Creates.{EachHasOneRecord, created_in_one, identities}
use Rattle.run_record.specs.declared.evaluation.identity.Identity.{Identity}
use Rattle.sdl_interp.specs.Instance.{InstanceValue}
use Rattle.run_record.specs.Record.{RecordValue}
use Rattle.run_semantics.specs.Effect.{Effect, Arm, Create, Send, effects_of}
use Rattle.sdl_script.specs.Script.{end_of}
use Rattle.sdl_script.specs.declared.script.ScriptLine.{ScriptLine}
use Rattle.sdl_interp.specs.Machine.{identity_of}
use Rattle.sdl_system.specs.Behaviour.{Behaviour}
use Rattle.sdl_system.specs.System.{SystemValue}
use Rattle.sdl_system.specs.declared.process.Process.{Process}

-- each has the next number, the first one this
abbrev pub Numbered : ℕ → List Identity → Type 0
Numbered n [] = Unit {0}
Numbered n (who ∷ rest) = (who.pid ≡ n) × Numbered (n + 1) rest

Numbered-append : (n : ℕ) (first later : List Identity) → Numbered n first → Numbered (n + length first) later
    → Numbered n (first ++ later)
Numbered-append n [] later are others =
    let same : n + 0 ≡ n = omega arith in subst (λ k. Numbered k later) same others
Numbered-append n (who ∷ rest) later are others =
    let same : n + suc (length rest) ≡ n + 1 + length rest = omega arith in
    (are.0, Numbered-append (n + 1) rest later are.1 (subst (λ k. Numbered k later) same others))

pids : (n : ℕ) (records : List RecordValue) → Numbered n (map identity_of records)
    → map (λ (trace : RecordValue). trace.pid) records ≡ range_with_len n (length records)
pids n [] are = refl
pids n (trace ∷ rest) are =
    ap (λ pid. pid ∷ map (λ (trace : RecordValue). trace.pid) rest) are.0
    ∙ ap (λ (numbers : List ℕ). n ∷ numbers) (pids (n + 1) rest are.1)

module _ (system : SystemValue) where
  first_of_numbered : (number k : ℕ) (process : Process) (count : ℕ)
      → Numbered number (identities (first_of system number (record { 0 = k }) process count))
      × (length (identities (first_of system number (record { 0 = k }) process count)) ≡ count)
  first_of_numbered number k process zero = (tt, refl)
  first_of_numbered number k process (suc more) =
      let rest = first_of_numbered (number + 1) k process more in ((refl, rest.0), ap suc rest.1)

  first_numbered : (number id : ℕ) (processes : List Process)
      → Numbered number (identities (first_instances system number id processes))
  first_numbered number id [] = tt
  first_numbered number id (process ∷ more) =
      let own : List InstanceValue = first_of system number (record { 0 = id }) process process.initial in
      let others : List InstanceValue = first_instances system (number + process.initial) (id + 1) more in
      let first = first_of_numbered number id process process.initial in
      subst (λ (whos : List Identity). Numbered number whos) (sym (who_append own others))
      (Numbered-append number (identities own) (identities others) first.0
      (subst (λ k. Numbered (number + k) (identities others)) (sym first.1)
      (first_numbered (number + process.initial) (id + 1) more)))

  whom_numbered : (given : ℕ) (done : List Effect) → MakeNext system given done → Numbered (given + 1) (flat_map whom done)
  whom_numbered given [] make = tt
  whom_numbered given (Send target item ∷ rest) make = whom_numbered given rest make.1
  whom_numbered given (Arm fuse ∷ rest) make = whom_numbered given rest make.1
  whom_numbered given (Create process number parent values ∷ rest) make =
      (make.0.0, whom_numbered (given + 1) rest make.1)

  -- so it is while some acts are done
  pub effects_numbered : (g : RunState) (done : List Effect) → g.system ≡ system → MakeNext system (length g.instances) done
      → Numbered 1 (identities g.instances) → Numbered 1 (identities (after_effects g done).instances)
  effects_numbered g done same make are =
      let on : length g.instances + 1 ≡ 1 + length (identities g.instances) = omega (arith, who_count g.instances) in
      subst (λ (whos : List Identity). Numbered 1 whos) (sym (effects_who system g done same make))
      (Numbered-append 1 (identities g.instances) (flat_map whom done) are
      (subst (λ k. Numbered k (flat_map whom done)) on (whom_numbered (length g.instances) done make)))

module _ (ps : List Behaviour) (system : SystemValue) (time : ℕ) where
  pub created_numbered : (g : RunState) (next : Happening) (h : RunState) → Follows ps time g next h → g.system ≡ system
      → Numbered (length g.instances + 1) (created_in_one next)
  created_numbered g (Moved who deeds) h step same =
      subst (λ (whos : List Identity). Numbered (length g.instances + 1) whos)
      (deeds_whom who.pid deeds (step_effects ps g who deeds h step))
      (whom_numbered system (length g.instances) (effects_of deeds) (step_makes ps g who deeds h step system same))
  created_numbered g (Expired fuse) h expires same = tt
  created_numbered g (Heard line done) h hear same = tt
  created_numbered g (Ticked at) h tick same = tt

  pub all_numbered : {lines : List ScriptLine} {happenings : List Happening} {last : RunState}
      → Execution ps time (beginning system lines) happenings last → Numbered 1 (identities last.instances)
  all_numbered begins = first_numbered system 1 0 system.processes
  all_numbered (goes {at = at} execution next to follows) =
      let same : at.system ≡ system = system_kept ps system time execution in
      let on : length at.instances + 1 ≡ 1 + length (identities at.instances) =
      omega (arith, who_count at.instances) in
      subst (λ (whos : List Identity). Numbered 1 whos) (sym (next_who ps system time at next to follows same))
      (Numbered-append 1 (identities at.instances) (created_in_one next) (all_numbered execution)
      (subst (λ k. Numbered k (created_in_one next)) on (created_numbered at next to follows same)))

-- so are those of the records, by number
pub each_has_one_record : EachHasOneRecord
each_has_one_record ps system lines limit report run =
    let items : List RecordValue = report.records.items in
    let whos : map identity_of items ≡ identities run.last.instances =
    records_who ps report.whole run.last.instances items run.records in
    let numbered : Numbered 1 (map identity_of items) =
    subst (λ (whos : List Identity). Numbered 1 whos) (sym whos)
    (all_numbered ps system (end_of lines) run.execution) in
    record {
      created = whos ∙ all_who ps system lines (end_of lines) run.execution;
      numbers = pids 1 items numbered;
    }
