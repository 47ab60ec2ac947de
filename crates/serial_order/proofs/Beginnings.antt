-- The instances with which a system begins: they have the numbers from 1 on, and are told.
use Rattle.std.proofs.Common.{◌≡◌, ◌∙◌, ◌+◌, ◌≤◌, add-zero, ap, arith, inl, inr, refl, subst, sym, zero-add, ℕ, zero, suc, List, [], ◌∷◌, Some, length, slice_get}
use Rattle.std.proofs.lemmas.Option.{none-some, same_Some}
use Rattle.port_model.specs.declared.values.pid.Pid.TheVariants.{Null}
use Rattle.serial_order.proofs.Known.{AreKnown, IsKnown, known_as, known_new}
use Rattle.serial_order.proofs.Numbers.{at_append}
use Rattle.run_semantics.specs.Behaves.{AreBehaviours}
use Rattle.serial_order.specs.RunState.{beginning, first_instances, first_of, instance_at, instance_of}
use Rattle.run_record.specs.declared.evaluation.identity.Identity.{Identity}
use Rattle.sdl_interp.specs.Instance.{InstanceValue}
use Rattle.sdl_script.specs.declared.script.ScriptLine.{ScriptLine}
use Rattle.sdl_system.specs.Behaviour.{Behaviour}
use Rattle.sdl_system.specs.System.{SystemValue}
use Rattle.sdl_system.specs.declared.process.Process.{Process}

-- an instance that nobody made, of the process with this number
abbrev who_at : ℕ → ℕ → Identity
who_at k pid = record { process = record { 0 = k }; pid = pid; parent = Null }

-- an instance of a process before its start
abbrev first_at : SystemValue → Process → ℕ → ℕ → InstanceValue
first_at system process k pid = instance_of system process (who_at k pid) []

of_one : (system : SystemValue) (number k : ℕ) (process : Process) (count place : ℕ) (i : InstanceValue)
    → slice_get (first_of system number (record { 0 = k }) process count) place ≡ Some i
    → i ≡ first_at system process k (number + place)
of_one system number k process zero place i e = absurd (none-some i e)
of_one system number k process (suc more) zero i e =
    sym (same_Some (first_at system process k number) i e)
    ∙ ap (λ pid. first_at system process k pid) (sym (add-zero number))
of_one system number k process (suc more) (suc place) i e =
    let next : number + 1 + place ≡ number + suc place = omega arith in
    of_one system (number + 1) k process more place i e ∙ ap (λ pid. first_at system process k pid) next

length-first_of : (system : SystemValue) (number k : ℕ) (process : Process) (count : ℕ)
    → length (first_of system number (record { 0 = k }) process count) ≡ count
length-first_of system number k process zero = refl
length-first_of system number k process (suc more) = ap suc (length-first_of system (number + 1) k process more)

-- the first instance at a place
record First (system : SystemValue) (number id : ℕ) (processes : List Process) (place : ℕ) (i : InstanceValue)
    : Type 0 where
  k : ℕ
  process : Process
  is_there : slice_get processes k ≡ Some process
  is : i ≡ first_at system process (id + k) (number + place)

first_is : (system : SystemValue) (number id : ℕ) (processes : List Process) (place : ℕ) (i : InstanceValue)
    → slice_get (first_instances system number id processes) place ≡ Some i
    → First system number id processes place i
first_is system number id [] place i e = absurd (none-some i e)
first_is system number id (process ∷ more) place i e =
    let others : List InstanceValue = first_instances system (number + process.initial) (id + 1) more in
    elim (at_append (first_of system number (record { 0 = id }) process process.initial) others place i e) [
      | inl w ↦ record {
        k = 0;
        process = process;
        is_there = refl;
        is = of_one system number id process process.initial place i w
            ∙ ap (λ k. first_at system process k (number + place)) (sym (add-zero id));
      }
      | inr w ↦
          let found : First system (number + process.initial) (id + 1) more w.0 i =
          first_is system (number + process.initial) (id + 1) more w.0 i w.2 in
          let count = length-first_of system number id process process.initial in
          let next : id + 1 + found.k ≡ id + suc found.k = omega arith in
          let at : number + process.initial + w.0 ≡ number + place = omega (arith, w.1, count) in
          record {
            k = suc found.k;
            process = found.process;
            is_there = found.is_there;
            is = found.is ∙ ap (λ k. first_at system found.process k (number + process.initial + w.0)) next
                ∙ ap (λ pid. first_at system found.process (id + suc found.k) pid) at;
          }
    ]

known_first : (ps : List Behaviour) (system : SystemValue) (n : ℕ) (i : InstanceValue) → AreBehaviours system ps
    → instance_at (first_instances system 1 0 system.processes) n ≡ Some i → IsKnown ps system n i [] []
known_first ps system zero i behaviours e = absurd (none-some i e)
known_first ps system (suc place) i behaviours e =
    let found : First system 1 0 system.processes place i = first_is system 1 0 system.processes place i e in
    let new : InstanceValue = first_at system found.process (0 + found.k) (1 + place) in
    let number : 1 + place ≡ suc place = omega arith in
    known_as ps system (suc place) new i [] [] [] [] (sym found.is) refl refl
    (known_new ps system found.process (who_at (0 + found.k) (1 + place)) [] (suc place) behaviours
    (ap (λ k. slice_get system.processes k) (zero-add found.k) ∙ found.is_there) number)

-- as a run begins nothing has happened
pub known_beginning : (ps : List Behaviour) (system : SystemValue) (lines : List ScriptLine)
    → AreBehaviours system ps → AreKnown ps system (beginning system lines) (λ n. []) (λ n. [])
known_beginning ps system lines behaviours = record {
  system_is = refl;
  beyond = λ n less. (refl, refl);
  each = λ n i e. known_first ps system n i behaviours e;
}

-- and no instance has read the clock
pub first_time : (system : SystemValue) (n : ℕ) (i : InstanceValue) (clock : ℕ)
    → instance_at (first_instances system 1 0 system.processes) n ≡ Some i → i.store.time ≤ clock
first_time system zero i clock e = absurd (none-some i e)
first_time system (suc place) i clock e =
    let found : First system 1 0 system.processes place i = first_is system 1 0 system.processes place i e in
    subst (λ (j : InstanceValue). j.store.time ≤ clock) (sym found.is) (omega arith)
