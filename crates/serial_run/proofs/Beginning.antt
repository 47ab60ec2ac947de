-- The instances with which a run begins.
use Rattle.std.proofs.Common.{◌≡◌, ℕ, zero, suc, ◌+◌, List, [], ◌∷◌, ◌++◌, map, length, None, Some}
use Rattle.std.proofs.Common.{All, slice_get, take, subst, refl, ap, ◌∙◌, sym, arith, replicate, append_assoc}
use Rattle.std.proofs.Common.{append-nil, length-append, add-zero}
use Rattle.std.specs.List.{range_with_len}
use Rattle.std.proofs.lemmas.List.Elements.{All-nil}
use Rattle.port_model.specs.declared.values.pid.Pid.TheVariants.{Null}
use Rattle.port_model.specs.declared.values.value.Value.{Value}
use Rattle.serial_order.specs.RunState.{living_of, count_living, first_instances, first_of, instance_at, instance_of}
use Rattle.serial_order.specs.RunState.{least_living}
use Rattle.serial_run.specs.Serial.{AreInPlace, AreMarked, IsOfSystem, IsSerial}
use Rattle.serial_run.specs.declared.instances.Instances.{Instances}
use Rattle.sdl_interp.specs.Instance.{InstanceValue}
use Rattle.run_semantics.specs.World.{Living}
use Rattle.sdl_system.specs.System.{SystemValue}
use Rattle.sdl_system.specs.declared.id.ProcessId.{ProcessId}
use Rattle.sdl_system.specs.declared.process.Process.{Process}

-- a first instance of a process
abbrev pub first_one : SystemValue → ProcessId → Process → ℕ → InstanceValue
first_one system id process number =
    instance_of system process (record { process = id; pid = number; parent = Null }) []

-- one more of a process
pub first_of-more : (system : SystemValue) (number : ℕ) (id : ProcessId) (process : Process) (n : ℕ)
    → first_of system number id process (suc n)
    ≡ first_of system number id process n ++ first_one system id process (number + n) ∷ []
first_of-more system number id process zero =
    ap (λ pid. first_one system id process pid ∷ []) (sym (add-zero number))
first_of-more system number id process (suc n) =
    let shift : number + 1 + n ≡ number + suc n = omega arith in
    let later = first_of-more system (number + 1) id process n in
    ap (λ rest. first_one system id process number ∷ rest) later
    ∙ ap (λ pid. first_of system number id process (suc n) ++ first_one system id process pid ∷ []) shift

pub length-first_of : (system : SystemValue) (number : ℕ) (id : ProcessId) (process : Process) (n : ℕ)
    → length (first_of system number id process n) ≡ n
length-first_of system number id process zero = refl
length-first_of system number id process (suc n) = ap suc (length-first_of system (number + 1) id process n)

-- those of one process more
pub first_instances-more : (system : SystemValue) (number id : ℕ) (processes : List Process) (last : Process)
    → first_instances system number id (processes ++ last ∷ [])
    ≡ first_instances system number id processes
    ++ first_of system (number + length (first_instances system number id processes))
    (record { 0 = id + length processes }) last last.initial
first_instances-more system number id [] last =
    append-nil (first_of system number (record { 0 = id }) last last.initial)
    ∙ ap (λ n. first_of system n (record { 0 = id }) last last.initial) (sym (add-zero number))
    ∙ ap (λ n. first_of system (number + 0) (record { 0 = n }) last last.initial) (sym (add-zero id))
first_instances-more system number id (process ∷ more) last =
    let own = first_of system number (record { 0 = id }) process process.initial in
    let rest = first_instances system (number + process.initial) (id + 1) more in
    let many : length (own ++ rest) ≡ process.initial + length rest =
    length-append own rest ∙ ap (λ n. n + length rest)
    (length-first_of system number (record { 0 = id }) process process.initial) in
    let shift : number + process.initial + length rest ≡ number + length (own ++ rest) = omega (arith, many) in
    let next : id + 1 + length more ≡ id + suc (length more) = omega arith in
    ap (λ later. own ++ later) (first_instances-more system (number + process.initial) (id + 1) more last)
    ∙ sym (append_assoc own rest (first_of system (number + process.initial + length rest)
    (record { 0 = id + 1 + length more }) last last.initial))
    ∙ ap (λ n. own ++ rest ++ first_of system n (record { 0 = id + 1 + length more }) last last.initial) shift
    ∙ ap (λ n. own ++ rest ++ first_of system (number + length (own ++ rest)) (record { 0 = n }) last last.initial) next

-- one more of a process, behind those that were there
pub begun-more : (system : SystemValue) (id : ProcessId) (process : Process) (start before after : List InstanceValue)
    (number count pid : ℕ) (values : List Value)
    → after ≡ before ++ instance_of system process (record { process = id; pid = pid; parent = Null }) values ∷ []
    → values ≡ [] → pid ≡ number + count → before ≡ start ++ first_of system number id process count
    → after ≡ start ++ first_of system number id process (count + 1)
begun-more system id process start before after number count pid values made none next was =
    let those = first_of system number id process count in
    let last = first_one system id process (number + count) in
    let is_suc : suc count ≡ count + 1 = omega arith in
    made
    ∙ ap (λ values.
    before ++ instance_of system process (record { process = id; pid = pid; parent = Null }) values ∷ []) none
    ∙ ap (λ pid. before ++ first_one system id process pid ∷ []) next
    ∙ ap (λ all. all ++ last ∷ []) was
    ∙ append_assoc start those (last ∷ [])
    ∙ ap (λ all. start ++ all) (sym (first_of-more system number id process count))
    ∙ ap (λ n. start ++ first_of system number id process n) is_suc

-- one process more
take-there : {X : Type 0} (xs : List X) (n : ℕ) (x : X) → slice_get xs n ≡ Some x
    → take (suc n) xs ≡ take n xs ++ x ∷ []
take-there [] n x there = let wrong : ⊥ = cc in absurd wrong
take-there (first ∷ rest) zero x there = let is : first ≡ x = cc in ap (λ y. y ∷ []) is
take-there (first ∷ rest) (suc n) x there = ap (λ ys. first ∷ ys) (take-there rest n x there)

length-take-there : {X : Type 0} (xs : List X) (n : ℕ) (x : X) → slice_get xs n ≡ Some x → length (take n xs) ≡ n
length-take-there [] n x there = let wrong : ⊥ = cc in absurd wrong
length-take-there (first ∷ rest) zero x there = refl
length-take-there (first ∷ rest) (suc n) x there = ap suc (length-take-there rest n x there)

pub begun-process : (system : SystemValue) (n id given : ℕ) (process : Process) (before after : List InstanceValue)
    → slice_get system.processes n ≡ Some process
    → after ≡ before ++ first_of system (given + 1) (record { 0 = id }) process process.initial
    → id ≡ n → given ≡ length before → before ≡ first_instances system 1 0 (take n system.processes)
    → after ≡ first_instances system 1 0 (take (n + 1) system.processes)
begun-process system n id given process before after there made is_id is_given was =
    let ps = take n system.processes in
    let those = first_instances system 1 0 ps in
    let long : length before ≡ length those = ap length was in
    let number : given + 1 ≡ 1 + length those = omega (arith, is_given, long) in
    let at : id ≡ 0 + length ps = omega (arith, is_id, length-take-there system.processes n process there) in
    let is_suc : suc n ≡ n + 1 = omega arith in
    made
    ∙ ap (λ number. before ++ first_of system number (record { 0 = id }) process process.initial) number
    ∙ ap (λ id. before ++ first_of system (1 + length those) (record { 0 = id }) process process.initial) at
    ∙ ap (λ all. all ++ first_of system (1 + length those) (record { 0 = 0 + length ps }) process process.initial) was
    ∙ sym (first_instances-more system 1 0 ps process)
    ∙ ap (first_instances system 1 0) (sym (take-there system.processes n process there))
    ∙ ap (λ m. first_instances system 1 0 (take m system.processes)) is_suc

none_live : (n b : ℕ) → map (least_living []) (range_with_len b n) ≡ replicate n None
none_live zero b = refl
none_live (suc n) b = ap (λ rest. None ∷ rest) (none_live n (b + 1))

none_count : (n b : ℕ) → map (count_living []) (range_with_len b n) ≡ replicate n 0
none_count zero b = refl
none_count (suc n) b = ap (λ rest. 0 ∷ rest) (none_count n (b + 1))

-- nobody lives at first
pub living-none : (system : SystemValue) (n : ℕ) (living : Living) → n ≡ length system.processes
    → living ≡ record { least = replicate n None; counts = replicate n 0; given = 0 } → living ≡ living_of system []
living-none system n living long is =
    let empty : ℕ → Living = λ n. record { least = replicate n None; counts = replicate n 0; given = 0 } in
    let of_no : Living = living_of system [] in
    let count = length system.processes in
    is ∙ ap empty long
    ∙ ap (λ all. record (empty count) { least = all }) (sym (none_live count 0))
    ∙ ap (λ all. record of_no { counts = all }) (sym (none_count count 0))

nobody : (n : ℕ) (i : InstanceValue) → instance_at [] n ≡ Some i → ⊥
nobody zero i at = cc
nobody (suc n) i at = cc

marks_none : AreMarked [] []
marks_none = record {
  there = λ n is. let wrong : ⊥ = omega (arith, is.1) in absurd wrong;
  others = λ n i at. absurd (nobody n i at);
}

-- before the first instance
pub none-serial : (ready : List ℕ) (s : Instances) → s.living ≡ living_of s.system.now [] → s.instances.items ≡ []
    → ready ≡ [] → IsSerial ready s
none-serial ready s living none asleep = record {
  living = living ∙ ap (living_of s.system.now) (sym none);
  places = subst (AreInPlace 0) (sym none) tt;
  members = subst (All (IsOfSystem s.system.now)) (sym none) (All-nil (IsOfSystem s.system.now));
  marked = subst (AreMarked ready) (sym none)
      (subst (λ (ready : List ℕ). AreMarked ready []) (sym asleep) marks_none);
}
