-- The instances with which a replay begins.
use Rattle.std.proofs.Common.{◌≡◌, ◌∙◌, ◌+◌, ◌++◌, ℕ, zero, suc, false, List, [], ◌∷◌, Some, arith, ap, inl, inr, length, map, refl, replicate, slice_get, subst, sym}
use Rattle.std.specs.Prelude.{Contains}
use Rattle.run_order.proofs.Meanings.{all_at}
use Rattle.port_model.specs.declared.inbox.entry.Fuse.{Fuse}
use Rattle.run_order.specs.Kept.{AreKept, IsStill, state_with}
use Rattle.run_order.specs.OrderState.{beginning, fresh}
use Rattle.run_order.specs.Roster.{RosterValue, all_entered, with_entered}
use Rattle.run_order.specs.declared.member.Member.{Member}
use Rattle.sdl_interp.specs.Instance.{InstanceValue}
use Rattle.serial_run.proofs.LivingLemmas.{in_place}
use Rattle.serial_run.specs.Serial.{IsOfSystem, IsSerial}
use Rattle.serial_run.specs.declared.instances.Instances.{Instances}
use Rattle.sdl_script.specs.Script.{end_of}
use Rattle.sdl_script.specs.declared.script.ScriptLine.{ScriptLine}
use Rattle.sdl_system.specs.System.{SystemValue}
use Rattle.serial_order.specs.RunState.{first_instances}

-- one more enters behind others
pub all_entered-push : (roster : RosterValue) (xs : List InstanceValue) (x : InstanceValue)
    → all_entered roster (xs ++ x ∷ []) ≡ with_entered (all_entered roster xs) x.who.process x.who.pid
all_entered-push roster [] x = refl
all_entered-push roster (first ∷ xs) x = all_entered-push (with_entered roster first.who.process first.who.pid) xs x

-- what stands in a list of fresh instances
record IsFresh (xs : List InstanceValue) (place : ℕ) (m : Member) : Type 0 where
  i : InstanceValue
  is_there : slice_get xs place ≡ Some i
  is : m ≡ fresh i

is_fresh : (xs : List InstanceValue) (place : ℕ) (m : Member) → slice_get (map fresh xs) place ≡ Some m
    → IsFresh xs place m
is_fresh [] place m there = let no : ⊥ = cc in absurd no
is_fresh (x ∷ xs) zero m there = record { i = x; is_there = refl; is = cc }
is_fresh (x ∷ xs) (suc place) m there =
    let rest = is_fresh xs place m there in
    record { i = rest.i; is_there = rest.is_there; is = rest.is }

pub kept_first : (ready : List ℕ) (a : Instances) → IsSerial ready a
    → AreKept ready a.system.now (map fresh a.instances.items)
kept_first ready a serial = record {
  of_system = λ place m there.
      let found = is_fresh a.instances.items place m there in
      subst (λ (one : Member). IsOfSystem a.system.now one.instance) (sym found.is)
      (all_at (IsOfSystem a.system.now) a.instances.items place found.i serial.members found.is_there);
  numbers = λ place m there.
      let found = is_fresh a.instances.items place m there in
      ap (λ (one : Member). one.instance.who.pid) found.is
      ∙ (in_place 0 a.instances.items place found.i serial.places found.is_there).0 ∙ omega arith;
  others = λ place m there.
      let found = is_fresh a.instances.items place m there in
      let next : suc place ≡ place + 1 = omega arith in
      elim (serial.marked.others (suc place) found.i found.is_there) [
        | inl marked ↦ inl (subst (Contains ready) next marked)
        | inr rest ↦ inr (subst IsStill (sym found.is) (rest, refl))
      ];
  positive = λ number marked. (serial.marked.there number marked).0;
}

-- one more
pub fresh_push : (xs : List InstanceValue) (x : InstanceValue) → map fresh (xs ++ x ∷ []) ≡ map fresh xs ++ fresh x ∷ []
fresh_push [] x = refl
fresh_push (first ∷ xs) x = ap (λ all. fresh first ∷ all) (fresh_push xs x)

-- the members are those with which the system begins
pub kept_begun : (ready : List ℕ) (a : Instances) (system : SystemValue) (members : List Member) → IsSerial ready a
    → a.system.now ≡ system → members ≡ map fresh a.instances.items → AreKept ready system members
kept_begun ready a system members serial same is =
    subst (AreKept ready system) (sym is)
    (subst (λ (s : SystemValue). AreKept ready s (map fresh a.instances.items)) same (kept_first ready a serial))

pub begun_is : (system : SystemValue) (lines : List ScriptLine) (clock end : ℕ) (members : List Member)
    (roster : RosterValue) (fuses : List Fuse) (script : List ScriptLine) → clock ≡ 0 → fuses ≡ []
    → members ≡ map fresh (first_instances system 1 0 system.processes)
    → roster ≡ all_entered (replicate (length system.processes) []) (first_instances system 1 0 system.processes)
    → script ≡ lines → end ≡ end_of lines
    → state_with system clock false members roster fuses script end ≡ beginning system lines
begun_is system lines clock end members roster fuses script at none are live left last = λ i. record {
  system = system;
  clock = at i;
  until = 0;
  members = are i;
  roster = live i;
  fuses = none i;
  script = left i;
  end = last i;
}
