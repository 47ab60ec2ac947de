-- How many signals of the script go to each instance.
use Rattle.std.proofs.Common.{◌≡◌, ◌∙◌, ◌⊎◌, ◌<◌, ◌≤◌, ◌+◌, ap, arith, cond, get_or, inl, inr, length, nat_eq, refl, subst, take, ⊎_elim, ℕ, Bool, true, false, List, [], ◌∷◌, ◌++◌}
use Rattle.std.specs.Prelude.{map}
use Rattle.std.proofs.lemmas.List.{length-append, map-append, take_all, take_more}
use Rattle.port_model.specs.declared.values.item.Item.{Item}
use Rattle.run_record.specs.Record.{RecordValue}
use Rattle.sdl_script.specs.declared.script.ScriptSignal.{ScriptSignal}
use Rattle.sdl_system.specs.declared.route.Target.{Target}
use Rattle.sdl_system.specs.declared.route.Target.TheVariants as target
use Rattle.settle_checks.proofs.TallyLemmas.{none_missing}
use Rattle.settle_checks.specs.Outputs.{AreTallied, EnoughIsHeard, IsEnoughHeard, IsTallied, outline_to, sends_one, sends_to, targets_of}
use Rattle.settle_checks.specs.declared.outputs.Tally.{Tally}
use Rattle.settle_meaning.specs.Puts.{Heard, IsNamed, MayMissHeard, heard_by, heard_by_one}

-- one target more
pub targets_more : (targets : List Target) (i : ℕ) (d : Target) → i < length targets
    → map outline_to (take (i + 1) targets) ≡ map outline_to (take i targets) ++ outline_to (get_or targets i d) ∷ []
targets_more targets i d within =
    ap (map outline_to) (take_more targets i d within)
    ∙ map-append outline_to (take i targets) (get_or targets i d ∷ [])

pub targets_all : (targets : List Target) (i : ℕ) (row : List Tally) → length targets ≤ i
    → AreTallied (map outline_to (take i targets)) row → AreTallied (map outline_to targets) row
targets_all targets i row past are =
    subst (λ l. AreTallied (map outline_to l) row) (take_all i targets past) are

heard_one : (n : ℕ) (signal : ScriptSignal) (t : Target)
    → length (heard_by_one n signal t) ≡ sends_one n (outline_to t)
heard_one n signal (target.Instance to) = by_test (nat_eq to n) where
  by_test : (b : Bool) → length {A = Item} (cond b (signal.item ∷ []) []) ≡ cond b 1 0
  by_test true = refl
  by_test false = refl
heard_one n signal t = refl

heard_many : (n : ℕ) (heard : List Heard) → length (heard_by heard n) ≡ sends_to n (map outline_to (targets_of heard))
heard_many n [] = refl
heard_many n (one ∷ rest) =
    length-append (heard_by_one n one.signal one.target) (heard_by rest n)
    ∙ ap (λ k. k + length (heard_by rest n)) (heard_one n one.signal one.target)
    ∙ ap (λ k. sends_one n (outline_to one.target) + k) (heard_many n rest)

pub heard_enough : (heard : List Heard) (to : RecordValue) (put : ℕ) (t : Tally)
    → IsTallied (map outline_to (targets_of heard)) to.pid t → (t.all ≤ put) ⊎ MayMissHeard (IsNamed heard) to
    → IsEnoughHeard (IsNamed heard) heard to put
heard_enough heard to put t is all =
    ⊎_elim
    (λ (few : t.all ≤ put). let many = heard_many to.pid heard in inl (omega (arith, few, many, is.all)))
    (λ (may : MayMissHeard (IsNamed heard) to). inr may) all

pub enough_is_heard : EnoughIsHeard
enough_is_heard heard to put ends enough = record {
  missing = ends.0;
  all = ends.1;
  allowed = ⊎_elim
      (λ (few : length (heard_by heard to.pid) ≤ length put).
      inl (none_missing (heard_by heard to.pid) ends.0 put ends.1 few))
      (λ (may : MayMissHeard (IsNamed heard) to). inr may) enough;
}
