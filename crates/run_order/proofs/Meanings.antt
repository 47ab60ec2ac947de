-- What the instances of a run mean, and what stands in lists.
use Rattle.std.proofs.Common.{◌≡◌, ℕ, zero, suc, ◌<◌, List, [], ◌∷◌, length, Some, refl, sym, subst, arith, slice_get, All}
use Rattle.std.specs.List.{AllZip}
use Rattle.std.proofs.lemmas.List.Elements.{All-get_or}
use Rattle.std.proofs.lemmas.Option.{get_or_from_slice_get, slice_get_within}
use Rattle.run_semantics.specs.Behaves.{AreBehaviours, Behaves}
use Rattle.sdl_interp.specs.Instance.{InstanceValue, IsAtRest}
use Rattle.sdl_system.specs.Behaviour.{Behaviour}
use Rattle.sdl_system.specs.System.{SystemValue}
use Rattle.serial_run.specs.Serial.{IsOfSystem}
use Rattle.serial_order.specs.Execution.{IsMeant, Rests}

-- there is an element below the length
pub there_is : {X : Type 0} (xs : List X) (place : ℕ) → place < length xs → (x : X) × (slice_get xs place ≡ Some x)
there_is [] place lt = absurd (omega arith)
there_is (x ∷ xs) zero lt = (x, refl)
there_is (x ∷ xs) (suc place) lt = there_is xs place (omega arith)

-- what holds of each element holds of the one at a place
pub all_at : {X : Type 0} (P : X → Type 0) (xs : List X) (place : ℕ) (x : X) → All P xs → slice_get xs place ≡ Some x
    → P x
all_at P xs place x all there =
    subst P (get_or_from_slice_get xs place x x there)
    (All-get_or P xs place x (slice_get_within xs place x there) all)

-- the other one of a pair of lists
record Beside {A B : Type 0} (R : A → B → Type 0) (x : A) (ys : List B) (k : ℕ) : Type 0 where
  y : B
  is_there : slice_get ys k ≡ Some y
  related : R x y

beside : {A B : Type 0} (R : A → B → Type 0) (xs : List A) (ys : List B) (k : ℕ) (x : A) → AllZip R xs ys
    → slice_get xs k ≡ Some x → Beside R x ys k
beside R [] ys k x all there = let wrong : ⊥ = cc in absurd wrong
beside R (first ∷ xs) [] k x all there = absurd all
beside R (first ∷ xs) (other ∷ ys) zero x all there =
    let is : first ≡ x = cc in record { y = other; is_there = refl; related = subst (λ z. R z other) is all.0 }
beside R (first ∷ xs) (other ∷ ys) (suc k) x all there =
    let found = beside R xs ys k x all.1 there in
    record { y = found.y; is_there = found.is_there; related = found.related }

-- the behaviour of an instance of the system
pub record Meaning (ps : List Behaviour) (i : InstanceValue) : Type 0 where
  pub p : Behaviour
  pub meant : IsMeant ps i p

pub meaning : (ps : List Behaviour) (system : SystemValue) (i : InstanceValue) → AreBehaviours system ps
    → IsOfSystem system i → Meaning ps i
meaning ps system i behaviours member =
    let found = beside (Behaves system) system.processes ps i.who.process.0 i.process behaviours member.process_is in
    record {
      p = found.y;
      meant = record {
        listed = found.is_there;
        is_run = record {
          system_is = refl;
          behaves = subst (λ (all : SystemValue). Behaves all i.process found.y) (sym member.system_is) found.related;
        };
      };
    }

-- an instance that is at rest rests
pub rests_by : (ps : List Behaviour) (i : InstanceValue) → Meaning ps i → IsAtRest i → Rests ps i
rests_by ps i known rest = record {
  p = known.p;
  meant = known.meant;
  quiet = rest (record { system = i.system; behaviour = known.p }) known.meant.is_run;
}
