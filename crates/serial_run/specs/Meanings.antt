-- What the instances of a run mean, and what rest and turns say of them, for the laws that the sweeps ask of them.
use Rattle.std.proofs.Common.{◌≡◌, ℕ, zero, suc, ◌+◌, ◌<◌, List, [], ◌∷◌, length, Some, refl, inl, inr, ap, sym, subst, arith, slice_get, All}
use Rattle.std.specs.Prelude.{Contains}
use Rattle.std.specs.List.{AllZip}
use Rattle.std.proofs.lemmas.List.Elements.{All-get_or}
use Rattle.std.proofs.lemmas.Option.{get_or_from_slice_get, slice_get_within}
use Rattle.port_model.specs.declared.inbox.entry.Fuse.{Fuse}
use Rattle.serial_order.specs.Execution.{IsMeant, IsNoLineBefore, IsNothingDue, IsTurn, RestBetween, Rests, begins_anew, goes_on, next_line}
use Rattle.serial_order.specs.RunState.{RunState, instance_at}
use Rattle.serial_run.specs.Serial.{IsOfSystem, IsSerial, state_of}
use Rattle.serial_run.specs.declared.instances.Instances.{Instances}
use Rattle.sdl_interp.specs.Instance.{InstanceValue, IsAtRest}
use Rattle.run_semantics.specs.Behaves.{AreBehaviours, Behaves}
use Rattle.sdl_script.specs.declared.script.ScriptLine.{ScriptLine}
use Rattle.serial_sweeps.specs.Sweeps as sweeps
use Rattle.serial_sweeps.specs.Sweeps.{IsTurnBy, Moment, NoneBetween, until}
use Rattle.sdl_system.specs.Behaviour.{Behaviour}
use Rattle.sdl_system.specs.System.{SystemValue}

-- there is an element below the length
pub there_is : {X : Type 0} (xs : List X) (place : ℕ) → place < length xs → (x : X) × (slice_get xs place ≡ Some x)
there_is [] place lt = absurd (omega arith)
there_is (x ∷ xs) zero lt = (x, refl)
there_is (x ∷ xs) (suc place) lt = there_is xs place (omega arith)

-- what holds of each element holds of the one at a place
pub all_at : {X : Type 0} (P : X → Type 0) (xs : List X) (place : ℕ) (x : X) → All P xs → slice_get xs place ≡ Some x
    → P x
all_at P xs place x all there =
    subst P (get_or_from_slice_get xs place x x there)
    (All-get_or P xs place x (slice_get_within xs place x there) all)

-- the other one of a pair of lists
record Beside {A B : Type 0} (R : A → B → Type 0) (x : A) (ys : List B) (k : ℕ) : Type 0 where
  y : B
  is_there : slice_get ys k ≡ Some y
  related : R x y

beside : {A B : Type 0} (R : A → B → Type 0) (xs : List A) (ys : List B) (k : ℕ) (x : A) → AllZip R xs ys
    → slice_get xs k ≡ Some x → Beside R x ys k
beside R [] ys k x all there = let wrong : ⊥ = cc in absurd wrong
beside R (first ∷ xs) [] k x all there = absurd all
beside R (first ∷ xs) (other ∷ ys) zero x all there =
    let is : first ≡ x = cc in record { y = other; is_there = refl; related = subst (λ z. R z other) is all.0 }
beside R (first ∷ xs) (other ∷ ys) (suc k) x all there =
    let found = beside R xs ys k x all.1 there in
    record { y = found.y; is_there = found.is_there; related = found.related }

-- the behaviour of an instance of the system
pub record Meaning (ps : List Behaviour) (i : InstanceValue) : Type 0 where
  pub p : Behaviour
  pub meant : IsMeant ps i p

pub meaning : (ps : List Behaviour) (system : SystemValue) (i : InstanceValue) → AreBehaviours system ps
    → IsOfSystem system i → Meaning ps i
meaning ps system i behaviours member =
    let found = beside (Behaves system) system.processes ps i.who.process.0 i.process behaviours member.process_is in
    record {
      p = found.y;
      meant = record {
        listed = found.is_there;
        is_run = record {
          system_is = refl;
          behaves = subst (λ (all : SystemValue). Behaves all i.process found.y) (sym member.system_is) found.related;
        };
      };
    }

pub meaning_at : (ps : List Behaviour) {ready : List ℕ} (a : Instances) (place : ℕ) (i : InstanceValue) → AreBehaviours a.system.now ps
    → IsSerial ready a → slice_get a.instances.items place ≡ Some i → Meaning ps i
meaning_at ps a place i behaviours serial there =
    meaning ps a.system.now i behaviours
    (all_at (IsOfSystem a.system.now) a.instances.items place i serial.members there)

-- an instance that is at rest rests
pub rests_by : (ps : List Behaviour) (i : InstanceValue) → Meaning ps i → IsAtRest i → Rests ps i
rests_by ps i known rest = record {
  p = known.p;
  meant = known.meant;
  quiet = rest (record { system = i.system; behaviour = known.p }) known.meant.is_run;
}

pub meaning_of : (ps : List Behaviour) {ready : List ℕ} (a : Instances) (number : ℕ) (i : InstanceValue) → AreBehaviours a.system.now ps
    → IsSerial ready a → instance_at a.instances.items number ≡ Some i → Meaning ps i
meaning_of ps a zero i behaviours serial there = let wrong : ⊥ = cc in absurd wrong
meaning_of ps a (suc place) i behaviours serial there = meaning_at ps a place i behaviours serial there

-- where all are at rest all rest
pub all_rest : (ps : List Behaviour) {ready : List ℕ} (a : Instances) → AreBehaviours a.system.now ps → IsSerial ready a
    → All IsAtRest a.instances.items → All (Rests ps) a.instances.items
all_rest ps a behaviours serial all = λ place d below.
    let found = there_is a.instances.items place below in
    subst (Rests ps) (sym (get_or_from_slice_get a.instances.items place found.0 d found.1))
    (rests_by ps found.0 (meaning_at ps a place found.0 behaviours serial found.1)
    (all_at IsAtRest a.instances.items place found.0 all found.1))

-- ---- what is due, in the words of the sweeps and of the execution

no_line : (before : ℕ) (lines : List ScriptLine) → sweeps.IsNoLineBefore before lines → IsNoLineBefore before lines
no_line before [] is = tt
no_line before (line ∷ later) is = is

pub nothing_due : (m : Moment) (a : Instances) → sweeps.IsNothingDue m → IsNothingDue (state_of m a)
nothing_due m a due = record { fuses = due.fuses; lines = no_line (until m) m.script due.lines }

pub next_same : (lines : List ScriptLine) → next_line lines ≡ sweeps.next_line lines
next_same [] = refl
next_same (line ∷ later) = refl

-- ---- turns

pub rest_between : (ps : List Behaviour) (ready : List ℕ) (a : Instances) (behind before : ℕ)
    → AreBehaviours a.system.now ps → IsSerial ready a → NoneBetween ready behind before
    → RestBetween ps a.instances.items behind before
rest_between ps ready a behind before behaviours serial none = λ number i above below there.
    elim (serial.marked.others number i there) [
      | inl marked ↦ absurd (none number marked above below)
      | inr rest ↦ rests_by ps i (meaning_of ps a number i behaviours serial there) rest
    ]

pub turn_by : (ps : List Behaviour) (ready : List ℕ) (m : Moment) (a : Instances) (number bound : ℕ)
    → AreBehaviours a.system.now ps → IsSerial ready a → IsTurnBy ready m a.living.given number bound
    → IsTurn ps (state_of m a) number bound
turn_by ps ready m a number bound behaviours serial (sweeps.goes_on later within none) =
    goes_on later within (rest_between ps ready a m.turn number behaviours serial none)
turn_by ps ready m a number bound behaviours serial (sweeps.begins_anew none first) =
    subst (IsTurn ps (state_of m a) number) (sym (ap (λ living. living.given) serial.living))
    (begins_anew (rest_between ps ready a m.turn (m.bound + 1) behaviours serial none)
    (rest_between ps ready a 0 number behaviours serial first))

-- whose turn it is doesn't depend on the fuses
pub turn_with : (ps : List Behaviour) (g : RunState) (fuses : List Fuse) (number bound : ℕ) → IsTurn ps g number bound
    → IsTurn ps (record g { fuses = fuses }) number bound
turn_with ps g fuses number _ (goes_on later within rest) = goes_on later within rest
turn_with ps g fuses number _ (begins_anew none first) = begins_anew none first

-- where nobody may have something to do all are at rest
pub none_ready : (ready : List ℕ) (a : Instances) → IsSerial ready a → ((n : ℕ) → Contains ready n → ⊥)
    → All IsAtRest a.instances.items
none_ready ready a serial none = λ place d below.
    let found = there_is a.instances.items place below in
    subst IsAtRest (sym (get_or_from_slice_get a.instances.items place found.0 d found.1))
    (elim (serial.marked.others (suc place) found.0 found.1) [
      | inl marked ↦ absurd (none (suc place) marked)
      | inr rest ↦ rest
    ])
