-- A step of an instance is a step of the whole.
use Rattle.std.proofs.Common.{◌≡◌, ◌≢◌, ◌⊎◌, ◌∙◌, ◌+◌, ◌++◌, Bool, true, false, if◌then◌else◌, ℕ, zero, suc, List, [], ◌∷◌, Option, Some, Result, Ok, Err, inl, inr, refl, sym, ap, subst, arith, slice_get, set, drop, length, map, append-nil, append_assoc}
use Rattle.std.specs.Option.{option_map}
use Rattle.std.specs.Prelude.{IfOk}
use Rattle.run_order.proofs.Meanings.{Meaning, meaning}
use Rattle.run_order.specs.Interleaving.{IsNothingDue, Moved, Transition, Within}
use Rattle.run_order.specs.Kept.{AreKept, IsKeptFrom, IsMove, LeadsBy, Moves, OneMore}
use Rattle.run_order.specs.OrderState.{OrderState, member_at, with_member}
use Rattle.run_order.proofs.Weaving.{fits_deeds, woven_deeds}
use Rattle.run_order.specs.Pending.{all_pending, behind_first}
use Rattle.run_order.specs.Woven.{acts_of, fits, woven}
use Rattle.run_order.specs.ReplayWorld.{world_with}
use Rattle.run_order.specs.declared.member.Member.{Member}
use Rattle.run_order.specs.declared.member.Move.{Move}
use Rattle.run_order.specs.declared.member.Move.TheVariants as move
use Rattle.run_semantics.proofs.Acting.{runs_effects}
use Rattle.run_semantics.proofs.Deeds.{after_deeds-effects}
use Rattle.sdl_interp.specs.Machine.{place_of}
use Rattle.run_semantics.specs.Behaves.{AreBehaviours}
use Rattle.run_semantics.specs.ControlPoint.{ControlPoint, Definition}
use Rattle.run_semantics.specs.Effect.{Deed, Effect, effects_of, events_of}
use Rattle.run_semantics.specs.Goes.{Goes, IsOneStep, MachineValue}
use Rattle.run_semantics.specs.World as world
use Rattle.run_semantics.specs.World.{WorldValue}
use Rattle.sdl_interp.specs.declared.transitions.machine.Position.TheVariants as at
use Rattle.sdl_interp.specs.Instance as steps
use Rattle.sdl_interp.specs.Instance.{InstanceValue, IsRunAs, Keeps}
use Rattle.sdl_system.specs.Behaviour.{Behaviour}
use Rattle.sdl_system.specs.System.{SystemValue}
use Rattle.serial_run.specs.Serial.{IsOfSystem}
use Rattle.serial_order.specs.Execution.{is_transition}
use Rattle.serial_run.specs.StepWorld.{effect_of}
use Rattle.serial_run.specs.declared.world.effect.Effect as kept

-- ---- what a step did outside

effects_so_far : (w : WorldValue) (performed done : List Effect) → w.effects ≡ Some done
    → (world.after_effects w performed).effects ≡ Some (done ++ performed)
effects_so_far w [] done is = is ∙ ap Some (sym (append-nil done))
effects_so_far w (effect ∷ rest) done is =
    effects_so_far (world.after_effect w effect) rest (done ++ effect ∷ [])
    (ap (λ (o : Option (List Effect)). option_map (λ so_far. so_far ++ effect ∷ []) o) is)
    ∙ ap Some (append_assoc done (effect ∷ []) rest)

-- the effects in the world are those of the deeds
pub effects_done : (w v : WorldValue) (deeds : List Deed) (performed : List Effect) → w.effects ≡ Some []
    → v ≡ world.after_deeds w deeds → v.effects ≡ Some performed → performed ≡ effects_of deeds
effects_done w v deeds performed none is known =
    let all : v.effects ≡ Some ([] ++ effects_of deeds) =
    ap (λ (w : WorldValue). w.effects) (is ∙ after_deeds-effects w deeds) ∙ effects_so_far w (effects_of deeds)
    [] none in
    let same : Some performed ≡ Some (effects_of deeds) = sym known ∙ all in
    cc

-- ---- the step is one of the whole

-- whether a transition begins is what the step tells
pub counts_is : (counts : Bool) (deeds : List Deed) → IsOneStep counts deeds → is_transition deeds ≡ counts
counts_is counts [] one = absurd one
counts_is counts (first ∷ rest) one = one.1

-- the same deeds, of another shape
abbrev reshaped : {A B : List Deed → Type 0} {d : Definition} {from to : ControlPoint} {m n : MachineValue}
    {w v : WorldValue} → (goes : Goes A d from m w to n v) → B goes.deeds → Goes B d from m w to n v
reshaped goes shape = record {
  deeds = goes.deeds;
  news = goes.news;
  history = goes.history;
  shape = shape;
  who = goes.who;
  port = goes.port;
  pid = goes.pid;
  drawn = goes.drawn;
  fresh = goes.fresh;
  fresh_still = goes.fresh_still;
  outside = goes.outside;
  own = goes.own;
  recorded = goes.recorded;
  world = goes.world;
  time = goes.time;
  are_true = goes.are_true;
  runs = goes.runs;
}

pub leads_moved : (counts : Bool) (g h : OrderState) (number place : ℕ) (old new : Member)
    → IsOfSystem g.system old.instance → old.instance.who.pid ≡ place + 1 → number ≡ place + 1
    → slice_get g.members place ≡ Some old → old.instance.position ≢ at.Ended → old.pending ≡ [] → IsNothingDue g
    → Keeps old.instance new.instance → Moves g.system g.clock counts old new
    → h ≡ record g { members = set g.members place new } → (ps : List Behaviour) → AreBehaviours g.system ps
    → OneMore ps g (if counts then number ∷ [] else []) (if counts then Transition else Within) h
leads_moved counts g h number place old new member pid is_number there lives done due keeps moves now ps behaviours =
    let found : Meaning ps old.instance = meaning ps g.system old.instance behaviours member in
    let moved = moves (record { system = old.instance.system; behaviour = found.p }) found.meant.is_run in
    let deeds = moved.goes.deeds in
    let counted : is_transition deeds ≡ counts = counts_is counts deeds moved.goes.shape in
    let pid_is : old.instance.who.pid ≡ suc place = pid ∙ omega arith in
    let changed : Member = record {
      instance = new.instance;
      pending = behind_first (all_pending deeds);
      looked = false;
    } in
    let pending_is : new.pending ≡ behind_first (all_pending deeds) =
    moved.pending ∙ ap behind_first (woven_deeds old.instance.who.pid deeds
    (runs_effects (record { system = old.instance.system; behaviour = found.p }) old.instance.who
    (place_of old.instance.position) old.instance.store old.instance.owner.state moved.goes.runs)) in
    let new_is : new ≡ changed =
    λ i. record { instance = new.instance; pending = pending_is i; looked = moved.looked i } in
    let members : set g.members place new ≡ with_member g.members old.instance.who.pid changed =
    ap (set g.members place) new_is ∙ sym (ap (λ n. with_member g.members n changed) pid_is) in
    let tells : (if is_transition deeds then old.instance.who.pid ∷ [] else []) ≡ (if counts then number ∷ [] else []) =
    ap (λ b. if b then old.instance.who.pid ∷ [] else []) counted
    ∙ ap (λ n. if counts then n ∷ [] else []) (pid ∙ sym is_number) in
    record {
      happening = Moved old.instance.who deeds;
      follows = record {
        old = old;
        new = new.instance;
        p = found.p;
        world = moved.world;
        is_there = ap (member_at g.members) pid_is ∙ there;
        is_who = refl;
        of_system = member.system_is;
        lives = lives;
        all_done = done;
        nothing_due = due;
        meant = found.meant;
        keeps = keeps;
        undrawn = moved.undrawn;
        goes = reshaped moved.goes (subst (λ b. IsOneStep b deeds) (sym counted) moved.goes.shape);
        deeds_are = refl;
        now = now ∙ ap (λ all. record g { members = all }) members;
      };
      tells = tells;
      part_is = ap (λ b. if b then Transition else Within) counted;
    }

-- ---- the step of one instance

drop_all : {X : Type 0} (xs ys : List X) → drop (length xs) (xs ++ ys) ≡ ys
drop_all [] ys = refl
drop_all (x ∷ xs) ys = drop_all xs ys

pub has_moved : (counts : Bool) (system : SystemValue) (clock : ℕ) (performed : List kept.Effect) (old new : Member)
    (w v : WorldValue) → w ≡ world_with system clock [] → steps.Moves counts old.instance w new.instance v
    → v.effects ≡ Some (map effect_of performed) → new.instance.owner.drawn ≡ []
    → IsKeptFrom (length old.instance.events) (map effect_of performed) new.instance new
    → Moves system clock counts old new
has_moved counts system clock performed old new w v sees moves known undrawn is_kept = λ d is_run.
    let goes = subst (λ (u : WorldValue). steps.Moves counts old.instance u new.instance v) sees moves d is_run in
    let effects = effects_done (world_with system clock []) v goes.deeds
    (map effect_of performed) refl goes.world known in
    let events : drop (length old.instance.events) new.instance.events ≡ events_of goes.deeds =
    ap (drop (length old.instance.events)) goes.recorded ∙ drop_all old.instance.events (events_of goes.deeds) in
    record {
      world = v;
      goes = goes;
      pending = is_kept.pending ∙ (λ i. behind_first (woven (acts_of (events i)) (effects i)));
      looked = is_kept.looked;
      undrawn = undrawn;
    }

-- so it is with what is kept of a step
pub moved_on : (counts : Bool) (system : SystemValue) (clock from : ℕ) (performed : List kept.Effect) (old new : Member)
    (i : InstanceValue) (w v : WorldValue) → w ≡ world_with system clock [] → steps.Moves counts old.instance w i v
    → v.effects ≡ Some (map effect_of performed) → i.owner.drawn ≡ [] → from ≡ length old.instance.events
    → new.instance ≡ i → IsKeptFrom from (map effect_of performed) i new → Moves system clock counts old new
moved_on counts system clock from performed old new i w v sees moves known undrawn from_is same is_kept =
    has_moved counts system clock performed old new w v sees
    (subst (λ (j : InstanceValue). steps.Moves counts old.instance w j v) (sym same) moves) known
    (subst (λ (j : InstanceValue). j.owner.drawn ≡ []) (sym same) undrawn)
    (subst (λ n. IsKeptFrom n (map effect_of performed) new.instance new) from_is
    (subst (λ (j : InstanceValue). IsKeptFrom from (map effect_of performed) j new) (sym same) is_kept))

-- the effects of a step are those of its events
pub never_amiss : (counts : Bool) (system : SystemValue) (clock from : ℕ) (performed : List kept.Effect) (old : Member)
    (i : InstanceValue) (w v : WorldValue) → w ≡ world_with system clock [] → steps.Moves counts old.instance w i v
    → v.effects ≡ Some (map effect_of performed) → from ≡ length old.instance.events
    → fits (acts_of (drop from i.events)) (map effect_of performed) ≡ false → (d : Definition)
    → IsRunAs old.instance d → ⊥
never_amiss counts system clock from performed old i w v sees moves known from_is amiss = λ d is_run.
    let goes = moves d is_run in
    let none : w.effects ≡ Some [] = ap (λ (u : WorldValue). u.effects) sees in
    let effects = effects_done w v goes.deeds (map effect_of performed) none goes.world known in
    let events : drop from i.events ≡ events_of goes.deeds =
    (λ k. drop (from_is k) (goes.recorded k)) ∙ drop_all old.instance.events (events_of goes.deeds) in
    let fit : fits (acts_of (drop from i.events)) (map effect_of performed) ≡ true =
    (λ k. fits (acts_of (events k)) (effects k))
    ∙ fits_deeds old.instance.who.pid goes.deeds
    (runs_effects d old.instance.who (place_of old.instance.position) old.instance.store old.instance.owner.state
    goes.runs) in
    let wrong : false ≡ true = sym amiss ∙ fit in
    cc

-- one that lived has ended by the step
pub ended_by : (counts : Bool) (old new : InstanceValue) (w v : WorldValue) → old.position ≢ at.Ended
    → steps.EndsBy counts old w new v → steps.Moves counts old w new v
ended_by counts old new w v lives ends = elim ends [
  | inl was ↦ absurd (lives was.0)
  | inr now ↦ now.2
]

-- ---- whatever came of it

set_there : {X : Type 0} (xs : List X) (place : ℕ) (x : X) → slice_get xs place ≡ Some x → set xs place x ≡ xs
set_there [] place x there = let no : ⊥ = cc in absurd no
set_there (first ∷ xs) zero x there = let is : x ≡ first = cc in ap (λ y. y ∷ xs) is
set_there (first ∷ xs) (suc place) x there = ap (λ all. first ∷ all) (set_there xs place x there)

pub made_leads : (made : Move) (ready : List ℕ) (g h : OrderState) (number place : ℕ) (old new : Member)
    → AreKept ready g.system g.members → slice_get g.members place ≡ Some old → place + 1 ≡ number
    → old.instance.position ≢ at.Ended → old.pending ≡ [] → IsNothingDue g → Keeps old.instance new.instance
    → IsMove g.system g.clock made old new → h ≡ record g { members = set g.members place new }
    → LeadsBy made g number h
made_leads move.Began ready g h number place old new kept there is lives done due keeps moves now = λ ps behaviours.
    leads_moved true g h number place old new (kept.of_system place old there) (kept.numbers place old there) (sym is)
    there lives done due keeps moves now ps behaviours
made_leads move.Failing ready g h number place old new kept there is lives done due keeps moves now = λ ps behaviours.
    leads_moved false g h number place old new (kept.of_system place old there) (kept.numbers place old there) (sym is)
    there lives done due keeps moves now ps behaviours
made_leads move.Nothing ready g h number place old new kept there is lives done due keeps waits now = λ ps behaviours.
    let found : Meaning ps old.instance = meaning ps g.system old.instance behaviours
    (kept.of_system place old there) in
    let same : new ≡ old =
    waits.0 (record { system = old.instance.system; behaviour = found.p }) found.meant.is_run in
    now ∙ ap (λ members. record g { members = members })
    (ap (set g.members place) same ∙ set_there g.members place old there)
made_leads move.Amiss ready g h number place old new kept there is lives done due keeps never now = λ ps behaviours.
    let found : Meaning ps old.instance = meaning ps g.system old.instance behaviours
    (kept.of_system place old there) in
    never (record { system = old.instance.system; behaviour = found.p }) found.meant.is_run

-- ---- what a step comes to, once what it has still to do is kept

pub finished : {E : Type 0} (r : Result Move E) (made : Move) (Amiss Kept : Type 0) (system : SystemValue) (clock : ℕ)
    (old new : Member) → IfOk r (λ came. ((came ≡ move.Amiss) × Amiss) ⊎ ((came ≡ made) × Kept))
    → (Amiss → (d : Definition) → IsRunAs old.instance d → ⊥) → (Kept → IsMove system clock made old new)
    → IfOk r (λ came. IsMove system clock came old new)
finished (Ok m) made Amiss Kept system clock old new either never moves = elim either [
  | inl w ↦ subst (λ came. IsMove system clock came old new) (sym w.0) (never w.1)
  | inr w ↦ subst (λ came. IsMove system clock came old new) (sym w.0) (moves w.1)
]
finished (Err e) made Amiss Kept system clock old new either never moves = tt
