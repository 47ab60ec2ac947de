-- An instance that waits stays as it is.
use Rattle.std.proofs.Common.{◌≡◌, ◌∙◌, ◌++◌, List, [], ◌∷◌, ap, refl, subst, sym}
use Rattle.port_model.specs.Ends.{OwnerState, single}
use Rattle.port_model.specs.History.{Expire, PortEvent, Put, Take}
use Rattle.port_model.specs.Laws.{IsFromOutside}
use Rattle.port_model.specs.Port.{PortState}
use Rattle.port_model.specs.declared.taken.Taken.TheVariants.{Nothing}
use Rattle.run_record.specs.declared.evaluation.identity.Identity.{Identity}
use Rattle.run_record.specs.declared.evaluation.store.Store.{Store}
use Rattle.run_order.specs.Kept.{Waits}
use Rattle.run_order.specs.declared.member.Member.{Member}
use Rattle.run_semantics.proofs.Outside.{outside_of-append}
use Rattle.run_semantics.specs.ControlPoint.{ControlPoint, Definition}
use Rattle.run_semantics.specs.Effect.{Deed}
use Rattle.run_semantics.specs.Goes.{MachineValue, drawn_as}
use Rattle.run_semantics.specs.Leads.{IsQuiet}
use Rattle.run_semantics.specs.Runs.{Runs, acts, hears, outside_of, still, turns, waits}
use Rattle.run_semantics.specs.World.{WorldValue}
use Rattle.sdl_interp.specs.declared.transitions.machine.Position.{Position}
use Rattle.sdl_interp.specs.declared.transitions.machine.Position.TheVariants as at
use Rattle.sdl_interp.specs.Instance.{InstanceValue, IsAtRest, IsIdle, IsQuietAt, IsRunAs, Keeps, work_of}
use Rattle.sdl_interp.specs.Stimulus.{WaitsAt}
use Rattle.sdl_interp.specs.Work.{IsOf}
use Rattle.sdl_system.specs.System.{SystemValue}
use Rattle.sdl_system.specs.declared.process.Process.{Process}
use Rattle.serial_order.proofs.Own.{later_none}

-- an owner for one thread
abbrev pub IsAlone : OwnerState → Type 0
IsAlone o = o ≡ single o.pid o.state o.armed

snoc_none : {X : Type 0} (xs : List X) (x : X) → xs ++ x ∷ [] ≡ [] → ⊥
snoc_none [] x e = cc
snoc_none (first ∷ xs) x e = cc

first_none : {X : Type 0} (first later : List X) → first ++ later ≡ [] → first ≡ []
first_none [] later e = refl
first_none (x ∷ xs) later e = let no : ⊥ = cc in absurd no

heard_outside : (heard : PortEvent) → IsFromOutside heard → outside_of (heard ∷ []) ≡ [] → ⊥
heard_outside (Put item) outside none = cc
heard_outside (Expire key arm due at) outside none = cc
heard_outside event outside none = outside

-- where nothing is done and nothing comes the port stays as it is
port_stays : {d : Definition} {who : Identity} {from : ControlPoint} {s : Store} {q : PortState} {deeds : List Deed}
    {history : List PortEvent} {to : ControlPoint} {t : Store} {r : PortState}
    → Runs d who from s q deeds history to t r
    → deeds ≡ [] → outside_of history ≡ [] → r ≡ q
port_stays still none quiet = refl
port_stays (acts {deeds = deeds} run deed to t r leads legal) none quiet = absurd (snoc_none deeds deed none)
port_stays (turns run to t step) none quiet = port_stays run none quiet
port_stays (hears {history = history} run heard r outside step) none quiet =
    absurd (heard_outside heard outside
    (later_none (outside_of history) (outside_of (heard ∷ [])) (sym (outside_of-append history (heard ∷ [])) ∙ quiet)))
port_stays (waits {history = history} run classes is_quiet step) none quiet =
    port_stays run none (first_none (outside_of history) (outside_of (Take classes Nothing ∷ []))
    (sym (outside_of-append history (Take classes Nothing ∷ [])) ∙ quiet))

waited : (d : Definition) (position : Position) (m n : MachineValue) (w v : WorldValue) → WaitsAt d position m w n v
    → IsAlone m.owner → IsAlone n.owner → n ≡ m
waited d at.BeforeStart m n w v waiting one other = absurd waiting
waited d at.Ended m n w v waiting one other = absurd waiting
waited d (at.In state) m n w v waiting one other =
    let undrawn : m.owner.drawn ++ waiting.news ≡ [] = sym waiting.drawn ∙ ap (λ (o : OwnerState). o.drawn) other in
    let none : waiting.news ≡ [] = later_none m.owner.drawn waiting.news undrawn in
    let quiet : outside_of waiting.history ≡ [] = waiting.outside ∙ ap (drawn_as m.owner.pid) none in
    let port : n.owner.state ≡ m.owner.state = port_stays waiting.runs refl quiet in
    let owner : n.owner ≡ m.owner =
    other ∙ (λ i. single (waiting.pid i) (port i) (waiting.armed i)) ∙ sym one in
    λ i. record { who = waiting.who i; store = waiting.store i; owner = owner i; events = waiting.recorded i }

pub idle_same : (d : Definition) (old new : InstanceValue) (w v : WorldValue) → IsRunAs old d → Keeps old new
    → IsIdle old w new v → IsAlone old.owner → IsAlone new.owner → new ≡ old
idle_same d old new w v is_run keeps idle one other =
    let work : work_of new ≡ work_of old =
    waited d old.position (work_of old) (work_of new) w v (idle.1 d is_run) one other in
    λ i. record {
      system = keeps.system i;
      process = keeps.process i;
      who = (work i).who;
      position = idle.0 i;
      store = (work i).store;
      owner = (work i).owner;
      events = (work i).events;
    }

quiet_at : (d : Definition) (position : Position) (old new : InstanceValue) (w v : WorldValue)
    → WaitsAt d position (work_of old) w (work_of new) v → Keeps old new → IsQuietAt d position new
quiet_at d at.BeforeStart old new w v waiting keeps = absurd waiting
quiet_at d at.Ended old new w v waiting keeps = absurd waiting
quiet_at d (at.In n) old new w v waiting keeps = (
  waiting.classes,
  subst (λ (store : Store). IsQuiet d new.who new.owner.state n store waiting.classes) (sym waiting.store)
      (subst (λ (who : Identity). IsQuiet d who new.owner.state n old.store waiting.classes) (sym keeps.who)
      waiting.quiet),
)

-- whoever waits is at rest
pub idle_rests : (old new : InstanceValue) (w v : WorldValue) → Keeps old new → IsIdle old w new v → IsAtRest new
idle_rests old new w v keeps idle = λ d is_run.
    let was : IsRunAs old d = subst (λ (system : SystemValue). IsOf system old.process d) keeps.system
    (subst (λ (process : Process). IsOf new.system process d) keeps.process is_run) in
    subst (λ (position : Position). IsQuietAt d position new) (sym idle.0)
    (quiet_at d old.position old new w v (idle.1 d was) keeps)

-- and so is one that has ended
pub ended_rests : (i : InstanceValue) → i.position ≡ at.Ended → IsAtRest i
ended_rests i ended = λ d is_run. subst (λ (position : Position). IsQuietAt d position i) (sym ended) tt

-- whoever waited was at rest before
pub rested_before : (old new : Member) → Waits old new → IsAtRest old.instance
rested_before old new found = λ d is_run.
    let same : new ≡ old = found.0 d is_run in
    subst (λ (m : Member). IsQuietAt d m.instance.position m.instance) same
    (found.2 d (subst (λ (m : Member). IsRunAs m.instance d) (sym same) is_run))
