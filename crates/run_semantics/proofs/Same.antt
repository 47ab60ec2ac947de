-- What an instance selects and tries is the same, whatever its owner draws: a signal makes no timer active, and a timer
-- that has expired is active still.
use Rattle.std.proofs.Common.{◌≡◌, ◌∙◌, ◌==◌, ◌||◌, sym, ap, subst, refl, ℕ, Bool, true, false, cond, List, [], ◌∷◌, ◌++◌}
use Rattle.port_model.specs.Calls.{after_draw, after_draws, after_entry}
use Rattle.port_model.specs.declared.inbox.entry.Entry.{Entry}
use Rattle.port_model.specs.declared.inbox.entry.Entry.TheVariants.{Signal, Timer}
use Rattle.port_model.specs.declared.inbox.placed.Placed.{Placed}
use Rattle.port_model.specs.Port.{PortState, expire_in, expires}
use Rattle.port_model.specs.Timers.{is_active, same_key, with_waiting}
use Rattle.port_model.specs.declared.got.Got.TheVariants as got
use Rattle.port_model.specs.declared.timer.ActiveTimer.{ActiveTimer}
use Rattle.port_model.specs.declared.timer.Phase.TheVariants.{Waiting}
use Rattle.port_model.specs.declared.values.timer_key.TimerKey.{TimerKey}
use Rattle.port_model.specs.History.{PortEvent}
use Rattle.port_model.specs.declared.values.pid.Pid.TheVariants.{Of}
use Rattle.port_model.specs.declared.selection.Class.{Class}
use Rattle.run_record.specs.Environment.{Environment, environment, sorts_of}
use Rattle.run_record.specs.Value.{truth_at, value_of}
use Rattle.run_record.specs.declared.evaluation.identity.Identity.{Identity}
use Rattle.run_record.specs.declared.evaluation.store.Store.{Store}
use Rattle.run_record.specs.declared.failure.Failure.{Failure}
use Rattle.run_semantics.specs.Fails.{FailsIn}
use Rattle.run_semantics.specs.Leads.{Selecting}
use Rattle.run_semantics.specs.ControlPoint.{Definition}
use Rattle.run_semantics.specs.Selection.{Selects, tried}
use Rattle.sdl_system.specs.Behaviour.{ContinuousSignal, StateMeaning}
use Rattle.sdl_system.specs.System.{SystemValue}
use Rattle.sdl_system.specs.Term.{Term}
use Rattle.sdl_system.specs.declared.id.StateId.{StateId}

-- ---- which timers are active

expired-key : (b : Bool) (timer : ActiveTimer) (arm : ℕ)
    → (cond b (record timer { phase = Waiting arm }) timer).key ≡ timer.key
expired-key true timer arm = refl
expired-key false timer arm = refl

is_active-with_waiting : (key expired : TimerKey) (arm : ℕ) (timers : List ActiveTimer)
    → is_active key (with_waiting expired arm timers) ≡ is_active key timers
is_active-with_waiting key expired arm [] = refl
is_active-with_waiting key expired arm (timer ∷ rest) =
    ap (λ (k : TimerKey). same_key k key || is_active key (with_waiting expired arm rest))
    (expired-key (same_key timer.key expired) timer arm)
    ∙ ap (λ b. same_key timer.key key || b) (is_active-with_waiting key expired arm rest)

chosen-timers : (b : Bool) (p q : PortState) (key : TimerKey) → is_active key p.timers ≡ is_active key q.timers
    → is_active key (cond b p q).timers ≡ is_active key q.timers
chosen-timers true p q key e = e
chosen-timers false p q key e = refl

entry_active : (pid : ℕ) (q : PortState) (at : ℕ) (entry : Entry) (key : TimerKey)
    → is_active key (after_entry pid q at entry).timers ≡ is_active key q.timers
entry_active pid q at (Signal item) key =
    chosen-timers q.alive (record q { waiting = q.waiting ++ got.Signal item ∷ [] }) q key refl
entry_active pid q at (Timer fuse) key =
    chosen-timers (fuse.pid == pid) (expire_in q fuse.key fuse.arm fuse.due at) q key
    (chosen-timers (expires q fuse.key fuse.arm fuse.due at)
    (record q {
      waiting = q.waiting ++ got.Timer fuse.key ∷ [];
      timers = with_waiting fuse.key fuse.arm q.timers;
    }) q key (is_active-with_waiting key fuse.key fuse.arm q.timers))

pub drawn_active : (pid : ℕ) (q : PortState) (news : List Placed) (key : TimerKey)
    → is_active key (after_draws pid q news).timers ≡ is_active key q.timers
drawn_active pid q [] key = refl
drawn_active pid q (placed ∷ more) key =
    drawn_active pid (after_draw pid q placed) more key ∙ entry_active pid q placed.at placed.entry key

-- ---- what is known

-- so expressions are evaluated under the same
pub environment_drawn : (system : SystemValue) (who : Identity) (s : Store) (pid : ℕ) (q : PortState)
    (news : List Placed) → environment system who s (after_draws pid q news) ≡ environment system who s q
environment_drawn system who s pid q news = λ i. record {
  variables = s.variables;
  own = Of who.pid;
  parent = who.parent;
  offspring = s.offspring;
  sender = s.sender;
  now = s.time;
  sorts = sorts_of system;
  active = λ key. drawn_active pid q news key i;
}

pub value_drawn : (system : SystemValue) (who : Identity) (s : Store) (pid : ℕ) (q : PortState) (news : List Placed)
    (term : Term) → value_of (environment system who s (after_draws pid q news)) term
    ≡ value_of (environment system who s q) term
value_drawn system who s pid q news term =
    ap (λ (here : Environment). value_of here term) (environment_drawn system who s pid q news)

pub truth_drawn : (system : SystemValue) (who : Identity) (s : Store) (pid : ℕ) (q : PortState) (news : List Placed)
    (term : Term) → truth_at (environment system who s (after_draws pid q news)) term
    ≡ truth_at (environment system who s q) term
truth_drawn system who s pid q news term =
    ap (λ (here : Environment). truth_at here term) (environment_drawn system who s pid q news)

-- ---- what is selected and tried

module _ (d : Definition) (who : Identity) (q : PortState) where
  pub selects_drawn : (state : StateMeaning) (s : Store) (classes : List Class) (pid : ℕ) (news : List Placed)
      → Selects d.behaviour state (environment d.system who s q) classes
      → Selects d.behaviour state (environment d.system who s (after_draws pid q news)) classes
  selects_drawn state s classes pid news selects =
      subst (λ (here : Environment). Selects d.behaviour state here classes)
      (sym (environment_drawn d.system who s pid q news)) selects

  -- with the same state
  abbrev pub selecting_drawn : (n : StateId) (s : Store) (classes : List Class) (pid : ℕ) (news : List Placed)
      → Selecting d who q n s classes → Selecting d who (after_draws pid q news) n s classes
  selecting_drawn n s classes pid news selecting = record {
    state = selecting.state;
    is = selecting.is;
    selects = selects_drawn selecting.state s classes pid news selecting.selects;
  }

  pub tried_drawn : (s : Store) (signals : List ContinuousSignal) (pid : ℕ) (news : List Placed)
      → tried (environment d.system who s q) signals
      ≡ tried (environment d.system who s (after_draws pid q news)) signals
  tried_drawn s signals pid news =
      ap (λ (here : Environment). tried here signals) (sym (environment_drawn d.system who s pid q news))

  pub fails_drawn : (state : StateMeaning) (s : Store) (calls : List PortEvent) (why : Failure) (pid : ℕ)
      (news : List Placed) → FailsIn d.behaviour state (environment d.system who s q) calls why
      → FailsIn d.behaviour state (environment d.system who s (after_draws pid q news)) calls why
  fails_drawn state s calls why pid news fails =
      subst (λ (here : Environment). FailsIn d.behaviour state here calls why)
      (sym (environment_drawn d.system who s pid q news)) fails
