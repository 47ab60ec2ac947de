-- The last step of an instance, and the close of its record.
use Rattle.std.proofs.Common.{◌≡◌, ◌∙◌, ap, append-nil, append_assoc, arith, cond, refl, inl, inr, subst, sym, ℕ, ◌+◌, Bool, true, false, List, [], ◌∷◌, ◌++◌, None, Some, count_by}
use Rattle.std.specs.Prelude.{IsTrue, Option}
use Rattle.std.proofs.lemmas.List.Elements.{All-head, All-tail}
use Rattle.std.proofs.lemmas.List.Sums.{sum_by-append, sum_by-cons}
use Rattle.std.specs.declared.alloc.Global.{Global}
use Rattle.crossbeam_queue.specs.SegTies.{SegId}
use Rattle.port_model.specs.Ends.{OwnerState}
use Rattle.port_model.specs.declared.values.value.Value.{Value}
use Rattle.run_record.specs.declared.evaluation.identity.Identity.{Identity}
use Rattle.run_record.specs.declared.evaluation.store.Store.{Store}
use Rattle.run_record.specs.Event as event
use Rattle.run_record.specs.Event.{Event, is_beginning}
use Rattle.run_record.specs.Record.{RecordValue}
use Rattle.run_semantics.specs.ControlPoint.{Definition}
use Rattle.run_semantics.specs.Effect.{Deed, Effect, events_of}
use Rattle.run_semantics.specs.Goes.{AreInner, IsInner, IsOneStep}
use Rattle.run_semantics.specs.Leads.{IsQuiet}
use Rattle.run_semantics.specs.World.{WorldValue}
use Rattle.sdl_interp.specs.Work.{IsOf}
use Rattle.sdl_interp.specs.declared.transitions.machine.Position.{Position}
use Rattle.sdl_interp.specs.declared.transitions.machine.Position.TheVariants as at
use Rattle.sdl_interp.specs.Instance.{EndsBy, InstanceValue, IsAtRest, IsClosed, IsIdle, IsQuietAt, IsRunAs, Keeps, Moves, closing, work_of}
use Rattle.sdl_interp.specs.Stimulus.{WaitsAt}
use Rattle.sdl_system.specs.System.{SystemValue}
use Rattle.sdl_system.specs.declared.process.Process.{Process}
use Rattle.settle_closing.specs.Left.{HasNoMore, IsClosedNow, IsLeftOfOne}
use Rattle.threads_instance.specs.Doings.{children_of}
use Rattle.threads_instance.specs.RunBy.{HasRunBy}
use Rattle.threads_instance.specs.ThreadInstance.{HasPut, IsSeated}
use Rattle.threads_instance.specs.declared.doings.Child.{Child}
use Rattle.threads_ports.specs.Peers.{PeersState}

-- ---- events with which no transition begins

begins_append : (first later : List Event)
    → count_by is_beginning (first ++ later) ≡ count_by is_beginning first + count_by is_beginning later
begins_append first later = sum_by-append (λ (e : Event). cond (is_beginning e) 1 0) first later

begins_cons : (e : Event) (rest : List Event)
    → count_by is_beginning (e ∷ rest) ≡ cond (is_beginning e) 1 0 + count_by is_beginning rest
begins_cons e rest = sum_by-cons (λ (e : Event). cond (is_beginning e) 1 0) e rest

-- one is no beginning, and so are the rest
none_more : (e : Event) (rest : List Event) → is_beginning e ≡ false → count_by is_beginning rest ≡ 0
    → count_by is_beginning (e ∷ rest) ≡ 0
none_more e rest other none =
    begins_cons e rest ∙ ap (λ b. cond b 1 0 + count_by is_beginning rest) other ∙ omega (arith, none)

pub has_more : (old mid new : List Event) → HasNoMore old mid → HasNoMore mid new → HasNoMore old new
has_more old mid new first second = record {
  more = first.more ++ second.more;
  recorded = second.recorded ∙ ap (λ l. l ++ second.more) first.recorded ∙ append_assoc old first.more second.more;
  none_begins = begins_append first.more second.more ∙ omega (arith, first.none_begins, second.none_begins);
}

has_same : (old new : List Event) → new ≡ old → HasNoMore old new
has_same old new same = record { more = []; recorded = same ∙ sym (append-nil old); none_begins = refl }

inner_begins : (happened : Event) → IsInner happened → is_beginning happened ≡ false
inner_begins (event.Start at) inner = absurd inner
inner_begins (event.Consumed at got) inner = absurd inner
inner_begins (event.Prior at got) inner = absurd inner
inner_begins (event.Discarded at got) inner = absurd inner
inner_begins (event.Provided at number) inner = absurd inner
inner_begins happened inner = refl

inner_none : (deeds : List Deed) → AreInner deeds → count_by is_beginning (events_of deeds) ≡ 0
inner_none [] inner = refl
inner_none (deed ∷ rest) inner =
    none_more deed.event (events_of rest)
    (inner_begins deed.event (All-head (λ (one : Deed). IsInner one.event) deed rest inner))
    (inner_none rest (All-tail (λ (one : Deed). IsInner one.event) deed rest inner))

-- a step that is no transition
step_none : (deeds : List Deed) → IsOneStep false deeds → count_by is_beginning (events_of deeds) ≡ 0
step_none [] step = absurd step
step_none (first ∷ rest) step = none_more first.event (events_of rest) step.1 (inner_none rest step.2)

-- what closes a record is no beginning
closing_none : (whole : Bool) (position : Position) → count_by is_beginning (closing whole position) ≡ 0
closing_none whole at.BeforeStart = none_more (event.Cut None) [] refl refl
closing_none true (at.In n) = none_more (event.Rest n) [] refl refl
closing_none false (at.In n) = none_more (event.Cut (Some n)) [] refl refl
closing_none whole at.Ended = refl

-- ---- a step that finds nothing to do

waits_recorded : (d : Definition) (position : Position) (old new : InstanceValue) (w v : WorldValue)
    → WaitsAt d position (work_of old) w (work_of new) v → new.events ≡ old.events
waits_recorded d at.BeforeStart old new w v waiting = absurd waiting
waits_recorded d at.Ended old new w v waiting = absurd waiting
waits_recorded d (at.In n) old new w v waiting = waiting.recorded

quiet_at : (d : Definition) (position : Position) (old new : InstanceValue) (w v : WorldValue)
    → WaitsAt d position (work_of old) w (work_of new) v → Keeps old new → IsQuietAt d position new
quiet_at d at.BeforeStart old new w v waiting keeps = absurd waiting
quiet_at d at.Ended old new w v waiting keeps = absurd waiting
quiet_at d (at.In n) old new w v waiting keeps = (
  waiting.classes,
  subst (λ (store : Store). IsQuiet d new.who new.owner.state n store waiting.classes) (sym waiting.store)
      (subst (λ (who : Identity). IsQuiet d who new.owner.state n old.store waiting.classes) (sym keeps.who)
      waiting.quiet),
)

-- what is run as an instance was run as it before
was_run : (d : Definition) (old new : InstanceValue) → Keeps old new → IsRunAs new d → IsRunAs old d
was_run d old new keeps is_run =
    subst (λ (system : SystemValue). IsOf system old.process d) keeps.system
    (subst (λ (process : Process). IsOf new.system process d) keeps.process is_run)

idle_rests : (old new : InstanceValue) (w v : WorldValue) → Keeps old new → IsIdle old w new v → IsAtRest new
idle_rests old new w v keeps idle = λ d is_run.
    subst (λ (position : Position). IsQuietAt d position new) (sym idle.0)
    (quiet_at d old.position old new w v (idle.1 d (was_run d old new keeps is_run)) keeps)

ended_rests : (i : InstanceValue) → i.position ≡ at.Ended → IsAtRest i
ended_rests i ended = λ d is_run. subst (λ (position : Position). IsQuietAt d position i) (sym ended) tt

-- who has made such a step rests, and has recorded no transition
pub record Rested (old new : InstanceValue) : Type 0 where
  pub rests : IsAtRest new
  pub events : (d : Definition) → IsRunAs old d → HasNoMore old.events new.events

pub idle_rested : (old new : InstanceValue) (w v : WorldValue) → Keeps old new → IsIdle old w new v → Rested old new
idle_rested old new w v keeps idle = record {
  rests = idle_rests old new w v keeps idle;
  events = λ d is_run. has_same old.events new.events (waits_recorded d old.position old new w v (idle.1 d is_run));
}

moves_none : (old new : InstanceValue) (w v : WorldValue) → Moves false old w new v → (d : Definition) → IsRunAs old d
    → HasNoMore old.events new.events
moves_none old new w v moves d is_run =
    let goes = moves d is_run in
    record { more = events_of goes.deeds; recorded = goes.recorded; none_begins = step_none goes.deeds goes.shape }

ended_rested : (old new : InstanceValue) (w v : WorldValue) → EndsBy false old w new v → Rested old new
ended_rested old new w v ends =
    elim ends [
      | inl same ↦ record {
        rests = ended_rests new (ap (λ (i : InstanceValue). i.position) same.1 ∙ same.0);
        events = λ d is_run. has_same old.events new.events (ap (λ (i : InstanceValue). i.events) same.1);
      }
      | inr end ↦ record { rests = ended_rests new end.1; events = moves_none old new w v end.2 }
    ]

-- so it is with an end that is no transition
pub none_counted : (counts : Bool) (old new : InstanceValue) (w v : WorldValue) → EndsBy counts old w new v
    → counts ≡ false → Rested old new
none_counted counts old new w v ends none =
    ended_rested old new w v (subst (λ (b : Bool). EndsBy b old w new v) none ends)

-- ---- the close

pub closed_now : (whole : Bool) (i : InstanceValue) (trace : RecordValue) → IsClosed true whole i trace
    → IsClosedNow i trace
closed_now whole i trace done = record {
  who = λ k. record { process = done.process k; pid = done.pid k; parent = done.parent k };
  events = λ d is_run. record {
    more = closing whole i.position;
    recorded = done.events;
    none_begins = closing_none whole i.position;
  };
}

-- closed once it rests, it is closed as it was before
pub closed_rested : (old new : InstanceValue) (trace : RecordValue) → Keeps old new → IsClosedNow new trace
    → ((d : Definition) → IsRunAs old d → HasNoMore old.events new.events) → IsClosedNow old trace
closed_rested old new trace keeps now events = record {
  who = now.who ∙ keeps.who;
  events = λ d is_run. has_more old.events new.events trace.events (events d is_run)
      (now.events d (still_run d is_run));
} where
  still_run : (d : Definition) → IsRunAs old d → IsRunAs new d
  still_run d is_run =
      subst (λ (system : SystemValue). IsOf system new.process d) (sym keeps.system)
      (subst (λ (process : Process). IsOf old.system process d) (sym keeps.process) is_run)

-- what is left of an instance, by what is known as it is closed
pub is_left : (named : Option SystemValue) (ports : ℕ → SegId Global) (whole : Bool) (i : InstanceValue)
    (trace : RecordValue) (owner : OwnerState) (peers : PeersState) (given : List Value) (children : List Child)
    → IsClosed true whole i trace → (effects : List Effect) → HasRunBy true i given effects
    → children ≡ children_of effects → (IsTrue whole → IsAtRest i) → IsSeated named ports i → owner ≡ i.owner
    → HasPut i peers → IsLeftOfOne named ports whole trace owner peers given children
is_left named ports whole i trace owner peers given children done effects run created rests seated owner_is put = record {
  instance = i;
  left = record {
    closed = done;
    effects = effects;
    run = run;
    created = created;
    rests = rests;
    seated = seated;
    owner_is = owner_is;
    put = put;
  };
}
