-- Acts with their effects, one after the other.
use Rattle.std.proofs.Common.{◌≡◌, ◌∙◌, ◌+◌, ◌++◌, ℕ, Bool, true, false, List, [], ◌∷◌, Option, None, Some, MatchOption, ap, append_assoc, drop, map, refl, subst, sym}
use Rattle.std.proofs.lemmas.List.{drop-drop}
use Rattle.port_model.specs.declared.inbox.entry.Fuse.{Fuse}
use Rattle.port_model.specs.declared.values.item.Item.{Item}
use Rattle.port_model.specs.declared.values.value.Value.{Value}
use Rattle.run_order.specs.Pending.{all_pending, behind_first, pending_by}
use Rattle.run_order.specs.Woven.{IsNextPending, IsOwn, act_of, acts_of, fits, is_inside, woven}
use Rattle.run_order.specs.declared.act.Act.{Act}
use Rattle.run_order.specs.declared.act.Act.TheVariants as act
use Rattle.run_order.specs.declared.pending.Pending.{Pending}
use Rattle.run_order.specs.declared.pending.Pending.TheVariants as pending
use Rattle.run_record.specs.Event as event
use Rattle.run_record.specs.Event.{Event}
use Rattle.run_record.specs.Told.{event_told}
use Rattle.run_record.specs.declared.reader.Told.{Told}
use Rattle.run_semantics.proofs.Acting.{AreActs, AreActsOf}
use Rattle.run_semantics.specs.Effect.{Deed, Effect, effects_of, events_of}
use Rattle.sdl_system.specs.declared.id.ProcessId.{ProcessId}
use Rattle.sdl_system.specs.declared.route.Dest.{Dest}
use Rattle.sdl_system.specs.declared.route.Target.{Target}
use Rattle.serial_run.specs.StepWorld.{effect_of}
use Rattle.serial_run.specs.declared.world.effect.Effect as kept
use Rattle.serial_run.specs.declared.world.effect.Effect.TheVariants as did

-- ---- the next act takes the next effect

-- of several effects the first one
pub next_own : (one : Act) (old new : List kept.Effect) (effect : kept.Effect) (r : Option Pending)
    → old ≡ effect ∷ new → IsOwn one (effect_of effect) r → IsNextPending one (map effect_of old) r (map effect_of new)
next_own one old new effect None is other = λ acts.
    ap (λ xs. fits (one ∷ acts) (map effect_of xs)) is ∙ other acts (map effect_of new)
next_own one old new effect (Some next) is own = record {
  goes = λ acts. ap (λ xs. woven (one ∷ acts) (map effect_of xs)) is ∙ own.goes acts (map effect_of new);
  fit = λ acts. ap (λ xs. fits (one ∷ acts) (map effect_of xs)) is ∙ own.fit acts (map effect_of new);
}

pub own_sent : (to : Dest) (effect : kept.Effect) (target : Target) (item : Item) → effect ≡ did.Send target item
    → IsOwn (act.Send to) (effect_of effect) (Some (pending.Send to target item))
own_sent to effect target item is =
    subst (λ e. IsOwn (act.Send to) (effect_of e) (Some (pending.Send to target item))) (sym is)
    (record { goes = λ acts effects. refl; fit = λ acts effects. refl })

pub other_sent : (to : Dest) (effect : kept.Effect)
    → ((target : Target) (item : Item) → effect ≡ did.Send target item → ⊥)
    → IsOwn (act.Send to) (effect_of effect) None
other_sent to (did.Send target item) other = absurd (other target item refl)
other_sent to (did.Arm fuse) other = λ acts effects. refl
other_sent to (did.Create process number parent values) other = λ acts effects. refl

pub own_armed : (effect : kept.Effect) (fuse : Fuse) → effect ≡ did.Arm fuse
    → IsOwn act.Arm (effect_of effect) (Some (pending.Arm fuse))
own_armed effect fuse is =
    subst (λ e. IsOwn act.Arm (effect_of e) (Some (pending.Arm fuse))) (sym is)
    (record { goes = λ acts effects. refl; fit = λ acts effects. refl })

pub other_armed : (effect : kept.Effect) → ((fuse : Fuse) → effect ≡ did.Arm fuse → ⊥)
    → IsOwn act.Arm (effect_of effect) None
other_armed (did.Send target item) other = λ acts effects. refl
other_armed (did.Arm fuse) other = absurd (other fuse refl)
other_armed (did.Create process number parent values) other = λ acts effects. refl

pub own_created : (effect : kept.Effect) (process : ProcessId) (number parent : ℕ) (values : List Value)
    → effect ≡ did.Create process number parent values
    → IsOwn act.Create (effect_of effect) (Some (pending.Create process number parent values))
own_created effect process number parent values is =
    subst (λ e. IsOwn act.Create (effect_of e) (Some (pending.Create process number parent values))) (sym is)
    (record { goes = λ acts effects. refl; fit = λ acts effects. refl })

pub other_created : (effect : kept.Effect)
    → ((process : ProcessId) (number parent : ℕ) (values : List Value)
    → effect ≡ did.Create process number parent values → ⊥) → IsOwn act.Create (effect_of effect) None
other_created (did.Send target item) other = λ acts effects. refl
other_created (did.Arm fuse) other = λ acts effects. refl
other_created (did.Create process number parent values) other = absurd (other process number parent values refl)

-- no effect is left
pub none_left : (one : Act) (old new : List kept.Effect) → ((acts : List Act) → fits (one ∷ acts) [] ≡ false)
    → old ≡ new
    → new ≡ [] → IsNextPending one (map effect_of old) None (map effect_of new)
none_left one old new alone is none = λ acts.
    ap (λ xs. fits (one ∷ acts) (map effect_of xs)) (is ∙ none) ∙ alone acts

-- ---- one event more

pub weave_told : (done : List Pending) (events later : List Event) (first : Event) (one : Act)
    (effects left : List Effect) (next : Pending) (all : List Pending) → events ≡ first ∷ later → act_of first ≡ one
    → ((acts : List Act) → woven (one ∷ acts) effects ≡ next ∷ woven acts left)
    → done ++ woven (acts_of events) effects ≡ all → (done ++ next ∷ []) ++ woven (acts_of later) left ≡ all
weave_told done events later first one effects left next all is same goes so_far =
    append_assoc done (next ∷ []) (woven (acts_of later) left)
    ∙ ap (λ more. done ++ more) (sym (goes (acts_of later)))
    ∙ ap (λ a. done ++ woven (a ∷ acts_of later) effects) (sym same)
    ∙ ap (λ all. done ++ woven (acts_of all) effects) (sym is) ∙ so_far

pub fit_told : (events later : List Event) (first : Event) (one : Act) (effects left : List Effect) (all : Bool)
    → events ≡ first ∷ later → act_of first ≡ one → ((acts : List Act) → fits (one ∷ acts) effects ≡ fits acts left)
    → fits (acts_of events) effects ≡ all → fits (acts_of later) left ≡ all
fit_told events later first one effects left all is same goes so_far =
    sym (goes (acts_of later)) ∙ ap (λ a. fits (a ∷ acts_of later) effects) (sym same)
    ∙ ap (λ all. fits (acts_of all) effects) (sym is) ∙ so_far

pub amiss_told : (events later : List Event) (first : Event) (one : Act) (effects : List Effect) (all : Bool)
    → events ≡ first ∷ later → act_of first ≡ one → ((acts : List Act) → fits (one ∷ acts) effects ≡ false)
    → fits (acts_of events) effects ≡ all → false ≡ all
amiss_told events later first one effects all is same other so_far =
    sym (other (acts_of later)) ∙ ap (λ a. fits (a ∷ acts_of later) effects) (sym same)
    ∙ ap (λ all. fits (acts_of all) effects) (sym is) ∙ so_far

-- ---- each event has its own effects

-- an event that does nothing outside
woven_nothing : (acts : List Act) (e : Event) (done more : List Effect) (next : Pending) → done ≡ []
    → ((all : List Effect) → woven (act_of e ∷ acts) all ≡ next ∷ woven acts all) → pending_by e [] ≡ next
    → woven (act_of e ∷ acts) (done ++ more) ≡ pending_by e done ∷ woven acts more
woven_nothing acts e done more next none goes is =
    ap (λ all. woven (act_of e ∷ acts) (all ++ more)) none ∙ goes more
    ∙ ap (λ first. first ∷ woven acts more) (sym is ∙ ap (pending_by e) (sym none))

woven_one : (pid : ℕ) (acts : List Act) (e : Event) (done more : List Effect) → AreActsOf pid e done
    → woven (act_of e ∷ acts) (done ++ more) ≡ pending_by e done ∷ woven acts more
woven_one pid acts (event.Output signal to values target) done more are =
    ap (λ all. woven (act.Send to ∷ acts) (all ++ more)) are.1
    ∙ ap (λ all. pending_by (event.Output signal to values target) all ∷ woven acts more) (sym are.1)
woven_one pid acts (event.Set key due) done more are =
    ap (λ all. woven (act.Arm ∷ acts) (all ++ more)) are.1
    ∙ ap (λ all. pending_by (event.Set key due) all ∷ woven acts more) (sym are.1)
woven_one pid acts (event.Create id (Some number)) done more are =
    ap (λ all. woven (act.Create ∷ acts) (all ++ more)) are.1
    ∙ ap (λ all. pending_by (event.Create id (Some number)) all ∷ woven acts more) (sym are.1)
woven_one pid acts (event.Create id None) done more are =
    woven_nothing acts (event.Create id None) done more (pending.Full id) are.1 (λ all. refl) refl
woven_one pid acts event.Stop done more are =
    woven_nothing acts event.Stop done more pending.End are (λ all. refl) refl
woven_one pid acts (event.Failed why) done more are =
    woven_nothing acts (event.Failed why) done more pending.End are (λ all. refl) refl
woven_one pid acts (event.FailedAt at why) done more are =
    woven_nothing acts (event.FailedAt at why) done more pending.End are (λ all. refl) refl
woven_one pid acts (event.Start at) done more are =
    woven_nothing acts (event.Start at) done more pending.Inside are (λ all. refl) refl
woven_one pid acts (event.Consumed at got) done more are =
    woven_nothing acts (event.Consumed at got) done more pending.Inside are (λ all. refl) refl
woven_one pid acts (event.Prior at got) done more are =
    woven_nothing acts (event.Prior at got) done more pending.Inside are (λ all. refl) refl
woven_one pid acts (event.Discarded at got) done more are =
    woven_nothing acts (event.Discarded at got) done more pending.Inside are (λ all. refl) refl
woven_one pid acts (event.Provided at number) done more are =
    woven_nothing acts (event.Provided at number) done more pending.Inside are (λ all. refl) refl
woven_one pid acts (event.Task variable value) done more are =
    woven_nothing acts (event.Task variable value) done more pending.Inside are (λ all. refl) refl
woven_one pid acts (event.Reset key) done more are =
    woven_nothing acts (event.Reset key) done more pending.Inside are (λ all. refl) refl
woven_one pid acts (event.NextState state) done more are =
    woven_nothing acts (event.NextState state) done more pending.Inside are (λ all. refl) refl
woven_one pid acts (event.Rest state) done more are =
    woven_nothing acts (event.Rest state) done more pending.Inside are (λ all. refl) refl
woven_one pid acts (event.Cut state) done more are =
    woven_nothing acts (event.Cut state) done more pending.Inside are (λ all. refl) refl

pub woven_deeds : (pid : ℕ) (deeds : List Deed) → AreActs pid deeds
    → woven (acts_of (events_of deeds)) (effects_of deeds) ≡ all_pending deeds
woven_deeds pid [] are = refl
woven_deeds pid (deed ∷ rest) are =
    woven_one pid (acts_of (events_of rest)) deed.event deed.effects (effects_of rest) are.0
    ∙ ap (λ more. pending_by deed.event deed.effects ∷ more) (woven_deeds pid rest are.1)

fits_one : (pid : ℕ) (acts : List Act) (e : Event) (done more : List Effect) → AreActsOf pid e done
    → fits (act_of e ∷ acts) (done ++ more) ≡ fits acts more
fits_one pid acts (event.Output signal to values target) done more are = ap
    (λ all. fits (act.Send to ∷ acts) (all ++ more)) are.1
fits_one pid acts (event.Set key due) done more are = ap (λ all. fits (act.Arm ∷ acts) (all ++ more)) are.1
fits_one pid acts (event.Create id (Some number)) done more are = ap
    (λ all. fits (act.Create ∷ acts) (all ++ more)) are.1
fits_one pid acts (event.Create id None) done more are = ap (λ all. fits (act.Full id ∷ acts) (all ++ more)) are.1
fits_one pid acts event.Stop done more are = ap (λ all. fits (act.End ∷ acts) (all ++ more)) are
fits_one pid acts (event.Failed why) done more are = ap (λ all. fits (act.End ∷ acts) (all ++ more)) are
fits_one pid acts (event.FailedAt at why) done more are = ap (λ all. fits (act.End ∷ acts) (all ++ more)) are
fits_one pid acts (event.Start at) done more are = ap (λ all. fits (act.Inside ∷ acts) (all ++ more)) are
fits_one pid acts (event.Consumed at got) done more are = ap (λ all. fits (act.Inside ∷ acts) (all ++ more)) are
fits_one pid acts (event.Prior at got) done more are = ap (λ all. fits (act.Inside ∷ acts) (all ++ more)) are
fits_one pid acts (event.Discarded at got) done more are = ap (λ all. fits (act.Inside ∷ acts) (all ++ more)) are
fits_one pid acts (event.Provided at number) done more are = ap (λ all. fits (act.Inside ∷ acts) (all ++ more)) are
fits_one pid acts (event.Task variable value) done more are = ap (λ all. fits (act.Inside ∷ acts) (all ++ more)) are
fits_one pid acts (event.Reset key) done more are = ap (λ all. fits (act.Inside ∷ acts) (all ++ more)) are
fits_one pid acts (event.NextState state) done more are = ap (λ all. fits (act.Inside ∷ acts) (all ++ more)) are
fits_one pid acts (event.Rest state) done more are = ap (λ all. fits (act.Inside ∷ acts) (all ++ more)) are
fits_one pid acts (event.Cut state) done more are = ap (λ all. fits (act.Inside ∷ acts) (all ++ more)) are

pub fits_deeds : (pid : ℕ) (deeds : List Deed) → AreActs pid deeds
    → fits (acts_of (events_of deeds)) (effects_of deeds) ≡ true
fits_deeds pid [] are = refl
fits_deeds pid (deed ∷ rest) are =
    fits_one pid (acts_of (events_of rest)) deed.event deed.effects (effects_of rest) are.0
    ∙ fits_deeds pid rest are.1

-- ---- the first of them

pub behind_none : (all : List Pending) → all ≡ [] → all ≡ behind_first all
behind_none [] none = refl
behind_none (first ∷ later) none = let no : ⊥ = cc in absurd no

by_first : (first : Pending) (later : List Pending) → is_inside first ≡ false
    → behind_first (first ∷ later) ≡ first ∷ later
by_first pending.Inside later other = let no : ⊥ = cc in absurd no
by_first (pending.Send to target item) later other = refl
by_first (pending.Arm fuse) later other = refl
by_first (pending.Create process number parent values) later other = refl
by_first (pending.Full process) later other = refl
by_first pending.End later other = refl

pub behind_other : (all : List Pending) (first : Pending) (later : List Pending) → all ≡ first ∷ later
    → is_inside first ≡ false → all ≡ behind_first all
behind_other all first later is other = is ∙ sym (by_first first later other) ∙ ap behind_first (sym is)

pub not_inside : (first : Pending) → (first ≡ pending.Inside → ⊥) → is_inside first ≡ false
not_inside pending.Inside other = absurd (other refl)
not_inside (pending.Send to target item) other = refl
not_inside (pending.Arm fuse) other = refl
not_inside (pending.Create process number parent values) other = refl
not_inside (pending.Full process) other = refl
not_inside pending.End other = refl

inside_is : (first : Pending) → is_inside first ≡ true → first ≡ pending.Inside
inside_is pending.Inside is = refl
inside_is (pending.Send to target item) is = let no : ⊥ = cc in absurd no
inside_is (pending.Arm fuse) is = let no : ⊥ = cc in absurd no
inside_is (pending.Create process number parent values) is = let no : ⊥ = cc in absurd no
inside_is (pending.Full process) is = let no : ⊥ = cc in absurd no
inside_is pending.End is = let no : ⊥ = cc in absurd no

pub behind_popped : (popped : Option Pending) (old new : List Pending) (first : Pending) (later : List Pending)
    → MatchOption popped (old ≡ []) (λ one. old ≡ one ∷ new) → old ≡ first ∷ later → is_inside first ≡ true
    → new ≡ behind_first old
behind_popped None old new first later none is inside =
    let wrong : first ∷ later ≡ [] = sym is ∙ none in
    let no : ⊥ = cc in
    absurd no
behind_popped (Some one) old new first later popped is inside =
    let both : one ∷ new ≡ first ∷ later = sym popped ∙ is in
    let same : new ≡ later = cc in
    same ∙ ap (λ (p : Pending). behind_first (p ∷ later)) (sym (inside_is first inside)) ∙ ap behind_first (sym is)

-- ---- events that are passed over

pub skip_one : (told : Option Told) (old new all : List Event) (count : ℕ)
    → MatchOption told ((old ≡ []) × (new ≡ [])) (λ one. old ≡ event_told one ∷ new) → old ≡ drop count all
    → new ≡ drop (count + 1) all
skip_one None old new all count none is =
    none.1 ∙ sym (ap (drop 1) none.0) ∙ ap (drop 1) is ∙ drop-drop 1 count all
skip_one (Some one) old new all count first is =
    sym (ap (drop 1) first) ∙ ap (drop 1) is ∙ drop-drop 1 count all
