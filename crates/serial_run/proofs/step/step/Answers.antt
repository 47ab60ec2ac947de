use Rattle.std.proofs.Common.{◌≡◌, ◌≢◌, ◌∙◌, ◌-◌, ◌<◌, true, false, ℕ, suc, List, Option, Some, refl, inl, inr, ap, sym, subst, arith, rules, slice_get, set, length, map, replicate, vec_len}
use Rattle.std.specs.Prelude.{Contains, ◌↔◌}
use Rattle.std.proofs.lemmas.List.{length-set}
use Rattle.std.proofs.lemmas.Option.{slice_get_read, slice_get_within}
use Rattle.port_model.specs.Ends.{OwnerState}
use Rattle.serial_run.specs.StepWorld.{AreNumbered, effect_of, world_of}
use Rattle.serial_order.specs.RunState.{world_at, living_of, is_ended}
use Rattle.serial_run.specs.Serial.{IsOfSystem, state_of}
use Rattle.serial_run.specs.Thinned.{IsThinned}
use Rattle.serial_run.specs.declared.instances.Instances.{Instances}
use Rattle.run_record.specs.declared.evaluation.identity.Identity.{Identity}
use Rattle.sdl_interp.specs.Instance.{EndsBy, InstanceValue, IsIdle, Moves}
use Rattle.run_semantics.specs.World.{Living, WorldValue}
use Rattle.serial_run.specs.ExecutionLaws.{stays}
use Rattle.serial_run.specs.Told.{NotesThese, NotesTurn}
use Rattle.serial_run.proofs.Places.{living_same, in_place_set, marked_off, marked_on, not_ended, one_there, serial_set, set_back, set_here, set_there}
use Rattle.serial_run.specs.Meanings.{all_at}
use Rattle.serial_run.proofs.Steps.{IsAlone, Made, world_is, ended_rests, idle_rests, step_counts, step_fails, step_idles, stepped}
use Rattle.serial_sweeps.specs.Sweeps.{Moment, after, at_agenda}
use Rattle.serial_sweeps.specs.declared.instance_set.Made.TheVariants.{Failure, Transition}
use Rattle.sdl_interp.specs.declared.transitions.machine.Position.TheVariants as at
use Rattle.serial_run.proofs.step.step.Goals as goal

-- as many events are noted as the instance has more
turn_noted : (number : ℕ) (old new : InstanceValue) (k l : Option (List ℕ)) (told : ℕ) → told ≡ length old.events
    → NotesThese k (replicate (length new.events - told) number) l → NotesTurn number old new k l
turn_noted number old new k l told is noted =
    subst (λ count. NotesThese k (replicate (length new.events - count) number) l) is noted

-- the number is that of an instance

pub returns-in_default-clause-runs : goal.returns-in_default-clause-runs
returns-in_default-clause-runs c = λ last bound m time.
    let n = at_agenda m c.args.agenda.now in
    stays last n n c.args.instances.now c.args.instances.now c.args.order.now refl refl refl

pub returns-in_default-clause-fewer : goal.returns-in_default-clause-fewer
returns-in_default-clause-fewer c =
    let s = c.args.instances.now in
    let there = c.requires.fits.marked.there c.args.number c.requires.ready in
    let long : vec_len s.instances ≡ length s.instances.items = search rules in
    let no : ⊥ = elim c.in_default.ensures.none [
      | inl none ↦ omega (arith, none, there.0)
      | inr past ↦ omega (arith, past, there.1, long)
    ] in
    absurd no

-- one that has ended already

pub returns-in-Ended-clause-fits : goal.returns-in-Ended-clause-fits
returns-in-Ended-clause-fits c =
    let s = c.args.instances.now in
    let place = c.in-Some.place in
    let xs = s.instances.items in
    let number_is : c.args.number ≡ suc place = omega (arith, c.in-Some.ensures.some.0) in
    let one = c.index.result.now in
    let at_first : slice_get xs place ≡ Some one =
    slice_get_read xs (length xs) place one refl (search rules) c.index.ensures in
    let ended : one.position ≡ at.Ended = sym c.position.ensures ∙ c.in-Ended.is in
    let back = sym (set_there xs place one at_first) in
    let off = subst (λ m. (n : ℕ) → Contains c.rest.new.self n ↔ (Contains c.args.agenda.now.ready n × (n ≢ m))) number_is
    c.rest.ensures.left in
    serial_set s _ c.rest.new.self place one one c.requires.fits at_first
    (record { system = refl; process = refl; who = refl; port = refl; pid = refl }) back refl
    (c.requires.fits.living ∙ ap (living_of s.system.now) back)
    (marked_off c.args.agenda.now.ready c.rest.new.self xs place one c.requires.fits.marked off (ended_rests one ended))

pub returns-in-Ended-clause-runs : goal.returns-in-Ended-clause-runs
returns-in-Ended-clause-runs c = λ last bound m time.
    let n = at_agenda m c.args.agenda.now in
    stays last n n c.args.instances.now _ c.args.order.now refl refl refl

-- it makes a transition, and lives on

pub unmark_resting-requires-clause-fits : goal.unmark_resting-requires-clause-fits
unmark_resting-requires-clause-fits c =
    let s = c.args.instances.now in
    let place = c.in-Some.place in
    let xs = s.instances.items in
    let number_is : c.args.number ≡ suc place = omega (arith, c.in-Some.ensures.some.0) in
    let old = c.index_mut.result.now in
    let new = c.step-stepped.new.self in
    let v = world_of c.step-stepped.new.world in
    let there : slice_get xs place ≡ Some old =
    slice_get_read xs (length xs) place old refl (search rules) c.index_mut.ensures.value in
    let keeps = c.step-stepped.ensures.keeps in
    let same_one : c.index.result.now ≡ old = one_there (slice_get xs place) c.index.result.now old
    (slice_get_read xs (length xs) place c.index.result.now refl (search rules) c.index.ensures) there in
    let lives : old.position ≢ at.Ended =
    λ ended. c.in_default-position.not-Ended (c.position.ensures ∙ ap (λ (i : InstanceValue). i.position) same_one ∙ ended) in
    let live_on : is_ended new.position ≡ is_ended old.position =
    not_ended new.position c.in-Moved.ensures.steps.1 ∙ sym (not_ended old.position lives) in
    serial_set s _ c.args.agenda.now.ready place old new c.requires.fits there keeps refl refl
    (c.requires.fits.living ∙ sym (living_same s.system.now xs place old new there keeps.who live_on))
    (marked_on c.args.agenda.now.ready xs place new c.requires.fits.marked (subst (Contains c.args.agenda.now.ready) number_is c.requires.ready))

pub unmark_resting-requires-clause-place : goal.unmark_resting-requires-clause-place
unmark_resting-requires-clause-place c =
    let xs = c.args.instances.now.instances.items in
    let long : vec_len c.args.instances.now.instances ≡ length xs = search rules in (
      c.in-Some.ensures.some.0,
      omega (arith, c.in-Some.ensures.some.1, length-set xs c.in-Some.place c.step-stepped.new.self, long),
    )

pub returns-in_ok-perform_all-in-Moved-clause-runs : goal.returns-in_ok-perform_all-in-Moved-clause-runs
returns-in_ok-perform_all-in-Moved-clause-runs c = λ last bound m time.
    let s = c.args.instances.now in
    let agenda = c.args.agenda.now in
    let from = at_agenda m agenda in
    let place = c.in-Some.place in
    let xs = s.instances.items in
    let number_is : c.args.number ≡ suc place = omega (arith, c.in-Some.ensures.some.0) in
    let old = c.index_mut.result.now in
    let new = c.step-stepped.new.self in
    let v = world_of c.step-stepped.new.world in
    let there : slice_get xs place ≡ Some old =
    slice_get_read xs (length xs) place old refl (search rules) c.index_mut.ensures.value in
    let keeps = c.step-stepped.ensures.keeps in
    let same_one : c.index.result.now ≡ old = one_there (slice_get xs place) c.index.result.now old
    (slice_get_read xs (length xs) place c.index.result.now refl (search rules) c.index.ensures) there in
    let lives : old.position ≢ at.Ended =
    λ ended. c.in_default-position.not-Ended (c.position.ensures ∙ ap (λ (i : InstanceValue). i.position) same_one ∙ ended) in
    let same_two : c.index-2.result.now ≡ old = one_there (slice_get xs place) c.index-2.result.now old
    (slice_get_read xs (length xs) place c.index-2.result.now refl (search rules) c.index-2.ensures) there in
    let changed = set xs place new in
    let same_three : c.index-3.result.now ≡ new = one_there (slice_get changed place) c.index-3.result.now new
    (slice_get_read changed (length changed) place c.index-3.result.now refl (search rules) c.index-3.ensures)
    (set_here xs place old new there) in
    let alone_then : IsAlone old.owner =
    subst (λ (i : InstanceValue). IsAlone i.owner) same_two c.draws_nothing.ensures in
    let alone_now : IsAlone new.owner =
    subst (λ (i : InstanceValue). IsAlone i.owner) same_three c.draws_nothing-2.ensures in
    let a = c.new-world.ensures in
    let sees : world_of c.new-world.result ≡ world_at (state_of from s) =
    world_is from s c.new-world.result c.requires.fits a.system a.clock a.begun a.changed (a.effects ∙ c.clear.ensures.items) in
    let effects = map effect_of c.step-stepped.new.world.effects.now.items in
    let made : Made agenda.ready from s place c.args.number bound old new v effects = record {
      serial = c.requires.fits;
      time = time;
      is_number = c.in-Some.ensures.some.0;
      is_there = there;
      lives = lives;
      keeps = keeps;
      undrawn = ap (λ (o : OwnerState). o.drawn) alone_now;
      known = refl;
    } in
    let moves : Moves true old (world_at (state_of from s)) new v =
    subst (λ (w : WorldValue). Moves true old w new v) sees c.in-Moved.ensures.steps.0 in
    let given = ap (λ (living : Living). living.given) c.requires.fits.living in
    let asked : Moment = record m { turn = c.args.number; bound = bound; left = m.left - 1 } in
    let looked = c.unmark_resting.ensures in
    let state : stepped from s place c.args.number bound new
    ≡ state_of (at_agenda asked c.unmark_resting.new.agenda) c.unmark_resting.new.instances =
    sym (λ i. record (state_of (record asked { clock = looked.clock i; fuses = looked.fuses i }) s) {
      system = (looked.system i).now;
      instances = looked.items i;
    }) in
    step_counts agenda.ready from (after Transition c.args.number bound (at_agenda m c.perform_all.new.agenda)) s
    c.perform_all.new.self place c.args.number bound old new v effects made moves
    (λ g thinned numbers. c.in_ok-perform_all-in-Moved.ensures.state asked g (subst (IsThinned g) state thinned)
    (subst (λ n. AreNumbered n effects) (sym (ap (λ (living : Living). living.given) looked.living ∙ given)) numbers))
    (omega (arith, time.some)) (c.perform_all.ensures.system ∙ looked.system) last c.args.order.now c.note_turn.new.order
    (turn_noted c.args.number old new c.args.order.now c.note_turn.new.order c.count_of-told.result
    (c.count_of-told.ensures old there) (c.note_turn.ensures new (set_here xs place old new there)))

-- it ends

pub leave-requires : goal.leave-requires
leave-requires c =
    let s = c.args.instances.now in
    let place = c.in-Some.place in
    let xs = s.instances.items in
    let number_is : c.args.number ≡ suc place = omega (arith, c.in-Some.ensures.some.0) in
    let old = c.index_mut.result.now in
    let new = c.step-stepped.new.self in
    let v = world_of c.step-stepped.new.world in
    let there : slice_get xs place ≡ Some old =
    slice_get_read xs (length xs) place old refl (search rules) c.index_mut.ensures.value in
    let keeps = c.step-stepped.ensures.keeps in
    let same_one : c.index.result.now ≡ old = one_there (slice_get xs place) c.index.result.now old
    (slice_get_read xs (length xs) place c.index.result.now refl (search rules) c.index.ensures) there in
    let lives : old.position ≢ at.Ended =
    λ ended. c.in_default-position.not-Ended (c.position.ensures ∙ ap (λ (i : InstanceValue). i.position) same_one ∙ ended) in
    let ends : EndsBy c.in-Ended-stepped.counts old (world_of c.new-world.result) new v = c.in-Ended-stepped.ensures.steps in
    let end = elim ends as (λ e. (new.position ≡ at.Ended)
    × Moves c.in-Ended-stepped.counts old (world_of c.new-world.result) new v) [
      | inl w ↦ absurd (lives w.0)
      | inr w ↦ (w.1, w.2)
    ] in
    let member = all_at (IsOfSystem s.system.now) xs place old c.requires.fits.members there in
    record {
      before = old;
      now = new;
      is_there = set_here xs place old new there;
      lived = not_ended old.position lives;
      ended = ap is_ended end.0;
      who = keeps.who;
      inside = subst (λ (who : Identity). who.process.0 < length s.system.now.processes) (sym keeps.who)
          (slice_get_within s.system.now.processes old.who.process.0 old.process member.process_is);
      places = in_place_set 0 xs place old new c.requires.fits.places there keeps.who keeps.pid;
      living = c.requires.fits.living ∙ ap (living_of s.system.now) (sym (set_back xs place old new there));
    }

pub returns-then-not-counts-clause-fits : goal.returns-then-not-counts-clause-fits
returns-then-not-counts-clause-fits c =
    let s = c.args.instances.now in
    let place = c.in-Some.place in
    let xs = s.instances.items in
    let number_is : c.args.number ≡ suc place = omega (arith, c.in-Some.ensures.some.0) in
    let old = c.index_mut.result.now in
    let new = c.step-stepped.new.self in
    let v = world_of c.step-stepped.new.world in
    let there : slice_get xs place ≡ Some old =
    slice_get_read xs (length xs) place old refl (search rules) c.index_mut.ensures.value in
    let keeps = c.step-stepped.ensures.keeps in
    let same_one : c.index.result.now ≡ old = one_there (slice_get xs place) c.index.result.now old
    (slice_get_read xs (length xs) place c.index.result.now refl (search rules) c.index.ensures) there in
    let lives : old.position ≢ at.Ended =
    λ ended. c.in_default-position.not-Ended (c.position.ensures ∙ ap (λ (i : InstanceValue). i.position) same_one ∙ ended) in
    let ends : EndsBy c.in-Ended-stepped.counts old (world_of c.new-world.result) new v = c.in-Ended-stepped.ensures.steps in
    let end = elim ends as (λ e. (new.position ≡ at.Ended)
    × Moves c.in-Ended-stepped.counts old (world_of c.new-world.result) new v) [
      | inl w ↦ absurd (lives w.0)
      | inr w ↦ (w.1, w.2)
    ] in
    let same = c.leave.ensures.same in
    let off = subst (λ m. (n : ℕ) → Contains c.rest-in-Ended-stepped.new.self n ↔ (Contains c.args.agenda.now.ready n × (n ≢ m))) number_is
    c.rest-in-Ended-stepped.ensures.left in
    let marked = marked_off c.args.agenda.now.ready c.rest-in-Ended-stepped.new.self xs place new c.requires.fits.marked off
    (ended_rests new end.0) in
    serial_set s _ c.rest-in-Ended-stepped.new.self place old new c.requires.fits there keeps
    (ap (λ (u : Instances). u.instances.items) same) (ap (λ (u : Instances). u.system) same) c.leave.ensures.living marked

pub returns-then-not-counts-clause-runs : goal.returns-then-not-counts-clause-runs
returns-then-not-counts-clause-runs c = λ last bound m time.
    let s = c.args.instances.now in
    let agenda = c.args.agenda.now in
    let from = at_agenda m agenda in
    let place = c.in-Some.place in
    let xs = s.instances.items in
    let number_is : c.args.number ≡ suc place = omega (arith, c.in-Some.ensures.some.0) in
    let old = c.index_mut.result.now in
    let new = c.step-stepped.new.self in
    let v = world_of c.step-stepped.new.world in
    let there : slice_get xs place ≡ Some old =
    slice_get_read xs (length xs) place old refl (search rules) c.index_mut.ensures.value in
    let keeps = c.step-stepped.ensures.keeps in
    let same_one : c.index.result.now ≡ old = one_there (slice_get xs place) c.index.result.now old
    (slice_get_read xs (length xs) place c.index.result.now refl (search rules) c.index.ensures) there in
    let lives : old.position ≢ at.Ended =
    λ ended. c.in_default-position.not-Ended (c.position.ensures ∙ ap (λ (i : InstanceValue). i.position) same_one ∙ ended) in
    let same_two : c.index-2.result.now ≡ old = one_there (slice_get xs place) c.index-2.result.now old
    (slice_get_read xs (length xs) place c.index-2.result.now refl (search rules) c.index-2.ensures) there in
    let changed = set xs place new in
    let same_three : c.index-3.result.now ≡ new = one_there (slice_get changed place) c.index-3.result.now new
    (slice_get_read changed (length changed) place c.index-3.result.now refl (search rules) c.index-3.ensures)
    (set_here xs place old new there) in
    let alone_then : IsAlone old.owner =
    subst (λ (i : InstanceValue). IsAlone i.owner) same_two c.draws_nothing.ensures in
    let alone_now : IsAlone new.owner =
    subst (λ (i : InstanceValue). IsAlone i.owner) same_three c.draws_nothing-2.ensures in
    let a = c.new-world.ensures in
    let sees : world_of c.new-world.result ≡ world_at (state_of from s) =
    world_is from s c.new-world.result c.requires.fits a.system a.clock a.begun a.changed (a.effects ∙ c.clear.ensures.items) in
    let effects = map effect_of c.step-stepped.new.world.effects.now.items in
    let made : Made agenda.ready from s place c.args.number bound old new v effects = record {
      serial = c.requires.fits;
      time = time;
      is_number = c.in-Some.ensures.some.0;
      is_there = there;
      lives = lives;
      keeps = keeps;
      undrawn = ap (λ (o : OwnerState). o.drawn) alone_now;
      known = refl;
    } in
    let ends : EndsBy c.in-Ended-stepped.counts old (world_of c.new-world.result) new v = c.in-Ended-stepped.ensures.steps in
    let end = elim ends as (λ e. (new.position ≡ at.Ended)
    × Moves c.in-Ended-stepped.counts old (world_of c.new-world.result) new v) [
      | inl w ↦ absurd (lives w.0)
      | inr w ↦ (w.1, w.2)
    ] in
    let same = c.leave.ensures.same in
    let none : c.in-Ended-stepped.counts ≡ false = search rules in
    let moves : Moves false old (world_at (state_of from s)) new v =
    subst (λ counts. Moves counts old (world_at (state_of from s)) new v) none
    (subst (λ (w : WorldValue). Moves c.in-Ended-stepped.counts old w new v) sees end.1) in
    let to = after Failure c.args.number bound from in
    step_fails agenda.ready from to s c.leave.new.self place c.args.number bound old new v effects made moves
    (ap (state_of to) same) refl (ap (λ (u : Instances). u.system) same) last c.args.order.now c.note_turn.new.order
    (turn_noted c.args.number old new c.args.order.now c.note_turn.new.order c.count_of-told.result
    (c.count_of-told.ensures old there) (c.note_turn.ensures new (set_here xs place old new there)))

pub perform_all-requires-in-Ended-stepped : goal.perform_all-requires-in-Ended-stepped
perform_all-requires-in-Ended-stepped c =
    let s = c.args.instances.now in
    let place = c.in-Some.place in
    let xs = s.instances.items in
    let number_is : c.args.number ≡ suc place = omega (arith, c.in-Some.ensures.some.0) in
    let old = c.index_mut.result.now in
    let new = c.step-stepped.new.self in
    let v = world_of c.step-stepped.new.world in
    let there : slice_get xs place ≡ Some old =
    slice_get_read xs (length xs) place old refl (search rules) c.index_mut.ensures.value in
    let keeps = c.step-stepped.ensures.keeps in
    let same_one : c.index.result.now ≡ old = one_there (slice_get xs place) c.index.result.now old
    (slice_get_read xs (length xs) place c.index.result.now refl (search rules) c.index.ensures) there in
    let lives : old.position ≢ at.Ended =
    λ ended. c.in_default-position.not-Ended (c.position.ensures ∙ ap (λ (i : InstanceValue). i.position) same_one ∙ ended) in
    let ends : EndsBy c.in-Ended-stepped.counts old (world_of c.new-world.result) new v = c.in-Ended-stepped.ensures.steps in
    let end = elim ends as (λ e. (new.position ≡ at.Ended)
    × Moves c.in-Ended-stepped.counts old (world_of c.new-world.result) new v) [
      | inl w ↦ absurd (lives w.0)
      | inr w ↦ (w.1, w.2)
    ] in
    let same = c.leave.ensures.same in
    let off = subst (λ m. (n : ℕ) → Contains c.rest-in-Ended-stepped.new.self n ↔ (Contains c.args.agenda.now.ready n × (n ≢ m))) number_is
    c.rest-in-Ended-stepped.ensures.left in
    let marked = marked_off c.args.agenda.now.ready c.rest-in-Ended-stepped.new.self xs place new c.requires.fits.marked off
    (ended_rests new end.0) in
    serial_set s _ c.rest-in-Ended-stepped.new.self place old new c.requires.fits there keeps
    (ap (λ (u : Instances). u.instances.items) same) (ap (λ (u : Instances). u.system) same) c.leave.ensures.living marked

pub returns-in_ok-perform_all-in-Ended-stepped-clause-runs : goal.returns-in_ok-perform_all-in-Ended-stepped-clause-runs
returns-in_ok-perform_all-in-Ended-stepped-clause-runs c = λ last bound m time.
    let s = c.args.instances.now in
    let agenda = c.args.agenda.now in
    let from = at_agenda m agenda in
    let place = c.in-Some.place in
    let xs = s.instances.items in
    let number_is : c.args.number ≡ suc place = omega (arith, c.in-Some.ensures.some.0) in
    let old = c.index_mut.result.now in
    let new = c.step-stepped.new.self in
    let v = world_of c.step-stepped.new.world in
    let there : slice_get xs place ≡ Some old =
    slice_get_read xs (length xs) place old refl (search rules) c.index_mut.ensures.value in
    let keeps = c.step-stepped.ensures.keeps in
    let same_one : c.index.result.now ≡ old = one_there (slice_get xs place) c.index.result.now old
    (slice_get_read xs (length xs) place c.index.result.now refl (search rules) c.index.ensures) there in
    let lives : old.position ≢ at.Ended =
    λ ended. c.in_default-position.not-Ended (c.position.ensures ∙ ap (λ (i : InstanceValue). i.position) same_one ∙ ended) in
    let same_two : c.index-2.result.now ≡ old = one_there (slice_get xs place) c.index-2.result.now old
    (slice_get_read xs (length xs) place c.index-2.result.now refl (search rules) c.index-2.ensures) there in
    let changed = set xs place new in
    let same_three : c.index-3.result.now ≡ new = one_there (slice_get changed place) c.index-3.result.now new
    (slice_get_read changed (length changed) place c.index-3.result.now refl (search rules) c.index-3.ensures)
    (set_here xs place old new there) in
    let alone_then : IsAlone old.owner =
    subst (λ (i : InstanceValue). IsAlone i.owner) same_two c.draws_nothing.ensures in
    let alone_now : IsAlone new.owner =
    subst (λ (i : InstanceValue). IsAlone i.owner) same_three c.draws_nothing-2.ensures in
    let a = c.new-world.ensures in
    let sees : world_of c.new-world.result ≡ world_at (state_of from s) =
    world_is from s c.new-world.result c.requires.fits a.system a.clock a.begun a.changed (a.effects ∙ c.clear.ensures.items) in
    let effects = map effect_of c.step-stepped.new.world.effects.now.items in
    let made : Made agenda.ready from s place c.args.number bound old new v effects = record {
      serial = c.requires.fits;
      time = time;
      is_number = c.in-Some.ensures.some.0;
      is_there = there;
      lives = lives;
      keeps = keeps;
      undrawn = ap (λ (o : OwnerState). o.drawn) alone_now;
      known = refl;
    } in
    let ends : EndsBy c.in-Ended-stepped.counts old (world_of c.new-world.result) new v = c.in-Ended-stepped.ensures.steps in
    let end = elim ends as (λ e. (new.position ≡ at.Ended)
    × Moves c.in-Ended-stepped.counts old (world_of c.new-world.result) new v) [
      | inl w ↦ absurd (lives w.0)
      | inr w ↦ (w.1, w.2)
    ] in
    let same = c.leave.ensures.same in
    let counts : c.in-Ended-stepped.counts ≡ true = search rules in
    let moves : Moves true old (world_at (state_of from s)) new v =
    subst (λ counts. Moves counts old (world_at (state_of from s)) new v) counts
    (subst (λ (w : WorldValue). Moves c.in-Ended-stepped.counts old w new v) sees end.1) in
    let t = c.perform_all-in-Ended-stepped.new.self in
    let done = c.in_ok-perform_all-in-Ended-stepped.ensures in
    let given = ap (λ (living : Living). living.given) c.leave.ensures.living ∙ length-set xs place new in
    let spent = record m { turn = c.args.number; bound = bound; left = m.left - 1 } in
    step_counts agenda.ready from
    (after Transition c.args.number bound (at_agenda m c.perform_all-in-Ended-stepped.new.agenda)) s t place c.args.number
    bound old new v effects made moves
    (λ g thinned numbers. done.state spent g
    (subst (IsThinned g) (sym (ap (λ (u : Instances). state_of (at_agenda spent agenda) u) same)) thinned)
    (subst (λ n. AreNumbered n effects) (sym given) numbers))
    (omega (arith, time.some))
    (c.perform_all-in-Ended-stepped.ensures.system ∙ ap (λ (u : Instances). u.system) same) last c.args.order.now c.note_turn.new.order
    (turn_noted c.args.number old new c.args.order.now c.note_turn.new.order c.count_of-told.result
    (c.count_of-told.ensures old there) (c.note_turn.ensures new (set_here xs place old new there)))

-- it waits

pub returns-in-Idle-clause-fits : goal.returns-in-Idle-clause-fits
returns-in-Idle-clause-fits c =
    let s = c.args.instances.now in
    let place = c.in-Some.place in
    let xs = s.instances.items in
    let number_is : c.args.number ≡ suc place = omega (arith, c.in-Some.ensures.some.0) in
    let old = c.index_mut.result.now in
    let new = c.step-stepped.new.self in
    let v = world_of c.step-stepped.new.world in
    let there : slice_get xs place ≡ Some old =
    slice_get_read xs (length xs) place old refl (search rules) c.index_mut.ensures.value in
    let keeps = c.step-stepped.ensures.keeps in
    let same_one : c.index.result.now ≡ old = one_there (slice_get xs place) c.index.result.now old
    (slice_get_read xs (length xs) place c.index.result.now refl (search rules) c.index.ensures) there in
    let lives : old.position ≢ at.Ended =
    λ ended. c.in_default-position.not-Ended (c.position.ensures ∙ ap (λ (i : InstanceValue). i.position) same_one ∙ ended) in
    let idle : IsIdle old (world_of c.new-world.result) new v = c.in-Idle.ensures.steps in
    let off = subst (λ m. (n : ℕ) → Contains c.rest-in-Idle.new.self n ↔ (Contains c.args.agenda.now.ready n × (n ≢ m))) number_is
    c.rest-in-Idle.ensures.left in
    serial_set s _ c.rest-in-Idle.new.self place old new c.requires.fits there keeps refl refl
    (c.requires.fits.living
    ∙ sym (living_same s.system.now xs place old new there keeps.who (ap is_ended idle.0)))
    (marked_off c.args.agenda.now.ready c.rest-in-Idle.new.self xs place new c.requires.fits.marked off
    (idle_rests old new (world_of c.new-world.result) v keeps idle))

pub returns-in-Idle-clause-runs : goal.returns-in-Idle-clause-runs
returns-in-Idle-clause-runs c = λ last bound m time.
    let s = c.args.instances.now in
    let agenda = c.args.agenda.now in
    let from = at_agenda m agenda in
    let place = c.in-Some.place in
    let xs = s.instances.items in
    let number_is : c.args.number ≡ suc place = omega (arith, c.in-Some.ensures.some.0) in
    let old = c.index_mut.result.now in
    let new = c.step-stepped.new.self in
    let v = world_of c.step-stepped.new.world in
    let there : slice_get xs place ≡ Some old =
    slice_get_read xs (length xs) place old refl (search rules) c.index_mut.ensures.value in
    let keeps = c.step-stepped.ensures.keeps in
    let same_one : c.index.result.now ≡ old = one_there (slice_get xs place) c.index.result.now old
    (slice_get_read xs (length xs) place c.index.result.now refl (search rules) c.index.ensures) there in
    let lives : old.position ≢ at.Ended =
    λ ended. c.in_default-position.not-Ended (c.position.ensures ∙ ap (λ (i : InstanceValue). i.position) same_one ∙ ended) in
    let same_two : c.index-2.result.now ≡ old = one_there (slice_get xs place) c.index-2.result.now old
    (slice_get_read xs (length xs) place c.index-2.result.now refl (search rules) c.index-2.ensures) there in
    let changed = set xs place new in
    let same_three : c.index-3.result.now ≡ new = one_there (slice_get changed place) c.index-3.result.now new
    (slice_get_read changed (length changed) place c.index-3.result.now refl (search rules) c.index-3.ensures)
    (set_here xs place old new there) in
    let alone_then : IsAlone old.owner =
    subst (λ (i : InstanceValue). IsAlone i.owner) same_two c.draws_nothing.ensures in
    let alone_now : IsAlone new.owner =
    subst (λ (i : InstanceValue). IsAlone i.owner) same_three c.draws_nothing-2.ensures in
    let a = c.new-world.ensures in
    let sees : world_of c.new-world.result ≡ world_at (state_of from s) =
    world_is from s c.new-world.result c.requires.fits a.system a.clock a.begun a.changed (a.effects ∙ c.clear.ensures.items) in
    let idle : IsIdle old (world_at (state_of from s)) new v =
    subst (λ (w : WorldValue). IsIdle old w new v) sees c.in-Idle.ensures.steps in
    step_idles from from s _ place old new v c.requires.fits there keeps alone_then alone_now idle refl refl refl last
    c.args.number c.args.order.now c.note_turn.new.order
    (turn_noted c.args.number old new c.args.order.now c.note_turn.new.order c.count_of-told.result
    (c.count_of-told.ensures old there) (c.note_turn.ensures new (set_here xs place old new there)))
