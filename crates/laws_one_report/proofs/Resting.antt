-- An instance that rests makes no step, and rests whatever else its owner knows.
use Rattle.std.proofs.Common.{◌≡◌, ◌∙◌, refl, subst, sym, Bool, List, []}
use Rattle.std.proofs.lemmas.Option.{same_Some}
use Rattle.port_model.specs.Port.{PortState}
use Rattle.serial_order.proofs.Own.{later_none}
use Rattle.serial_order.specs.Execution.{IsMeant, Rests, Steps, is_transition}
use Rattle.serial_order.specs.RunState.{RunState, world_at, living_of}
use Rattle.run_record.specs.declared.evaluation.identity.Identity.{Identity}
use Rattle.run_record.specs.declared.evaluation.store.Store.{Store}
use Rattle.sdl_interp.specs.Instance.{InstanceValue, IsQuietAt, work_of}
use Rattle.run_semantics.specs.Effect.{Deed, events_of}
use Rattle.run_semantics.specs.ControlPoint.{Definition, ControlPoint}
use Rattle.run_semantics.specs.World.{WorldValue}
use Rattle.sdl_interp.specs.Machine.{place_of}
use Rattle.sdl_interp.specs.declared.transitions.machine.Position.{Position}
use Rattle.sdl_interp.specs.declared.transitions.machine.Position.TheVariants as at
use Rattle.sdl_system.specs.Behaviour.{Behaviour}
use Rattle.laws_one_report.specs.Same.{bare}
use Rattle.laws_one_step.proofs.Steps.{Stepped, no_step, stepped_by}
use Rattle.laws_one_step.specs.Unique.{IsBetween, IsKnown, IsPlainStep, LackNothing}

-- ---- with a port alone

quiet_bare : (d : Definition) (position : Position) (i : InstanceValue) → IsQuietAt d position i
    → IsQuietAt d position (bare i)
quiet_bare d at.BeforeStart i quiet = quiet
quiet_bare d (at.In n) i quiet = quiet
quiet_bare d at.Ended i quiet = quiet

quiet_whole : (d : Definition) (position : Position) (i : InstanceValue) → IsQuietAt d position (bare i)
    → IsQuietAt d position i
quiet_whole d at.BeforeStart i quiet = quiet
quiet_whole d (at.In n) i quiet = quiet
quiet_whole d at.Ended i quiet = quiet

module _ (ps : List Behaviour) where
  rests_bare : (i : InstanceValue) → Rests ps i → Rests ps (bare i)
  rests_bare i rests = record {
    p = rests.p;
    meant = record { listed = rests.meant.listed; is_run = rests.meant.is_run };
    quiet = quiet_bare (record { system = i.system; behaviour = rests.p }) i.position i rests.quiet;
  }

  rests_whole : (i : InstanceValue) → Rests ps (bare i) → Rests ps i
  rests_whole i rests = record {
    p = rests.p;
    meant = record { listed = rests.meant.listed; is_run = rests.meant.is_run };
    quiet = quiet_whole (record { system = i.system; behaviour = rests.p }) i.position i rests.quiet;
  }

  pub rests_same : (i j : InstanceValue) → bare i ≡ bare j → Rests ps i → Rests ps j
  rests_same i j same rests = rests_whole j (subst (λ x. Rests ps x) same (rests_bare i rests))

  -- an instance means one behaviour
  pub one_meaning : (i : InstanceValue) (p q : Behaviour) → IsMeant ps i p → IsMeant ps i q → p ≡ q
  one_meaning i p q first second = same_Some p q (sym first.listed ∙ second.listed)

  -- ---- a step of the whole as a step of an instance

  between : (position : Position) → IsBetween (place_of position)
  between at.BeforeStart = tt
  between (at.In n) = tt
  between at.Ended = tt

  pub known : (g : RunState) → IsKnown (world_at g)
  known g = record {
    clock = g.clock;
    clock_is = refl;
    living = living_of g.system g.instances;
    living_is = refl;
  }

  -- what the step of an instance is, by its own value and its behaviour
  abbrev pub StepOf : InstanceValue → Behaviour → WorldValue → Bool → List Deed → ControlPoint → Store → PortState → Type 0
  StepOf i p w counts deeds to t r =
      Stepped (record { system = i.system; behaviour = p }) i.who w (place_of i.position) i.store i.owner.state counts
      deeds to t r

  pub step_of : (g : RunState) (who : Identity) (deeds : List Deed) (h : RunState) (step : Steps ps g who deeds h)
      → LackNothing (events_of deeds)
      → StepOf step.old step.p (world_at g) (is_transition deeds) deeds (place_of step.new.position) step.new.store
      step.new.owner.state
  step_of g who deeds h step lack =
      let d : Definition = record { system = step.old.system; behaviour = step.p } in
      let none : step.goes.news ≡ [] =
      later_none step.old.owner.drawn step.goes.news (sym step.goes.drawn ∙ step.undrawn) in
      let plain : IsPlainStep d (place_of step.old.position) (work_of step.old) (world_at g) (is_transition deeds)
      (place_of step.new.position) (work_of step.new) step.world = record {
        goes = step.goes;
        undrawn = none;
        lacks_nothing = subst (λ list. LackNothing (events_of list)) (sym step.deeds_are) lack;
        starts = between step.old.position;
        between = between step.new.position;
      } in
      subst (λ list. StepOf step.old step.p (world_at g) (is_transition deeds) list (place_of step.new.position)
      step.new.store step.new.owner.state) step.deeds_are
      (stepped_by d (place_of step.old.position) (place_of step.new.position) (work_of step.old) (work_of step.new)
      (world_at g) step.world (is_transition deeds) plain)

  -- an instance that makes a step doesn't rest
  pub never_rests : (g : RunState) (who : Identity) (deeds : List Deed) (h : RunState) (step : Steps ps g who deeds h)
      → LackNothing (events_of deeds) → Rests ps step.old → ⊥
  never_rests g who deeds h step lack rests =
      by_position step.old.position refl quiet (step_of g who deeds h step lack) where
        quiet : IsQuietAt (record { system = step.old.system; behaviour = step.p }) step.old.position step.old
        quiet = subst (λ p. IsQuietAt (record { system = step.old.system; behaviour = p }) step.old.position step.old)
            (one_meaning step.old rests.p step.p rests.meant step.meant) rests.quiet

        by_position : (position : Position) → step.old.position ≡ position
            → IsQuietAt (record { system = step.old.system; behaviour = step.p }) position step.old
            → Stepped (record { system = step.old.system; behaviour = step.p }) step.old.who (world_at g)
            (place_of position) step.old.store step.old.owner.state (is_transition deeds) deeds
            (place_of step.new.position) step.new.store step.new.owner.state → ⊥
        by_position at.BeforeStart is quiet stepped = quiet
        by_position (at.In n) is quiet stepped =
            no_step (record { system = step.old.system; behaviour = step.p }) step.old.process step.meant.is_run.behaves
            step.old.who (world_at g) (known g) n step.old.store step.old.owner.state (is_transition deeds) deeds
            (place_of step.new.position) step.new.store step.new.owner.state quiet.0 quiet.1 stepped
        by_position at.Ended is quiet stepped = step.lives is
