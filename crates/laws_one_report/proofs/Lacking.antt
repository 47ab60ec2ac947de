-- Where nothing lacks behind a happening nothing lacks before it, nor in it.
use Rattle.std.proofs.Common.{◌≡◌, ◌++◌, refl, subst, ℕ, zero, suc, All, List, [], ◌∷◌, Some}
use Rattle.std.proofs.lemmas.List.Elements.{All-get_or, All-head, All-tail, All-cons, All-nil}
use Rattle.std.proofs.lemmas.Option.{get_or_from_slice_get, none-some, slice_get_within}
use Rattle.serial_order.specs.Execution.{Execution, Follows, Happening, Steps, begins, goes}
use Rattle.serial_order.specs.RunState.{RunState, after_effects, instance_at, with_instance}
use Rattle.run_record.specs.declared.evaluation.identity.Identity.{Identity}
use Rattle.sdl_interp.specs.Instance.{InstanceValue}
use Rattle.run_record.specs.Event.{Event}
use Rattle.run_semantics.specs.Effect.{Deed, effects_of, events_of}
use Rattle.sdl_system.specs.Behaviour.{Behaviour}
use Rattle.laws_one_report.proofs.Grown.{Grown, Kept, grown_effects, grown_next, step_events, stepped}
use Rattle.laws_one_step.specs.Unique as events
use Rattle.laws_one_step.specs.Unique.{LackNothing}

-- a list, by parts
pub first_part : (xs ys : List Event) → LackNothing (xs ++ ys) → LackNothing xs
first_part [] ys all = All-nil events.LacksNothing
first_part (x ∷ xs) ys all =
    All-cons events.LacksNothing x xs (All-head events.LacksNothing x (xs ++ ys) all)
    (first_part xs ys (All-tail events.LacksNothing x (xs ++ ys) all))

last_part : (xs ys : List Event) → LackNothing (xs ++ ys) → LackNothing ys
last_part [] ys all = all
last_part (x ∷ xs) ys all = last_part xs ys (All-tail events.LacksNothing x (xs ++ ys) all)

-- of each instance by its number
abbrev pub ByNumber : List InstanceValue → Type 0
ByNumber instances = (n : ℕ) (i : InstanceValue) → instance_at instances n ≡ Some i → LackNothing i.events

abbrev Unlacking : InstanceValue → Type 0
Unlacking i = LackNothing i.events

pub by_number : (instances : List InstanceValue) → All (λ (i : InstanceValue). LackNothing i.events) instances
    → ByNumber instances
by_number instances all zero i there = absurd (none-some i there)
by_number instances all (suc place) i there =
    subst Unlacking (get_or_from_slice_get instances place i i there)
    (All-get_or Unlacking instances place i (slice_get_within instances place i there) all)

pub before_grown : (xs ys : List InstanceValue) → Grown xs ys → ByNumber ys → ByNumber xs
before_grown xs ys grown all n i there =
    let kept : Kept i ys n = grown n i there in
    first_part i.events kept.more (subst LackNothing kept.events (all n kept.now kept.is_there))

module _ (ps : List Behaviour) (last : ℕ) where
  -- what a step did lacks nothing, where nothing lacks behind it
  pub step_lacks : (g : RunState) (who : Identity) (deeds : List Deed) (h : RunState) (step : Steps ps g who deeds h)
      → ByNumber h.instances → LackNothing (events_of deeds)
  step_lacks g who deeds h step all =
      let behind : ByNumber (after_effects (stepped ps last g who deeds h step) (effects_of deeds)).instances =
      subst (λ (x : RunState). ByNumber x.instances) step.now all in
      let before : ByNumber (with_instance g.instances who.pid step.new) =
      before_grown (with_instance g.instances who.pid step.new)
      (after_effects (stepped ps last g who deeds h step) (effects_of deeds)).instances
      (grown_effects (stepped ps last g who deeds h step) (effects_of deeds)) behind in
      last_part step.old.events (events_of deeds)
      (subst LackNothing (step_events ps last g who deeds h step)
      (before who.pid step.new (written g.instances who.pid step.old step.new step.is_there))) where
        written : (xs : List InstanceValue) (n : ℕ) (old new : InstanceValue) → instance_at xs n ≡ Some old
            → instance_at (with_instance xs n new) n ≡ Some new
        written xs zero old new there = absurd (none-some old there)
        written [] (suc n) old new there = absurd (none-some old there)
        written (x ∷ xs) (suc zero) old new there = refl
        written (x ∷ xs) (suc (suc n)) old new there = written xs (suc n) old new there

  pub before_next : (g : RunState) (next : Happening) (h : RunState) → Follows ps last g next h → ByNumber h.instances
      → ByNumber g.instances
  before_next g next h follows all =
      before_grown g.instances h.instances (grown_next ps last g next h follows) all

  pub before_execution : (from : RunState) → {happenings : List Happening} {to : RunState}
      → Execution ps last from happenings to → ByNumber to.instances → ByNumber from.instances
  before_execution from begins all = all
  before_execution from (goes {at = at} execution next to follows) all =
      before_execution from execution (before_next at next to follows all)
