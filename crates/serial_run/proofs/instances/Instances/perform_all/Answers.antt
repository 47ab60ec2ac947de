use Rattle.std.proofs.Common.{◌≡◌, ◌+◌, ◌≤◌, ◌∷◌, [], List, map, ap, ◌∙◌, arith, refl, subst, sym}
use Rattle.serial_run.specs.StepWorld.{AreNumbered, effect_of}
use Rattle.serial_run.specs.declared.world.effect.Effect.{Effect}
use Rattle.serial_order.specs.RunState.{RunState, after_effect, after_effects}
use Rattle.serial_run.proofs.instances.Instances.perform_all.Goals as goal
use Rattle.serial_run.proofs.Performing.{AreNumbered-first}
use Rattle.serial_run.specs.Serial.{state_of}
use Rattle.serial_run.specs.Thinned.{IsThinned}
use Rattle.serial_sweeps.specs.Sweeps.{at_agenda}

pub loop-effect-init : goal.loop-effect-init
loop-effect-init c = record {
  serial = c.requires;
  system = refl;
  clock = refl;
  state = λ m g thinned numbered. (g, thinned, numbered, refl);
  fuses = λ until low all. all;
}

pub loop-effect-preserved : goal.loop-effect-preserved
loop-effect-preserved c =
    let before = c.loop-effect.self in
    let left = map effect_of c.pop_front.new.self.items in
    let effect = effect_of c.in-Some.effect in
    let is = c.loop-effect.invariant in
    let did = c.in_ok-perform.ensures in
    let whole : map effect_of c.loop-effect.effects.items ≡ effect ∷ left = ap (map effect_of) c.in-Some.ensures.items in
    record {
      serial = did.kept;
      system = c.perform.ensures.system ∙ is.system;
      clock = c.perform.ensures.clock ∙ is.clock;
      state = λ m g thinned numbered.
          let all = is.state m g thinned numbered in
          let so_far : RunState = all.0 in
          let split = AreNumbered-first before.living.given effect left (subst (AreNumbered before.living.given) whole all.2) in (
            after_effect so_far effect,
            did.state m so_far all.1 split.0,
            subst (λ n. AreNumbered n left) (sym did.given) split.1,
            sym (ap (after_effects so_far) whole) ∙ all.3,
          );
      fuses = λ until low all.
          let within : until ≤ c.loop-effect.agenda.clock + 1 = omega (arith, low, is.clock) in
          did.fuses until within (is.fuses until low all);
    }

pub returns-clause-state : goal.returns-clause-state
returns-clause-state c = λ m g thinned numbered.
    let all = c.loop-effect.invariant.state m g thinned numbered in
    let so_far : RunState = all.0 in
    let none : c.loop-effect.effects.items ≡ [] = c.in_default.ensures.items ∙ c.in_default.ensures.none in
    subst (λ (k : RunState). IsThinned k (state_of (at_agenda m c.loop-effect.agenda) c.loop-effect.self))
    (sym (ap (λ (items : List Effect). after_effects so_far (map effect_of items)) none) ∙ all.3) all.1
