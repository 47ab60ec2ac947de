-- Conditions of stimuli that break no rule have their terms.
use Rattle.std.proofs.Common.{◌≡◌, ◌++◌, zero, suc, Contains, List, [], ◌∷◌, Option, None, Some, arith, fold}
use Rattle.laws_complete.specs.Complete.{AreThere, IsComplete, IsThere}
use Rattle.build_expressions.specs.declared.context.Context.TheVariants as at
use Rattle.build_states.specs.Context as stimuli
use Rattle.build_states.specs.Faulty as faulty
use Rattle.build_states.specs.Reading.{Begun, Reading, body_faults, body_read, condition_term, first_reading, no_stimuli, part_faults, stimuli_faults, with_condition, with_part, with_stimuli, with_stimulus}
use Rattle.sdl_system.specs.Term.{Term}
use Rattle.sdl_system.specs.declared.sort.Sort.TheVariants.{Boolean}
use Rattle.sdl_tree.specs.Tree.{Expr}
use Rattle.sdl_tree.specs.Tree as tree
use Rattle.laws_complete.proofs.ExpressionLemmas.{empty-left, empty-right, placed-given}

and-last : {A : Type 0} (all : List (Option A)) (last : Option A) → AreThere all → IsThere last →
    AreThere (all ++ last ∷ [])
and-last [] last have has = (has, tt)
and-last (first ∷ rest) last have has = (have.0, and-last rest last have.1 has)

pub none-missing : {A : Type 0} (all : List (Option A)) → AreThere all → Contains all None → ⊥
none-missing [] have missing = omega (arith, missing.1)
none-missing (None ∷ rest) have missing = have.0
none-missing (Some first ∷ rest) have (zero, below, is) = cc
none-missing (Some first ∷ rest) have (suc k, below, is) = none-missing rest have.1 (k, omega (arith, below), is)

module _ (context : stimuli.Context) (complete : IsComplete context.scope) where
  -- the conditions of a reading all have their terms
  abbrev AreGiven : Begun → Type 0
  AreGiven begun = AreThere begun.numbering.conditions

  condition-given : (conditions : List (Option Term)) (condition : Expr) → AreThere conditions →
      faulty.expression_faults context condition ≡ [] →
      AreThere (conditions ++ condition_term context condition ∷ [])
  condition-given conditions condition have is =
      and-last conditions (condition_term context condition) have
      (placed-given at.Condition context.scope complete (Some Boolean) condition is)

  enabling-given : (conditions : List (Option Term)) (condition : Option tree.Condition) → AreThere conditions →
      faulty.condition_faults context condition ≡ [] → AreThere (with_condition context conditions condition)
  enabling-given conditions None have is = have
  enabling-given conditions (Some condition) have is = condition-given conditions condition.condition have is

  stimulus-given : (begun : Begun) (stimulus : tree.Stimulus) → AreGiven begun →
      faulty.stimulus_faults context stimulus ≡ [] → AreGiven (with_stimulus context begun stimulus)
  stimulus-given begun (tree.InputPart word inputs condition transition) have is =
      enabling-given begun.numbering.conditions condition have
      (empty-right (faulty.inputs_faults context inputs) (faulty.condition_faults context condition) is)
  stimulus-given begun (tree.PriorityInput word inputs transition) have is = have
  stimulus-given begun (tree.SavePart word saved) have is = have
  stimulus-given begun (tree.ContinuousSignal word condition priority transition) have is =
      condition-given begun.numbering.conditions condition have is

  stimuli-given : (begun : Begun) (stimuli : List tree.Stimulus) → AreGiven begun →
      stimuli_faults context stimuli ≡ [] → AreGiven (with_stimuli context begun stimuli)
  stimuli-given begun [] have is = have
  stimuli-given begun (stimulus ∷ stimuli) have is =
      let here = faulty.stimulus_faults context stimulus in
      let behind = stimuli_faults context stimuli in
      stimuli-given (with_stimulus context begun stimulus) stimuli
      (stimulus-given begun stimulus have (empty-left here behind is)) (empty-right here behind is)

  part-given : (reading : Reading) (part : tree.BodyPart) → AreThere reading.numbering.conditions →
      part_faults context part ≡ [] → AreThere (with_part context reading part).numbering.conditions
  part-given reading (tree.StatePart states stimuli) have is =
      stimuli-given (record { numbering = reading.numbering; part = no_stimuli states }) stimuli have is
  part-given reading (tree.FreeAction word label transition) have is = have

  parts-given : (reading : Reading) (parts : List tree.BodyPart) → AreThere reading.numbering.conditions →
      body_faults context parts ≡ [] → AreThere (fold (with_part context) reading parts).numbering.conditions
  parts-given reading [] have is = have
  parts-given reading (part ∷ parts) have is =
      let here = part_faults context part in
      let behind = body_faults context parts in
      parts-given (with_part context reading part) parts (part-given reading part have (empty-left here behind is))
      (empty-right here behind is)

  pub conditions-given : (body : List tree.BodyPart) → body_faults context body ≡ [] →
      AreThere (body_read context body).numbering.conditions
  conditions-given body is = parts-given first_reading body tt is
