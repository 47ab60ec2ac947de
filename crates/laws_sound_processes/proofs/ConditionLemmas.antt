-- Each condition that stimuli ask fits a place of a truth.
use Rattle.std.proofs.Common.{◌++◌, ℕ, zero, suc, List, [], ◌∷◌, Option, None, Some, fold, slice_get}
use Rattle.build_names.proofs.FaultLemmas.{each-both}
use Rattle.build_names.specs.FaultLaws.{Each}
use Rattle.build_expressions.specs.declared.context.Context.TheVariants as at
use Rattle.laws_sound_processes.proofs.TypedLemmas.{Holds, holds-of}
use Rattle.laws_sound_processes.specs.States.{IsTruth}
use Rattle.laws_sound_runs.proofs.KindLemmas.{placed-terms-fit}
use Rattle.laws_sound_runs.specs.Scopes.{IsSoundScope}
use Rattle.build_states.specs.Context.{Context}
use Rattle.build_states.specs.Reading.{Begun, Reading, body_read, condition_term, first_reading, no_stimuli, with_condition, with_part, with_stimuli, with_stimulus}
use Rattle.sdl_system.specs.System.{SystemValue}
use Rattle.sdl_system.specs.Term.{Term}
use Rattle.sdl_system.specs.declared.id.ConditionId.{ConditionId}
use Rattle.sdl_system.specs.declared.process.Process.{Process}
use Rattle.sdl_system.specs.declared.sort.Sort.TheVariants.{Boolean}
use Rattle.build_tables.specs.Meant.{come_to, condition_at}
use Rattle.sdl_tree.specs.Tree as tree
use Rattle.sdl_tree.specs.Tree.{BodyPart, Expr, Stimulus}

module _ (system : SystemValue) (process : Process) where
  abbrev pub AreTruths : List (Option Term) → Type 0
  AreTruths conditions = Each (Holds (IsTruth system process)) conditions

  truth-found : (found : Option (Option Term)) → Holds (Holds (IsTruth system process)) found →
      Holds (IsTruth system process) (come_to found)
  truth-found None has = tt
  truth-found (Some term) has = has

  truth-in : (conditions : List (Option Term)) (n : ℕ) → AreTruths conditions →
      Holds (Holds (IsTruth system process)) (slice_get conditions n)
  truth-in [] zero each = tt
  truth-in [] (suc n) each = tt
  truth-in (first ∷ conditions) zero each = each.0
  truth-in (first ∷ conditions) (suc n) each = truth-in conditions n each.1

  pub truth-at : (conditions : List (Option Term)) (number : ConditionId) → AreTruths conditions →
      Holds (IsTruth system process) (condition_at conditions number)
  truth-at conditions number each =
      truth-found (slice_get conditions number.0) (truth-in conditions number.0 each)

  module _ (context : Context) (sound : IsSoundScope system process context.scope) where
    condition-truth : (conditions : List (Option Term)) (condition : Expr) → AreTruths conditions →
        AreTruths (conditions ++ condition_term context condition ∷ [])
    condition-truth conditions condition each =
        each-both (Holds (IsTruth system process)) conditions (condition_term context condition ∷ []) each (
          holds-of (IsTruth system process) (condition_term context condition)
              (λ term is. placed-terms-fit system process at.Condition context.scope Boolean condition term sound is),
          tt,
        )

    with-truth : (conditions : List (Option Term)) (condition : Option tree.Condition) → AreTruths conditions →
        AreTruths (with_condition context conditions condition)
    with-truth conditions None each = each
    with-truth conditions (Some condition) each = condition-truth conditions condition.condition each

    stimulus-truth : (begun : Begun) (stimulus : Stimulus) → AreTruths begun.numbering.conditions →
        AreTruths (with_stimulus context begun stimulus).numbering.conditions
    stimulus-truth begun (tree.InputPart word inputs condition transition) each =
        with-truth begun.numbering.conditions condition each
    stimulus-truth begun (tree.PriorityInput word inputs transition) each = each
    stimulus-truth begun (tree.SavePart word saved) each = each
    stimulus-truth begun (tree.ContinuousSignal word condition priority transition) each =
        condition-truth begun.numbering.conditions condition each

    stimuli-truth : (begun : Begun) (stimuli : List Stimulus) → AreTruths begun.numbering.conditions →
        AreTruths (with_stimuli context begun stimuli).numbering.conditions
    stimuli-truth begun [] each = each
    stimuli-truth begun (stimulus ∷ stimuli) each =
        stimuli-truth (with_stimulus context begun stimulus) stimuli (stimulus-truth begun stimulus each)

    parts-truth : (reading : Reading) (body : List BodyPart) → AreTruths reading.numbering.conditions →
        AreTruths (fold (with_part context) reading body).numbering.conditions
    parts-truth reading [] each = each
    parts-truth reading (tree.StatePart states stimuli ∷ body) each =
        parts-truth (with_part context reading (tree.StatePart states stimuli)) body
        (stimuli-truth (record { numbering = reading.numbering; part = no_stimuli states }) stimuli each)
    parts-truth reading (tree.FreeAction word label transition ∷ body) each =
        parts-truth (with_part context reading (tree.FreeAction word label transition)) body each

    -- all conditions of a process
    pub all-truths : (body : List BodyPart) → AreTruths (body_read context body).numbering.conditions
    all-truths body = parts-truth first_reading body tt
