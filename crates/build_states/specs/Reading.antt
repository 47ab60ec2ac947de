-- What the parts of a process say, in the order of the text (Z.101: state; Z.102: continuous signal, enabling
-- condition).
use Rattle.std.specs.Prelude.{◌+◌, ℤ, ◌++◌, List, [], ◌∷◌, Option, None, Some, flat_map, fold, length}
use Rattle.build_names.specs.Faults.{Diagnostic}
use Rattle.build_expressions.specs.Typing.{taken_term, typed_in}
use Rattle.build_expressions.specs.declared.context.Context.TheVariants as at
use Rattle.sdl_system.specs.Term.{Term}
use Rattle.sdl_system.specs.declared.id.ConditionId.{ConditionId}
use Rattle.sdl_system.specs.declared.sort.Sort.TheVariants.{Boolean}
use Rattle.sdl_tree.specs.Tree as tree
use Rattle.sdl_tree.specs.Tree.{BodyPart, Condition, Expr, FreeAction, Input, InputPart, Inputs, Number, PriorityInput, ProcessDefinition, SavePart, Saved, StatePart, States, Stimulus}
use Rattle.build_states.specs.Context.{Context}
use Rattle.build_states.specs.Faulty.{stimulus_faults}
use Rattle.build_states.specs.Mentions.{Mention, inputs_mentions, list_mentions, saved_mentions}
use Rattle.build_states.specs.declared.stimuli.mention.Manner.TheVariants as manner
use Rattle.build_states.specs.declared.stimuli.transition.TransitionId.{TransitionId}

-- a continuous signal, with the number that is its priority, where it has one
pub record ContinuousSignal : Type 0 where
  pub condition : ConditionId
  pub priority : Option ℤ
  pub begin : TransitionId

-- what a part says of the states to which it belongs
pub record Part : Type 0 where
  pub states : States
  pub mentions : List Mention
  -- the enabling conditions
  pub enabling : List ConditionId
  pub continuous : List ContinuousSignal

-- The transition that is numbered next, and what each condition comes to: the n-th of them has the number n. One in
-- which a rule is broken comes to nothing.
pub record Numbering : Type 0 where
  pub next : TransitionId
  pub conditions : List (Option Term)

-- a part as far as it is read
pub record Begun : Type 0 where
  pub numbering : Numbering
  pub part : Part

-- a process as far as it is read
pub record Reading : Type 0 where
  pub numbering : Numbering
  pub parts : List Part

-- ---- conditions

abbrev pub following : TransitionId → TransitionId
following transition = record { 0 = transition.0 + 1 }

-- the number of the condition that comes next
abbrev pub next_condition : List (Option Term) → ConditionId
next_condition conditions = record { 0 = length conditions }

abbrev pub condition_term : Context → Expr → Option Term
condition_term context condition = taken_term (Some Boolean) (typed_in at.Condition context.scope condition)

-- the conditions, and this one behind them, if there is one
abbrev pub with_condition : Context → List (Option Term) → Option Condition → List (Option Term)
with_condition context conditions None = conditions
with_condition context conditions (Some condition) =
    conditions ++ condition_term context condition.condition ∷ []

abbrev pub number_of_condition : List (Option Term) → Option Condition → Option ConditionId
number_of_condition conditions None = None
number_of_condition conditions (Some condition) = Some (next_condition conditions)

abbrev pub with_enabling : List ConditionId → Option ConditionId → List ConditionId
with_enabling conditions None = conditions
with_enabling conditions (Some condition) = conditions ++ condition ∷ []

abbrev pub priority_of : Option Number → Option ℤ
priority_of None = None
priority_of (Some number) = Some number.value

-- ---- stimuli

-- an input, with its enabling condition if it has one
abbrev pub with_input : Context → Begun → Inputs → Option Condition → Begun
with_input context begun inputs condition = record {
  numbering = record {
    next = following begun.numbering.next;
    conditions = with_condition context begun.numbering.conditions condition;
  };
  part = record {
    states = begun.part.states;
    mentions = begun.part.mentions
        ++ inputs_mentions context (manner.Input (number_of_condition begun.numbering.conditions condition))
        begun.numbering.next inputs;
    enabling = with_enabling begun.part.enabling (number_of_condition begun.numbering.conditions condition);
    continuous = begun.part.continuous;
  };
}

abbrev pub with_priority : Context → Begun → List Input → Begun
with_priority context begun inputs = record {
  numbering = record { next = following begun.numbering.next; conditions = begun.numbering.conditions };
  part = record {
    states = begun.part.states;
    mentions = begun.part.mentions ++ list_mentions context manner.Priority begun.numbering.next inputs;
    enabling = begun.part.enabling;
    continuous = begun.part.continuous;
  };
}

-- a save, which begins no transition
abbrev pub with_saved : Context → Begun → Saved → Begun
with_saved context begun saved = record {
  numbering = begun.numbering;
  part = record {
    states = begun.part.states;
    mentions = begun.part.mentions ++ saved_mentions context saved;
    enabling = begun.part.enabling;
    continuous = begun.part.continuous;
  };
}

abbrev pub continuous_signal : Numbering → Option Number → ContinuousSignal
continuous_signal numbering priority = record {
  condition = next_condition numbering.conditions;
  priority = priority_of priority;
  begin = numbering.next;
}

abbrev pub with_continuous : Context → Begun → Expr → Option Number → Begun
with_continuous context begun condition priority = record {
  numbering = record {
    next = following begun.numbering.next;
    conditions = begun.numbering.conditions ++ condition_term context condition ∷ [];
  };
  part = record {
    states = begun.part.states;
    mentions = begun.part.mentions;
    enabling = begun.part.enabling;
    continuous = begun.part.continuous ++ continuous_signal begun.numbering priority ∷ [];
  };
}

-- one more stimulus
abbrev pub with_stimulus : Context → Begun → Stimulus → Begun
with_stimulus context begun (InputPart word inputs condition transition) = with_input context begun inputs condition
with_stimulus context begun (PriorityInput word inputs transition) = with_priority context begun inputs
with_stimulus context begun (SavePart word saved) = with_saved context begun saved
with_stimulus context begun (tree.ContinuousSignal word condition priority transition) =
    with_continuous context begun condition priority

-- ---- parts

abbrev pub no_stimuli : States → Part
no_stimuli states = record { states = states; mentions = []; enabling = []; continuous = [] }

abbrev pub with_stimuli : Context → Begun → List Stimulus → Begun
with_stimuli context begun stimuli = fold (with_stimulus context) begun stimuli

abbrev pub part_read : Context → Numbering → States → List Stimulus → Begun
part_read context numbering states stimuli =
    with_stimuli context (record { numbering = numbering; part = no_stimuli states }) stimuli

abbrev pub and_part : List Part → Begun → Reading
and_part parts begun = record { numbering = begun.numbering; parts = parts ++ begun.part ∷ [] }

-- One more part. A connection has a transition, and says nothing of any state.
abbrev pub with_part : Context → Reading → BodyPart → Reading
with_part context reading (StatePart states stimuli) =
    and_part reading.parts (part_read context reading.numbering states stimuli)
with_part context reading (FreeAction word label transition) = record {
  numbering = record { next = following reading.numbering.next; conditions = reading.numbering.conditions };
  parts = reading.parts;
}

-- the start is the first transition
abbrev pub first_reading : Reading
first_reading = record { numbering = record { next = record { 0 = 1 }; conditions = [] }; parts = [] }

abbrev pub body_read : Context → List BodyPart → Reading
body_read context body = fold (with_part context) first_reading body

-- what the states of a process say
abbrev pub process_read : Context → ProcessDefinition → Reading
process_read context process = body_read context process.body

-- ---- faults

abbrev pub stimuli_faults : Context → List Stimulus → List Diagnostic
stimuli_faults context stimuli = flat_map (stimulus_faults context) stimuli

abbrev pub part_faults : Context → BodyPart → List Diagnostic
part_faults context (StatePart states stimuli) = stimuli_faults context stimuli
part_faults context (FreeAction word label transition) = []

-- of what the stimuli of a process name; those of its states stand apart
abbrev pub body_faults : Context → List BodyPart → List Diagnostic
body_faults context body = flat_map (part_faults context) body
