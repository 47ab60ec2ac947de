-- What the parts of a process say: each begins transitions of the process alone, asks conditions of it, and speaks of
-- what names stand for.
use Rattle.std.proofs.Common.{◌≡◌, ◌+◌, ◌<◌, ◌≤◌, ℕ, suc, IfSome, List, [], ◌∷◌, Option, None, Some, arith, flat_map, fold, length, length-append, map, refl}
use Rattle.port_model.specs.declared.values.item.SignalId.{SignalId}
use Rattle.build_process.proofs.OrderLemmas.{stimuli-in-order}
use Rattle.laws_complete.proofs.StayLemmas.{condition-among, last-among, parts-stay, stimuli-stay, within}
use Rattle.laws_complete.proofs.MentionedLemmas.{Begins, BeginsContinuous, Bounds, IsCondition, IsMention, IsPart, IsTable, Speaks, table-named}
use Rattle.build_flow.specs.Beginnings.{beginnings, part_beginnings, stimulus_beginnings}
use Rattle.build_names.proofs.FaultLemmas.{each-both}
use Rattle.build_names.specs.FaultLaws.{Each}
use Rattle.build_expressions.specs.Scope.{SignalMeaning, signal_in}
use Rattle.build_states.specs.States.{table_named}
use Rattle.build_states.specs.Context.{Context, list_in}
use Rattle.build_states.specs.Mentions.{inputs_mentions, item_mention, item_subjects, list_mentions, number_of, received, saved_mentions, subjects_in, subjects_of}
use Rattle.build_states.specs.Reading.{Begun, Numbering, Reading, continuous_signal, first_reading, with_enabling, no_stimuli, number_of_condition, part_read, process_read, with_continuous, with_input, with_part, with_priority, with_saved, with_stimulus}
use Rattle.build_states.specs.declared.stimuli.mention.Manner.{Manner}
use Rattle.build_states.specs.declared.stimuli.mention.Manner.TheVariants as manner
use Rattle.build_states.specs.declared.stimuli.subject.Subject.TheVariants.{Signal}
use Rattle.build_states.specs.declared.stimuli.transition.TransitionId.{TransitionId}
use Rattle.sdl_system.specs.declared.id.ConditionId.{ConditionId}
use Rattle.sdl_system.specs.declared.id.VariableId.{VariableId}
use Rattle.sdl_tree.specs.Tree as tree
use Rattle.sdl_tree.specs.Tree.{BodyPart, Condition, Expr, FreeAction, Input, InputAll, InputList, InputPart, Inputs, ListItem, Number, PriorityInput, ProcessDefinition, SaveAll, SaveList, SavePart, Saved, SignalItem, SignalListItem, StatePart, States, Stimulus}
use Rattle.sdl_tree.specs.Words.{Spot}

-- ---- how many transitions are left

room-here : (a m n : ℕ) → a + suc m ≤ n → a < n
room-here a m n room = omega (arith, room)

room-next : (a m n : ℕ) → a + suc m ≤ n → (a + 1) + m ≤ n
room-next a m n room = omega (arith, room)

room-part : (a b d n whole next : ℕ) → a + whole ≤ n → whole ≡ b + d → next ≡ a + b → next + d ≤ n
room-part a b d n whole next room both is = omega (arith, room, both, is)

room-first : (a b d n whole : ℕ) → a + whole ≤ n → whole ≡ b + d → a + b ≤ n
room-first a b d n whole room both = omega (arith, room, both)

-- ---- mentions

each-speaks : (Q : SignalId → Type 0) (signals : List SignalId) → Each Q signals → Each (Speaks Q) (map Signal signals)
each-speaks Q [] each = tt
each-speaks Q (signal ∷ signals) each = (each.0, each-speaks Q signals each.1)

-- the condition of an input of this manner is one of the conditions
abbrev Asks : Bounds → Manner → Type 0
Asks n (manner.Input condition) = IfSome condition (IsCondition n)
Asks n manner.Priority = Unit {0}

begins-received : (n : Bounds) (how : Manner) (begin : TransitionId) (variables : List (Option VariableId)) →
    begin.0 < n.transitions → Asks n how → Begins n (received how begin variables)
begins-received n (manner.Input condition) begin variables below asks = (below, asks)
begins-received n manner.Priority begin variables below asks = below

module _ (n : Bounds) (Q : SignalId → Type 0) (context : Context)
    (signals : (text : List ℕ) (meaning : SignalMeaning) → signal_in context.scope text ≡ Some meaning →
    Q (number_of meaning))
    (lists : (text : List ℕ) (list : List SignalId) → list_in context text ≡ Some list → Each Q list) where
  of-signal : (text : List ℕ) (found : Option SignalMeaning) → signal_in context.scope text ≡ found →
      Each (Speaks Q) (subjects_of found)
  of-signal text None is = tt
  of-signal text (Some meaning) is = (signals text meaning is, tt)

  of-list : (text : List ℕ) (found : Option (List SignalId)) → list_in context text ≡ found →
      Each (Speaks Q) (subjects_in found)
  of-list text None is = tt
  of-list text (Some list) is = each-speaks Q list (lists text list is)

  of-item : (item : SignalListItem) → Each (Speaks Q) (item_subjects context item)
  of-item (SignalItem name) = of-signal name.text (signal_in context.scope name.text) refl
  of-item (ListItem name) = of-list name.text (list_in context name.text) refl

  list-each : (how : Manner) (begin : TransitionId) (inputs : List Input) → begin.0 < n.transitions → Asks n how →
      Each (IsMention n Q) (list_mentions context how begin inputs)
  list-each how begin [] below asks = tt
  list-each how begin (one ∷ inputs) below asks = (
    record {
      begins = begins-received n how begin _ below asks;
      speaks = of-signal one.signal.text (signal_in context.scope one.signal.text) refl;
    },
    list-each how begin inputs below asks,
  )

  inputs-each : (how : Manner) (begin : TransitionId) (inputs : Inputs) → begin.0 < n.transitions → Asks n how →
      Each (IsMention n Q) (inputs_mentions context how begin inputs)
  inputs-each how begin (InputList inputs) below asks = list-each how begin inputs below asks
  inputs-each how begin (InputAll asterisk) below asks =
      (record { begins = begins-received n how begin [] below asks; speaks = (tt, tt) }, tt)

  items-each : (items : List SignalListItem) → Each (IsMention n Q) (map (item_mention context) items)
  items-each [] = tt
  items-each (item ∷ items) = (record { begins = tt; speaks = of-item item }, items-each items)

  saved-each : (saved : Saved) → Each (IsMention n Q) (saved_mentions context saved)
  saved-each (SaveList items) = items-each items
  saved-each (SaveAll asterisk) = (record { begins = tt; speaks = (tt, tt) }, tt)

  -- ---- stimuli

  enabling-more : (conditions : List ConditionId) (condition : Option ConditionId) → Each (IsCondition n) conditions →
      IfSome condition (IsCondition n) → Each (IsCondition n) (with_enabling conditions condition)
  enabling-more conditions None each is = each
  enabling-more conditions (Some condition) each is =
      each-both (IsCondition n) conditions (condition ∷ []) each (is, tt)

  input-more : (begun : Begun) (inputs : Inputs) (condition : Option Condition) →
      begun.numbering.next.0 < n.transitions →
      IfSome (number_of_condition begun.numbering.conditions condition) (IsCondition n) →
      IsPart n Q begun.part → IsPart n Q (with_input context begun inputs condition).part
  input-more begun inputs condition below asks is = record {
    mentions =
        each-both (IsMention n Q) begun.part.mentions _ is.mentions
        (inputs-each (manner.Input (number_of_condition begun.numbering.conditions condition)) begun.numbering.next
        inputs below asks);
    enabling =
        enabling-more begun.part.enabling (number_of_condition begun.numbering.conditions condition) is.enabling asks;
    continuous = is.continuous;
  }

  priority-more : (begun : Begun) (inputs : List Input) → begun.numbering.next.0 < n.transitions →
      IsPart n Q begun.part → IsPart n Q (with_priority context begun inputs).part
  priority-more begun inputs below is = record {
    mentions =
        each-both (IsMention n Q) begun.part.mentions _ is.mentions
        (list-each manner.Priority begun.numbering.next inputs below tt);
    enabling = is.enabling;
    continuous = is.continuous;
  }

  saved-more : (begun : Begun) (saved : Saved) → IsPart n Q begun.part →
      IsPart n Q (with_saved context begun saved).part
  saved-more begun saved is = record {
    mentions = each-both (IsMention n Q) begun.part.mentions _ is.mentions (saved-each saved);
    enabling = is.enabling;
    continuous = is.continuous;
  }

  continuous-more : (begun : Begun) (condition : Expr) (priority : Option Number) →
      begun.numbering.next.0 < n.transitions → length begun.numbering.conditions < n.conditions →
      IsPart n Q begun.part → IsPart n Q (with_continuous context begun condition priority).part
  continuous-more begun condition priority below asks is = record {
    mentions = is.mentions;
    enabling = is.enabling;
    continuous =
        each-both (BeginsContinuous n) begun.part.continuous (continuous_signal begun.numbering priority ∷ [])
        is.continuous ((below, asks), tt);
  }

  abbrev left_behind : List Stimulus → ℕ
  left_behind list = length (flat_map stimulus_beginnings list)

  -- there are as many conditions as these stimuli give, or more
  abbrev Fits : Begun → List Stimulus → Type 0
  Fits begun list = length (fold (with_stimulus context) begun list).numbering.conditions ≤ n.conditions

  fits-here : (begun : Begun) (list : List Stimulus) → Fits begun list →
      length begun.numbering.conditions ≤ n.conditions
  fits-here begun list fits = within _ _ n.conditions (stimuli-stay context begun list) fits

  stimuli-more : (begun : Begun) (list : List Stimulus) →
      begun.numbering.next.0 + left_behind list ≤ n.transitions → Fits begun list → IsPart n Q begun.part →
      IsPart n Q (fold (with_stimulus context) begun list).part
  stimuli-more begun [] room fits is = is
  stimuli-more begun (InputPart word inputs condition transition ∷ list) room fits is =
      let more = with_input context begun inputs condition in
      stimuli-more more list (room-next begun.numbering.next.0 (left_behind list) n.transitions room) fits
      (input-more begun inputs condition (room-here begun.numbering.next.0 (left_behind list) n.transitions room)
      (condition-among context begun.numbering.conditions condition n.conditions (fits-here more list fits)) is)
  stimuli-more begun (PriorityInput word inputs transition ∷ list) room fits is =
      stimuli-more (with_priority context begun inputs) list
      (room-next begun.numbering.next.0 (left_behind list) n.transitions room) fits
      (priority-more begun inputs (room-here begun.numbering.next.0 (left_behind list) n.transitions room) is)
  stimuli-more begun (SavePart word saved ∷ list) room fits is =
      stimuli-more (with_saved context begun saved) list room fits (saved-more begun saved is)
  stimuli-more begun (tree.ContinuousSignal word condition priority transition ∷ list) room fits is =
      let more = with_continuous context begun condition priority in
      stimuli-more more list (room-next begun.numbering.next.0 (left_behind list) n.transitions room) fits
      (continuous-more begun condition priority
      (room-here begun.numbering.next.0 (left_behind list) n.transitions room)
      (last-among begun.numbering.conditions _ n.conditions (fits-here more list fits)) is)

  -- ---- parts

  part-is : (numbering : Numbering) (states : States) (stimuli : List Stimulus) →
      numbering.next.0 + left_behind stimuli ≤ n.transitions →
      length (part_read context numbering states stimuli).numbering.conditions ≤ n.conditions →
      IsPart n Q (part_read context numbering states stimuli).part
  part-is numbering states stimuli room fits =
      stimuli-more (record { numbering = numbering; part = no_stimuli states }) stimuli room fits
      (record { mentions = tt; enabling = tt; continuous = tt })

  parts-more : (reading : Reading) (body : List BodyPart) →
      reading.numbering.next.0 + length (flat_map part_beginnings body) ≤ n.transitions →
      length (fold (with_part context) reading body).numbering.conditions ≤ n.conditions →
      Each (IsPart n Q) reading.parts → Each (IsPart n Q) (fold (with_part context) reading body).parts
  parts-more reading [] room fits are = are
  parts-more reading (StatePart states stimuli ∷ body) room fits are =
      let here = flat_map stimulus_beginnings stimuli in
      let behind = flat_map part_beginnings body in
      let more = with_part context reading (StatePart states stimuli) in
      parts-more more body
      (room-part reading.numbering.next.0 (length here) (length behind) n.transitions _ _ room
      (length-append here behind) (stimuli-in-order context reading.numbering states stimuli)) fits
      (each-both (IsPart n Q) reading.parts (_ ∷ []) are (
        part-is reading.numbering states stimuli
            (room-first reading.numbering.next.0 (length here) (length behind) n.transitions _ room
            (length-append here behind)) (within _ _ n.conditions (parts-stay context more body) fits),
        tt,
      ))
  parts-more reading (FreeAction word label transition ∷ body) room fits are =
      parts-more (with_part context reading (FreeAction word label transition)) body
      (room-next reading.numbering.next.0 (length (flat_map part_beginnings body)) n.transitions room) fits are

-- the bounds of a process
abbrev pub bounds_of : ℕ → Context → ProcessDefinition → Bounds
bounds_of transitions context process =
    record { transitions = transitions; conditions = length (process_read context process).numbering.conditions }

one-first : (n m : ℕ) → n ≡ suc m → 1 + m ≤ n
one-first n m is = omega (arith, is)

no-more : (n : ℕ) → n ≤ n
no-more n = omega arith

-- what the state of a name says, in a process with so many transitions
pub process-table : (Q : SignalId → Type 0) (context : Context) (process : ProcessDefinition) (transitions : ℕ) →
    transitions ≡ length (beginnings process) →
    ((text : List ℕ) (meaning : SignalMeaning) → signal_in context.scope text ≡ Some meaning →
    Q (number_of meaning)) →
    ((text : List ℕ) (list : List SignalId) → list_in context text ≡ Some list → Each Q list) → (name : Spot) →
    IsTable (bounds_of transitions context process) Q (table_named (process_read context process).parts name)
process-table Q context process transitions is signals lists name =
    let n = bounds_of transitions context process in
    table-named n Q name.text (process_read context process).parts
    (parts-more n Q context signals lists first_reading process.body (one-first transitions _ is) (no-more _) tt)
