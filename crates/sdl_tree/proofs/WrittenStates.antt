-- What is written for the erasure of a state spells it. A stimulus without a condition or priority stays one: what comes after it
-- begins no more with `provided` or `priority` than it did.
use Rattle.std.proofs.Common.{◌≡◌, ◌≢◌, refl, sym, ap, ◌∙◌, subst, ℕ, zero, suc, Bool, true, false, true≢false, Option, Some, None, option_map, List, [], ◌∷◌, map, inl, inr}
use Rattle.sdl_tree.specs.declared.mark.Mark.{Mark}
use Rattle.sdl_tree.specs.declared.mark.Mark.TheVariants as mark
use Rattle.sdl_tree.specs.declared.name.Spelling.{Spelling}
use Rattle.sdl_tree.specs.Canonical.{fixed, repeated, optional, end_words, terminator_words, ending_words, transition_words, action_words, in1_words, ins_words, saved_words, condition_words, priority_words, stimulus_words, states_words, body_part_words}
use Rattle.sdl_tree.specs.Erased.{plain, erased_name, erased_number, erased_terminator, erased_ending, erased_action, erased_transition, erased_input, erased_inputs, erased_saved, erased_condition, erased_stimulus, erased_states, erased_body_part}
use Rattle.sdl_tree.specs.Spells.Behaviour.{SpellsTerminator, SpellsEnding, SpellsTrans, SpellsAction, SpellsIn1, SpellsIns, SpellsSaved, SpellsCondition, SpellsPriority, SpellsStimulus, SpellsStates, SpellsEndStateName, SpellsEndConnection, SpellsBodyPart}
use Rattle.sdl_tree.specs.Spells.Parts.{Repeated, Wherever, Begins}
use Rattle.sdl_tree.specs.Tree.{Terminator, Next, Stop, Join, Transition, Steps, NoAction, AndAction, Action, Task, Output, Set, Reset, Create, Decision, Inputs, InputList, InputAll, Saved, SaveList, SaveAll, Stimulus, InputPart, PriorityInput, SavePart, ContinuousSignal, States, StateList, StateAll, BodyPart, StatePart, FreeAction}
use Rattle.sdl_tree.specs.Words.{Spot, Word, Words, Fixed}
use Rattle.sdl_tree.specs.Words as word
use Rattle.sdl_tree.proofs.Written.{Writes, mark_written, name_written, names_written, number_written, both_written, behind_written, before_written, followed_written, ended_written, end_written, optional_written, separated_written, in_parentheses_written, sigs_written}
use Rattle.sdl_tree.proofs.WrittenExpressions.{expr_written}
use Rattle.sdl_tree.proofs.WrittenTransitions.{transition_written}

-- ---- the first word

pub first_or : Word → Words → Word
first_or other [] = other
first_or other (w ∷ words) = w

pub mark_of : Word → Option Mark
mark_of (Fixed m s) = Some m
mark_of (word.Name x) = None
mark_of (word.Number n x) = None
mark_of (word.Text x) = None
mark_of (word.LeftOut lower x) = None

abbrev first_mark : Words → Option Mark
first_mark i = mark_of (first_or (word.LeftOut [] (record { text = []; place = record { line = 1; column = 1 } })) i)

some_mark : (o : Option Mark) → Mark
some_mark None = mark.Open
some_mark (Some m) = m

is_some_mark : Option Mark → Bool
is_some_mark None = false
is_some_mark (Some m) = true

-- Words that begin with the same mark as others begin with no mark with which the others don't begin.
pub begins_alike : (m first : Mark) (i rest words : Words) (s t : Spelling) → i ≡ Fixed first s ∷ rest → ¬ Begins m i → ¬ Begins m (Fixed first t ∷ words)
unfolding first_or mark_of some_mark
begins_alike m first i rest words s t e free b =
    free (s, rest, e ∙ ap (λ n. Fixed n s ∷ rest) (ap (λ i. some_mark (first_mark i)) b.2))

pub name_begins : (m : Mark) (x : Spot) (words : Words) → ¬ Begins m (word.Name x ∷ words)
unfolding first_or mark_of is_some_mark
name_begins m x words b = true≢false (sym (ap (λ i. is_some_mark (first_mark i)) b.2))

pub same_mark : (m first : Mark) (words : Words) (s : Spelling) → Begins m (Fixed first s ∷ words) → m ≡ first
unfolding first_or mark_of some_mark
same_mark m first words s b = sym (ap (λ i. some_mark (first_mark i)) b.2)

module _ (m : Mark) where
  pub terminator_begins : (t : Terminator) (i j k : Words) → SpellsTerminator t i j → ¬ Begins m i → ¬ Begins m (terminator_words (erased_terminator t) k)
  terminator_begins (Next w state) i j k s free = begins_alike m mark.NextState i s.0 _ w plain s.1 free
  terminator_begins (Stop w) i j k s free = begins_alike m mark.Stop i s.0 _ w plain s.1 free
  terminator_begins (Join w label) i j k s free = begins_alike m mark.Join i s.0 _ w plain s.1 free

  ending_begins : (label : Option Spot) (t : Terminator) (i j k : Words) → SpellsEnding (record { label = label; terminator = t }) i j →
      ¬ Begins m i → ¬ Begins m (ending_words (erased_ending (record { label = label; terminator = t })) k)
  ending_begins None t i j k s free = terminator_begins t s.0 j k s.2 (subst (λ words. ¬ Begins m words) s.1 free)
  ending_begins (Some x) t i j k s free = name_begins m (erased_name x) _

  action_begins : (a : Action) (depth : ℕ) (i j k : Words) → SpellsAction depth a i j → ¬ Begins m i → ¬ Begins m (action_words (erased_action a) k)
  action_begins (Task w assignments) depth i j k s free = begins_alike m mark.Task i s.0 _ w plain s.1 free
  action_begins (Output w outputs destination) depth i j k s free = begins_alike m mark.Output i s.0 _ w plain s.1 free
  action_begins (Set w clauses) depth i j k s free = begins_alike m mark.Set i s.0 _ w plain s.1 free
  action_begins (Reset w groups) depth i j k s free = begins_alike m mark.Reset i s.0 _ w plain s.1 free
  action_begins (Create w process) depth i j k s free = begins_alike m mark.Create i s.0 _ w plain s.1 free
  action_begins (Decision w question parts otherwise) zero i j k s free = absurd s
  action_begins (Decision w question parts otherwise) (suc depth) i j k s free = begins_alike m mark.Decision i s.0 _ w plain s.1 free

  -- a transition, before words that begin with the mark no more than others do
  pub transition_begins : (t : Transition) (depth : ℕ) (i j k : Words) → SpellsTrans depth t i j → (¬ Begins m j → ¬ Begins m k) →
      ¬ Begins m i → ¬ Begins m (transition_words (erased_transition t) k)
  transition_begins (Steps NoAction None) depth i j k s after free = after (subst (λ words. ¬ Begins m words) (s.1 ∙ s.2) free)
  transition_begins (Steps NoAction (Some e)) depth i j k s after free =
      ending_begins e.label e.terminator s.0 j k s.2 (subst (λ words. ¬ Begins m words) s.1 free)
  transition_begins (Steps (AndAction None action rest) ending) depth i j k s after free =
      let first = s.1.1 in action_begins action depth first.0 s.1.0 _ first.2 (subst (λ words. ¬ Begins m words) first.1 free)
  transition_begins (Steps (AndAction (Some x) action rest) ending) depth i j k s after free = name_begins m (erased_name x) _

  pub stimuli_begin : (depth : ℕ) (stimuli : List Stimulus) (i j k : Words) → Repeated (SpellsStimulus depth) stimuli i j → ¬ Begins m k →
      ¬ Begins m i → ¬ Begins m (repeated stimulus_words (map erased_stimulus stimuli) k)
  stimuli_begin depth [] i j k s end free = end
  stimuli_begin depth (InputPart w inputs condition transition ∷ stimuli) i j k s end free = begins_alike m mark.Input i s.1.0 _ w plain s.1.1 free
  stimuli_begin depth (PriorityInput w inputs transition ∷ stimuli) i j k s end free = begins_alike m mark.Priority i s.1.0 _ w plain s.1.1 free
  stimuli_begin depth (SavePart w saved ∷ stimuli) i j k s end free = begins_alike m mark.Save i s.1.0 _ w plain s.1.1 free
  stimuli_begin depth (ContinuousSignal w condition priority transition ∷ stimuli) i j k s end free =
      begins_alike m mark.Provided i s.1.0 _ w plain s.1.1 free

-- ---- states

-- words before which a stimulus can be written in the place of others
abbrev pub Follows : Words → Words → Type 0
Follows j k = (m : Mark) → m ≢ mark.EndState → ¬ Begins m j → ¬ Begins m k

in1_written : Writes erased_input SpellsIn1 in1_words
in1_written = record {
  writes = λ input i j k s.
      (both_written name_written (in_parentheses_written (optional_written name_written))).writes (input.signal, input.variables) i j k s;
}

ins_on : (x : Inputs) (i j k : Words) → SpellsIns x i j → SpellsIns (erased_inputs x) (ins_words (erased_inputs x) k) k
ins_on (InputList inputs) i j k s = (separated_written in1_written).writes inputs i j k s
ins_on (InputAll asterisk) i j k s = refl

ins_written : Writes erased_inputs SpellsIns ins_words
ins_written = record { writes = ins_on }

saved_on : (x : Saved) (i j k : Words) → SpellsSaved x i j → SpellsSaved (erased_saved x) (saved_words (erased_saved x) k) k
saved_on (SaveList items) i j k s = sigs_written.writes items i j k s
saved_on (SaveAll asterisk) i j k s = refl

saved_written : Writes erased_saved SpellsSaved saved_words
saved_written = record { writes = saved_on }

condition_written : (depth : ℕ) → Writes erased_condition (SpellsCondition depth) condition_words
condition_written depth = record {
  writes = λ c i j k s. (both_written (mark_written mark.Provided) (ended_written (expr_written depth))).writes (c.word, c.condition) i j k s;
}

priority_written : Writes erased_number SpellsPriority priority_words
priority_written = record { writes = (behind_written (ended_written number_written) mark.Priority).writes }

wherever_written : {A : Type 0} {erase : A → A} {P : A → Words → Words → Type 0} {words : A → Words → Words} → Writes erase P words →
    (first : Mark) (o : Option A) (i j k : Words) → Wherever first P o i j → (¬ Begins first j → ¬ Begins first k) →
    Wherever first P (option_map erase o) (optional words (option_map erase o) k) k
wherever_written p first None i j k s after = (refl, after (subst (λ words. ¬ Begins first words) s.0 s.1))
wherever_written p first (Some x) i j k s after = p.writes x i j k s

provided≢end : mark.Provided ≢ mark.EndState
provided≢end e = cc

priority≢end : mark.Priority ≢ mark.EndState
priority≢end e = cc

stimulus_written : (depth : ℕ) → (x : Stimulus) (i j k : Words) → SpellsStimulus depth x i j → Follows j k →
    SpellsStimulus depth (erased_stimulus x) (stimulus_words (erased_stimulus x) k) k
stimulus_written depth (InputPart w inputs condition transition) i j k s after =
    let body = transition_words (erased_transition transition) k in
    let rest = optional condition_words (option_map erased_condition condition) body in
    let behind = s.2 in
    let last = behind.2 in (
      _,
      refl,
      (
        rest,
        (ended_written ins_written).writes inputs s.0 behind.0 rest behind.1,
        (
          body,
          wherever_written (condition_written depth) mark.Provided condition behind.0 last.0 body last.1
              (transition_begins mark.Provided transition depth last.0 j k last.2 (after mark.Provided provided≢end)),
          (transition_written depth).writes transition last.0 j k last.2,
        ),
      ),
    )
stimulus_written depth (PriorityInput w inputs transition) i j k s after =
    let body = transition_words (erased_transition transition) k in
    let behind = s.2.3 in
    let last = behind.2 in (
      _,
      refl,
      (
        plain,
        _,
        refl,
        (
          body,
          (ended_written (separated_written in1_written)).writes inputs s.2.1 behind.0 body behind.1,
          (
            transition_begins mark.Provided transition depth behind.0 j k last.1 (after mark.Provided provided≢end) last.0,
            (transition_written depth).writes transition behind.0 j k last.1,
          ),
        ),
      ),
    )
stimulus_written depth (SavePart w saved) i j k s after =
    (both_written (mark_written mark.Save) (ended_written saved_written)).writes (w, saved) i j k s
stimulus_written depth (ContinuousSignal w condition priority transition) i j k s after =
    let body = transition_words (erased_transition transition) k in
    let rest = optional priority_words (option_map erased_number priority) body in
    let behind = s.2 in
    let last = behind.2 in (
      _,
      refl,
      (
        rest,
        (ended_written (expr_written depth)).writes condition s.0 behind.0 rest behind.1,
        (
          body,
          wherever_written priority_written mark.Priority priority behind.0 last.0 body last.1
              (transition_begins mark.Priority transition depth last.0 j k last.2 (after mark.Priority priority≢end)),
          (transition_written depth).writes transition last.0 j k last.2,
        ),
      ),
    )

-- the stimuli of a state, before its `endstate`
stimuli_written : (depth : ℕ) → (stimuli : List Stimulus) (i j k : Words) → Repeated (SpellsStimulus depth) stimuli i j →
    Repeated (SpellsStimulus depth) (map erased_stimulus stimuli) (repeated stimulus_words (map erased_stimulus stimuli) (fixed mark.EndState ∷ k)) (fixed mark.EndState ∷ k)
stimuli_written depth [] i j k s = refl
stimuli_written depth (x ∷ stimuli) i j k s =
    let end = fixed mark.EndState ∷ k in
    let rest = repeated stimulus_words (map erased_stimulus stimuli) end in
    let after : Follows s.0 rest = λ m other. stimuli_begin m depth stimuli s.0 j end s.2 (λ b. other (same_mark m mark.EndState k plain b)) in
    (rest, (stimulus_written depth) x i s.0 rest s.1 after, (stimuli_written depth) stimuli s.0 j k s.2)

states_on : (x : States) (i j k : Words) → SpellsStates x i j → SpellsStates (erased_states x) (states_words (erased_states x) k) k
states_on (StateList names) i j k s = names_written.writes names i j k s
states_on (StateAll asterisk except) i j k s =
    (both_written (mark_written mark.Asterisk) (in_parentheses_written name_written)).writes (asterisk, except) i j k s

states_written : Writes erased_states SpellsStates states_words
states_written = record { writes = states_on }

-- `endstate` without a name
end_state_name_written : (states : States) (k : Words) → SpellsEndStateName states k k
end_state_name_written (StateList names) k = inl refl
end_state_name_written (StateAll asterisk except) k = refl

end_connection_written : (label : Spot) (k : Words) → SpellsEndConnection label (fixed mark.EndConnection ∷ end_words k) k
end_connection_written label k = inr (plain, _, end_words k, refl, inl refl, end_written k)

body_part_on : (depth : ℕ) → (x : BodyPart) (i j k : Words) → SpellsBodyPart depth x i j → SpellsBodyPart depth (erased_body_part x) (body_part_words (erased_body_part x) k) k
body_part_on depth (StatePart states stimuli) i j k s =
    let end = fixed mark.EndState ∷ end_words k in
    let rest = repeated stimulus_words (map erased_stimulus stimuli) end in
    let both = s.3.1 in (
      plain,
      _,
      refl,
      (
        end,
        (
          rest,
          (ended_written states_written).writes states s.1 both.0 rest both.1,
          (stimuli_written depth) stimuli both.0 s.3.0 (end_words k) both.2,
        ),
        inr (plain, _, end_words k, refl, end_state_name_written (erased_states states) (end_words k), end_written k),
      ),
    )
body_part_on depth (FreeAction w label transition) i j k s =
    (both_written (mark_written mark.Connection)
    (followed_written (both_written (before_written name_written mark.Colon) (transition_written depth)) (SpellsEndConnection label)
    (λ j. fixed mark.EndConnection ∷ end_words j) (end_connection_written label))).writes
    (w, (label, transition)) i j k s

pub body_part_written : (depth : ℕ) → Writes erased_body_part (SpellsBodyPart depth) body_part_words
body_part_written depth = record { writes = body_part_on depth }
