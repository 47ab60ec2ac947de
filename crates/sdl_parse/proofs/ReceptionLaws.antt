-- The laws of a stimulus and of a list of them. A stimulus is read where no condition and no priority stands behind it:
-- behind one that has no transition they may not stand in the grammar either, since they would be its own; behind others
-- they may.
use Rattle.sdl_parse.proofs.Words.{AndAction, Anywhere, As, Barred, Both, Choice, Complete, ContinuousSignal, Ended, Fixed, Form, Input, InputPart, IsMark, Law, Made, Mark, MaybeLaw, NoAction, None, Option, Or, PriorityHead, PriorityInput, Repeated, SavePart, Some, SpellsCondition, SpellsEnd, SpellsExpr, SpellsIns, SpellsLabel, SpellsPriority, SpellsStimulus, SpellsTrans, Spot, Steps, Stimulus, Transition, Wherever, Words, [], action_marks, and_then, ap, as_choice, begins_action, begins_statement, begins_terminator, begins_unseen, behind_law, bind_is, both_law, end_other, ended_law, erased_input, erased_stimulus, erased_transition, erased_word, expr_law, false, front, has_mark, if_true, inl, inr, loosest, made, made_as, made_complete, made_law, map, mark_law, maybe_choice, none_as, one_choice, or_choice, read_as, refl, repeated, repeated_open_law, same_law, same_mark, seen_begins, sees, sees_name, some_as, steps_if, steps_in, stops_end, stops_law, suc, sym, terminator_marks, then_complete, then_law, trans, ℕ, ◌∙◌, ◌∷◌, ◌≡◌, ◌⊗◌}
use Rattle.sdl_tree.specs.declared.mark.Mark.TheVariants as mark
use Rattle.sdl_parse.specs.Stimuli.{input_part_with, input_part, priority_head, priority_input_with, priority_input, save_with, continuous_with, continuous_signal, one_stimulus, begins_stimulus, stimulus, save_part, stimulus_marks}
use Rattle.sdl_parse.proofs.EndingLaws.{name_no_mark, terminator_choice}
use Rattle.sdl_parse.proofs.StepLaws.{NoStatement, no_statement}
use Rattle.sdl_parse.proofs.StimulusLaws.{ins_law, inputs_law, save_law, condition_law, priority_law}
use Rattle.sdl_parse.proofs.TransitionLaws.{trans_law, action_choice}
use Rattle.sdl_parse.proofs.UnlessLaws.{Free, free, free_complete, free_law, wherever_law, wherever_read}

-- ---- a transition begins with no mark that begins none of its statements

module _ (m : Mark) (no_action : has_mark m action_marks ≡ false) (no_terminator : has_mark m terminator_marks ≡ false) where
  labelled_apart : (l : Option Spot) (i k : Words) → SpellsLabel l i k → sees m k ≡ false → sees m i ≡ false
  labelled_apart None i k s e = ap (sees m) s ∙ e
  labelled_apart (Some x) i k s e = name_no_mark m x i (Fixed mark.Colon s.0 ∷ k) s.1

  trans_apart : (d : ℕ) (x : Transition) (i j : Words) → SpellsTrans d x i j → sees m j ≡ false → sees m i ≡ false
  trans_apart d (Steps NoAction None) i j s e = ap (sees m) (s.1 ∙ s.2) ∙ e
  trans_apart d (Steps NoAction (Some last)) i j s e =
      let b = s.2 in
      ap (sees m) s.1
      ∙ labelled_apart last.label s.0 b.0 b.1 (begins_unseen m terminator_marks b.0 no_terminator (terminator_choice.begins last.terminator b.0 j b.2))
  trans_apart d (Steps (AndAction l a actions) last) i j s e =
      let c = s.1 in let b = c.1 in labelled_apart l i b.0 b.1 (begins_unseen m action_marks b.0 no_action ((action_choice d).begins a b.0 c.0 b.2))

-- where any stimulus stops
abbrev pub Alone : Words → Type 0
Alone j = NoStatement j × (sees mark.Provided j ≡ false) × (sees mark.Priority j ≡ false)

-- ---- the four stimuli

inputs_end : (i j : Words) → SpellsEnd i j → (sees mark.Open i ≡ false) × (sees mark.Comma i ≡ false)
unfolding same_mark
inputs_end i j s = (end_other mark.Open refl refl i j s, end_other mark.Comma refl refl i j s)

head_law : Law priority_head PriorityHead PriorityHead Anywhere (λ h. (erased_word h.0, map erased_input h.1))
head_law = then_law (mark_law mark.Priority) (behind_law mark.Input (ended_law inputs_law inputs_end))

abbrev IsInput : ℕ → Form Stimulus
IsInput d = Made input_part_with (Both (IsMark mark.Input) (Both (Ended SpellsIns) (Both (Wherever mark.Provided (SpellsCondition d)) (SpellsTrans d))))

abbrev IsPriority : ℕ → Form Stimulus
IsPriority d = Made priority_input_with (Both (Free Barred mark.Provided head_law) (SpellsTrans d))

abbrev IsContinuous : ℕ → Form Stimulus
IsContinuous d = Made continuous_with (Both (IsMark mark.Provided) (Both (Ended (SpellsExpr d)) (Both (Wherever mark.Priority SpellsPriority) (SpellsTrans d))))

alone_trans : (d : ℕ) → Law (trans d) (SpellsTrans d) (SpellsTrans (suc d)) Alone erased_transition
alone_trans d = stops_law (λ j t. t.0) (trans_law d)

input_law : (d : ℕ) → Law (input_part d) (IsInput d) (IsInput (suc d)) Alone erased_stimulus
unfolding input_part same_mark
input_law d = made_law input_part_with (λ x. refl)
    (then_law (mark_law mark.Input)
    (then_law (ended_law ins_law inputs_end)
    (both_law (wherever_law mark.Provided (condition_law d)) (alone_trans d) (λ y m j s t. (tt, trans_apart mark.Provided refl refl d y m j s t.1)))))

priority_same : (d : ℕ) (i : Words) → made priority_input_with (free Barred mark.Provided head_law ⊗ trans d) i ≡ priority_input d i
unfolding priority_input
priority_same d i = simp (steps_in, steps_if)

-- a `provided` behind a head is told as barred
priority_input_law : (d : ℕ) → Law (priority_input d) (IsPriority d) (IsPriority (suc d)) Alone erased_stimulus
unfolding same_mark
priority_input_law d = same_law (priority_same d)
    (made_law priority_input_with (λ x. refl)
    (both_law (free_law Barred mark.Provided head_law (λ i h k r b. ((r.taken, r.at), ([], i, refl, h, r.spelled, b)))) (alone_trans d)
    (λ y m j s t. trans_apart mark.Provided refl refl d y m j s t.1)))

continuous_law : (d : ℕ) → Law (continuous_signal d) (IsContinuous d) (IsContinuous (suc d)) Alone erased_stimulus
unfolding continuous_signal same_mark
continuous_law d = made_law continuous_with (λ x. refl)
    (then_law (mark_law mark.Provided)
    (then_law (ended_law (expr_law d) (stops_end loosest))
    (both_law (wherever_law mark.Priority priority_law) (alone_trans d) (λ y m j s t. (tt, trans_apart mark.Priority refl refl d y m j s t.2)))))

-- ---- one of them

abbrev IsStimulus : ℕ → Form Stimulus
IsStimulus d = Or (IsInput d) (Or (IsPriority d) (Or (As (SpellsStimulus d) save_with) (IsContinuous d)))

stimulus_to : (d : ℕ) (x : Stimulus) (i j : Words) → IsStimulus d x i j → SpellsStimulus d x i j
stimulus_to d x i j (inl s) = made_as (SpellsStimulus d) input_part_with x i j s
stimulus_to d x i j (inr (inl (z, e, (m, h, t)))) = let b = h.0 in rw e (b.0, b.1, (b.2.0, b.2.1, b.2.2, (m, b.2.3, (h.1, t))))
stimulus_to d x i j (inr (inr (inl s))) = made_as (SpellsStimulus d) save_with x i j s
stimulus_to d x i j (inr (inr (inr s))) = made_as (SpellsStimulus d) continuous_with x i j s

stimulus_from : (d : ℕ) (x : Stimulus) (i j : Words) → SpellsStimulus d x i j → IsStimulus d x i j
stimulus_from d (InputPart w inputs c t) i j s = inl ((w, (inputs, (c, t))), refl, s)
stimulus_from d (PriorityInput w inputs t) i j s =
    let b = s.2.3 in inr (inl (((w, inputs), t), refl, (b.0, ((s.0, s.1, (s.2.0, s.2.1, s.2.2, b.1)), b.2.0), b.2.1)))
stimulus_from d (SavePart w items) i j s = inr (inr (inl ((w, items), refl, s)))
stimulus_from d (ContinuousSignal w c n t) i j s = inr (inr (inr ((w, (c, (n, t))), refl, s)))

stimulus_choice : (d : ℕ) → Choice (one_stimulus d) (SpellsStimulus d) (SpellsStimulus (suc d)) Alone stimulus_marks erased_stimulus
unfolding one_stimulus same_mark
stimulus_choice d = as_choice (stimulus_to d) (stimulus_from d) (stimulus_to (suc d))
    (or_choice mark.Input _ refl (input_law d) (λ x i j s. let b = s.2 in (s.0.0, b.0, b.1))
    (or_choice mark.Priority _ refl (priority_input_law d) (λ x i j s. let h = s.2.1.0 in (s.0.0.0, h.0, h.1))
    (or_choice mark.Save _ refl (stops_law (λ j t. tt) (save_law d)) (λ x i j s. let b = s.2 in (s.0.0, b.0, b.1))
    (one_choice mark.Provided (continuous_law d) (λ x i j s. let b = s.2 in (s.0.0, b.0, b.1))))))

pub alone_last : Alone []
unfolding begins_statement begins_action begins_terminator sees_name sees front
alone_last = (refl, refl, refl)

stimulus_law : (d : ℕ) → MaybeLaw (stimulus d) (SpellsStimulus d) (SpellsStimulus (suc d)) Alone begins_stimulus erased_stimulus
unfolding stimulus begins_stimulus
stimulus_law d = maybe_choice stimulus_marks (stimulus_choice d)

-- ---- each stimulus is read where no statement stands behind it

input_complete : (d : ℕ) → Complete (input_part d) (IsInput d) NoStatement
unfolding input_part
input_complete d = made_complete input_part_with
    (then_complete (mark_law mark.Input).rules.complete
    (then_complete (ended_law ins_law inputs_end).rules.complete
    (then_complete (wherever_read mark.Provided (condition_law d)) (trans_law d).rules.complete)))

priority_complete : (d : ℕ) → Complete (priority_input d) (IsPriority d) NoStatement
priority_complete d x i j s n = sym (priority_same d i)
    ∙ made_complete priority_input_with (then_complete (free_complete Barred mark.Provided head_law) (trans_law d).rules.complete) x i j s n

continuous_complete : (d : ℕ) → Complete (continuous_signal d) (IsContinuous d) NoStatement
unfolding continuous_signal
continuous_complete d = made_complete continuous_with
    (then_complete (mark_law mark.Provided).rules.complete
    (then_complete (ended_law (expr_law d) (stops_end loosest)).rules.complete
    (then_complete (wherever_read mark.Priority priority_law) (trans_law d).rules.complete)))

one_complete : (d : ℕ) (x : Stimulus) (i j : Words) → IsStimulus d x i j → NoStatement j → one_stimulus d i ≡ read_as x j
unfolding one_stimulus sees front same_mark
one_complete d x i j (inl s) n = let e = s.2.1 in ap (one_stimulus d) e ∙ ap (input_part d) (sym e) ∙ input_complete d x i j s n
one_complete d x i j (inr (inl s)) n = let e = s.2.1.0.1 in ap (one_stimulus d) e ∙ ap (priority_input d) (sym e) ∙ priority_complete d x i j s n
one_complete d x i j (inr (inr (inl s))) n = let e = s.2.1 in ap (one_stimulus d) e ∙ ap save_part (sym e) ∙ (save_law d).rules.complete x i j s tt
one_complete d x i j (inr (inr (inr s))) n = let e = s.2.1 in ap (one_stimulus d) e ∙ ap (continuous_signal d) (sym e) ∙ continuous_complete d x i j s n

stimulus_read : (d : ℕ) (x : Stimulus) (i j : Words) → SpellsStimulus d x i j → NoStatement j → stimulus d i ≡ some_as x j
unfolding stimulus
stimulus_read d x i j s n =
    if_true (begins_stimulus i) (and_then (one_stimulus d i) (λ y k. some_as y k)) (none_as i) ((stimulus_law d).starts x i j s)
    ∙ bind_is (one_stimulus d i) (λ y k. some_as y k) x j (one_complete d x i j (stimulus_from d x i j s) n)

-- {stimulus}: where a stimulus begins no statement does
pub stimuli_law : (d : ℕ) → Law (repeated (stimulus d)) (Repeated (SpellsStimulus d)) (Repeated (SpellsStimulus (suc d))) (λ j. Alone j × (begins_stimulus j ≡ false)) (map erased_stimulus)
unfolding begins_stimulus same_mark
stimuli_law d =
    repeated_open_law (stimulus_law d) (stimulus_read d) (λ i e. no_statement stimulus_marks i refl refl (seen_begins stimulus_marks i e)) (λ j t. t.0) alone_last
