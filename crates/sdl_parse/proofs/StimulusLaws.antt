-- The laws of the parts of stimuli, and of the start.
use Rattle.sdl_parse.proofs.Words.{As, SpellsStimulus, Anywhere, InputAll, InputList, Inputs, IsMark, Law, ListItem, Made, MaybeLaw, Optional, SaveAll, SaveList, Saved, Separated, SignalItem, SignalListItem, SpellsCondition, SpellsIn1, SpellsIns, SpellsName, SpellsPriority, SpellsSaved, SpellsSig, SpellsStart, Words, ap, as_law, behind_law, either_as, either_law, enclosed_law, end_other, ended_law, erased_condition, erased_input, erased_inputs, erased_name, erased_number, erased_saved, erased_start, erased_stimulus, expr_law, false, front, inl, inr, loosest, made_as, made_law, map, mark_law, maybe_enclosed, maybe_law, maybe_mark, name_begins, name_front, name_last, name_law, no_name, number_law, option_map, optional_law, record_law, refl, same_mark, sees, sees_at, sees_front, sees_last, sees_name, sees_other, separated, separated_begins, separated_law, sig_law, stops_end, stops_law, suc, then_law, ℕ, ◌≡◌, ◌⊎◌}
use Rattle.sdl_tree.specs.declared.mark.Mark.TheVariants as mark
use Rattle.sdl_parse.specs.States.{start_with, start}
use Rattle.sdl_parse.specs.Stimuli.{variable, input_with, in1, ins, condition_with, condition, saved, save_with, save_part, priority}
use Rattle.sdl_parse.proofs.EndingLaws.{name_no_mark}
use Rattle.sdl_parse.proofs.StepLaws.{NoStatement}
use Rattle.sdl_parse.proofs.TransitionLaws.{trans_law}

-- ---- start

pub start_law : (d : ℕ) → Law (start d) (SpellsStart d) (SpellsStart (suc d)) NoStatement erased_start
unfolding start
start_law d = record_law start_with (λ y. (y.word, y.transition)) (λ x. refl) (λ x. refl) (λ y. refl)
    (then_law (ended_law (mark_law mark.Start) (λ i j s. tt)) (trans_law d))

-- ---- in1

-- where no name stands next
variable_law : Law variable (Optional SpellsName) (Optional SpellsName) (λ j. Unit {0} × (sees_name j ≡ false)) (option_map erased_name)
unfolding variable
variable_law = optional_law (maybe_law sees_name name_front name_law.rules name_last name_begins)

pub in1_law : Law in1 SpellsIn1 SpellsIn1 (λ j. sees mark.Open j ≡ false) erased_input
unfolding in1 variable sees_name front
in1_law = record_law input_with (λ y. (y.signal, y.variables)) (λ x. refl) (λ x. refl) (λ y. refl)
    (then_law name_law
    (maybe_enclosed variable
    (enclosed_law variable_law (λ s m. (tt, no_name mark.Comma s m)) (λ s m. (tt, no_name mark.Close s m)) (tt, name_last))))

-- in1 {"," in1}
pub inputs_law : Law (separated in1) (Separated SpellsIn1) (Separated SpellsIn1) (λ j. (sees mark.Open j ≡ false) × (sees mark.Comma j ≡ false)) (map erased_input)
unfolding same_mark
inputs_law = separated_law in1_law (sees_other mark.Open mark.Comma refl) (sees_last mark.Open)

-- ---- "*", or a list

pub ins_law : Law ins SpellsIns SpellsIns (λ j. (sees mark.Open j ≡ false) × (sees mark.Comma j ≡ false)) erased_inputs
unfolding ins
ins_law =
    as_law (either_as (made_as SpellsIns InputAll) (made_as SpellsIns InputList)) from (either_as (made_as SpellsIns InputAll) (made_as SpellsIns InputList))
    (either_law (sees mark.Asterisk) (sees_front mark.Asterisk) (stops_law (λ j t. tt) (made_law InputAll (λ x. refl) (mark_law mark.Asterisk)))
    (made_law InputList (λ x. refl) inputs_law)
    (λ x i j s. sees_at mark.Asterisk s.0 i j s.2)
    (λ x i j s t. separated_begins SpellsIn1 (λ k. sees mark.Asterisk k ≡ false) (λ y k l r. name_no_mark mark.Asterisk y.signal k r.0 r.1) s.0 i j s.2))
  where
    from : (x : Inputs) (i j : Words) → SpellsIns x i j → Made InputAll (IsMark mark.Asterisk) x i j ⊎ Made InputList (Separated SpellsIn1) x i j
    from (InputAll asterisk) i j s = inl (asterisk, refl, s)
    from (InputList inputs) i j s = inr (inputs, refl, s)

-- ---- save

sig_no_asterisk : (x : SignalListItem) (i j : Words) → SpellsSig x i j → sees mark.Asterisk i ≡ false
unfolding sees front same_mark
sig_no_asterisk (SignalItem x) i j s = ap (sees mark.Asterisk) s
sig_no_asterisk (ListItem x) i j s = ap (sees mark.Asterisk) s.2

saved_law : Law saved SpellsSaved SpellsSaved (λ j. Unit {0} × (sees mark.Comma j ≡ false)) erased_saved
unfolding saved
saved_law =
    as_law (either_as (made_as SpellsSaved SaveAll) (made_as SpellsSaved SaveList)) from (either_as (made_as SpellsSaved SaveAll) (made_as SpellsSaved SaveList))
    (either_law (sees mark.Asterisk) (sees_front mark.Asterisk) (stops_law (λ j t. tt) (made_law SaveAll (λ x. refl) (mark_law mark.Asterisk)))
    (made_law SaveList (λ x. refl) (separated_law sig_law (λ s m. tt) tt))
    (λ x i j s. sees_at mark.Asterisk s.0 i j s.2)
    (λ x i j s t. separated_begins SpellsSig (λ k. sees mark.Asterisk k ≡ false) sig_no_asterisk s.0 i j s.2))
  where
    from : (x : Saved) (i j : Words) → SpellsSaved x i j → Made SaveAll (IsMark mark.Asterisk) x i j ⊎ Made SaveList (Separated SpellsSig) x i j
    from (SaveAll asterisk) i j s = inl (asterisk, refl, s)
    from (SaveList items) i j s = inr (items, refl, s)

pub save_law : (d : ℕ) → Law save_part (As (SpellsStimulus d) save_with) (As (SpellsStimulus (suc d)) save_with) Anywhere erased_stimulus
unfolding save_part same_mark
save_law d = made_law save_with (λ x. refl)
    (then_law (mark_law mark.Save) (ended_law saved_law (λ i j s. (tt, end_other mark.Comma refl refl i j s))))

-- ---- conditions and priorities

pub condition_law : (d : ℕ) → MaybeLaw (condition d) (SpellsCondition d) (SpellsCondition (suc d)) Anywhere (sees mark.Provided) erased_condition
unfolding condition
condition_law d = maybe_mark mark.Provided
    (record_law condition_with (λ y. (y.word, y.condition)) (λ x. refl) (λ x. refl) (λ y. refl)
    (then_law (mark_law mark.Provided) (ended_law (expr_law d) (stops_end loosest))))
    (λ x i j s. (x.word, s.0, s.1))

pub priority_law : MaybeLaw priority SpellsPriority SpellsPriority Anywhere (sees mark.Priority) erased_number
unfolding priority
priority_law = maybe_mark mark.Priority (behind_law mark.Priority (ended_law number_law (λ i j s. tt))) (λ x i j s. (s.0, s.1, s.2))
