-- The laws of labels and terminators.
use Rattle.sdl_parse.proofs.Words.{Anywhere, Both, Choice, Ended, Fixed, Form, IsMark, Join, Law, Made, Mark, Next, NextState, Or, Same, SpellsLabel, SpellsName, SpellsNextState, SpellsTerminator, Spot, Stop, Terminator, To, Words, ap, as_choice, as_law, before_law, either_as, either_law, ended_law, erased_name, erased_next_state, erased_terminator, false, front, inl, inr, join, join_with, label, made_as, made_law, mark_law, maybe_law, name_begins, name_front, name_last, name_law, next, next_state, next_with, one_choice, option_map, optional_law, or_choice, refl, same_mark, sees, sees_at, sees_front, sees_name, stop, terminator, terminator_marks, then_law, ◌∷◌, ◌≡◌, ◌⊎◌}
use Rattle.sdl_tree.specs.declared.mark.Mark.TheVariants as mark
use Rattle.sdl_tree.specs.Words as word

-- ---- [NAME ":"]

-- where no name stands next
pub label_law : Law label SpellsLabel SpellsLabel (λ j. Unit {0} × (sees_name j ≡ false)) (option_map erased_name)
unfolding label
label_law =
    optional_law (maybe_law sees_name name_front (before_law mark.Colon name_law (λ s j. tt)).rules name_last (λ x i j s. name_begins x i (Fixed mark.Colon s.0 ∷ j) s.1))

-- ---- terminators

pub name_no_mark : (m : Mark) (x : Spot) (i j : Words) → i ≡ word.Name x ∷ j → sees m i ≡ false
unfolding sees front
name_no_mark m x i j e = ap (sees m) e

next_state_law : Law next_state SpellsNextState SpellsNextState Anywhere erased_next_state
unfolding next_state
next_state_law =
    as_law (either_as (made_as SpellsNextState Same) (made_as SpellsNextState To)) from (either_as (made_as SpellsNextState Same) (made_as SpellsNextState To))
    (either_law (sees mark.Minus) (sees_front mark.Minus) (made_law Same (λ x. refl) (mark_law mark.Minus)) (made_law To (λ x. refl) name_law)
    (λ x i j s. sees_at mark.Minus s.0 i j s.2) (λ x i j s t. name_no_mark mark.Minus s.0 i j s.2))
  where
    from : (x : NextState) (i j : Words) → SpellsNextState x i j → Made Same (IsMark mark.Minus) x i j ⊎ Made To SpellsName x i j
    from (Same w) i j s = inl (w, refl, s)
    from (To x) i j s = inr (x, refl, s)

abbrev IsTerminator : Form Terminator
IsTerminator = Or (Made next_with (Both (IsMark mark.NextState) (Ended SpellsNextState)))
    (Or (Made Stop (Ended (IsMark mark.Stop))) (Made join_with (Both (IsMark mark.Join) (Ended SpellsName))))

terminator_to : (x : Terminator) (i j : Words) → IsTerminator x i j → SpellsTerminator x i j
terminator_to = either_as (made_as SpellsTerminator next_with) (either_as (made_as SpellsTerminator Stop) (made_as SpellsTerminator join_with))

terminator_from : (x : Terminator) (i j : Words) → SpellsTerminator x i j → IsTerminator x i j
terminator_from (Next w state) i j s = inl ((w, state), refl, s)
terminator_from (Stop w) i j s = inr (inl (w, refl, s))
terminator_from (Join w label) i j s = inr (inr ((w, label), refl, s))

pub terminator_choice : Choice terminator SpellsTerminator SpellsTerminator Anywhere terminator_marks erased_terminator
unfolding terminator next stop join same_mark
terminator_choice = as_choice terminator_to terminator_from terminator_to
    (or_choice mark.NextState _ refl (made_law next_with (λ x. refl) (then_law (mark_law mark.NextState) (ended_law next_state_law (λ i j s. tt))))
    (λ x i j s. (s.0.0, s.2.0, s.2.1))
    (or_choice mark.Stop _ refl (made_law Stop (λ x. refl) (ended_law (mark_law mark.Stop) (λ i j s. tt))) (λ x i j s. let b = s.2 in (s.0, b.0, b.1))
    (one_choice mark.Join (made_law join_with (λ x. refl) (then_law (mark_law mark.Join) (ended_law name_law (λ i j s. tt)))) (λ x i j s. (s.0.0, s.2.0, s.2.1)))))
