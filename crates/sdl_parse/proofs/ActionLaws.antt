-- The laws of actions but decisions and `set`.
use Rattle.sdl_parse.proofs.Words.{As, SpellsAction, Anywhere, Destination, Law, None, Option, Optional, Some, SpellsApplied, SpellsAssignment, SpellsDestination, Stops, Words, args_law, behind_law, both_law, enclosed_law, end_other, ended_law, erased_action, erased_applied, erased_assignment, erased_destination, expr_law, false, loosest, made_law, mark_law, maybe_mark, name_law, option_map, optional_law, record_law, refl, same_mark, sees, sees_last, sees_other, separated_law, stops_at, stops_end, stops_last, stops_law, subst, suc, sym, then_law, ℕ, ◌≡◌}
use Rattle.sdl_tree.specs.declared.mark.Mark.TheVariants as mark
use Rattle.sdl_parse.specs.Actions.{assignment_with, assignment, task_with, task, applied_with, applied, destination_with, destination, output_with, output, create_with, create, keys, reset_with, reset}

-- ---- task

assignment_law : (d : ℕ) → Law (assignment d) (SpellsAssignment d) (SpellsAssignment (suc d)) (Stops loosest) erased_assignment
unfolding assignment
assignment_law d = record_law assignment_with (λ y. (y.variable, y.value)) (λ x. refl) (λ x. refl) (λ y. refl)
    (then_law name_law (behind_law mark.Assign (expr_law d)))

pub task_law : (d : ℕ) → Law (task d) (As (SpellsAction d) task_with) (As (SpellsAction (suc d)) task_with) Anywhere erased_action
unfolding task same_mark
task_law d = made_law task_with (λ x. refl)
    (then_law (mark_law mark.Task)
    (ended_law (separated_law (assignment_law d) (stops_at mark.Comma refl loosest) (stops_last loosest))
    (λ i j s. (stops_end loosest i j s, end_other mark.Comma refl refl i j s))))

-- ---- NAME [args]

pub applied_law : (d : ℕ) → Law (applied d) (SpellsApplied d) (SpellsApplied (suc d)) (λ j. sees mark.Open j ≡ false) erased_applied
unfolding applied
applied_law d =
    record_law applied_with (λ y. (y.name, y.values)) (λ x. refl) (λ x. refl) (λ y. refl) (then_law name_law (args_law d))

-- ---- output

destination_law : (d : ℕ) → Law (destination d) (Optional (SpellsDestination d)) (Optional (SpellsDestination (suc d))) (λ j. Stops loosest j × (sees mark.To j ≡ false)) (option_map erased_destination)
unfolding destination
destination_law d = optional_law (maybe_mark mark.To
    (record_law destination_with (λ y. (y.word, y.value)) (λ x. refl) (λ x. refl) (λ y. refl) (then_law (mark_law mark.To) (expr_law d)))
    (λ x i j s. (x.word, s.0, s.1)))

-- where a list of signals ends
abbrev Sent : Words → Type 0
Sent j = (sees mark.Open j ≡ false) × (sees mark.Comma j ≡ false)

sent_before : (d : ℕ) (y : Option Destination) (m j : Words) → Optional (SpellsDestination d) y m j → Sent j → Sent m
unfolding same_mark
sent_before d None m j s t = subst Sent (sym s) t
sent_before d (Some y) m j s t = subst Sent (sym s.1) (sees_other mark.Open mark.To refl y.word s.0, sees_other mark.Comma mark.To refl y.word s.0)

pub output_law : (d : ℕ) → Law (output d) (As (SpellsAction d) output_with) (As (SpellsAction (suc d)) output_with) Anywhere erased_action
unfolding output same_mark
output_law d = made_law output_with (λ x. refl)
    (then_law (mark_law mark.Output)
    (ended_law
    (both_law (separated_law (applied_law d) (sees_other mark.Open mark.Comma refl) (sees_last mark.Open))
    (stops_law {T = λ j. (Stops loosest j × (sees mark.To j ≡ false)) × Sent j} (λ j t. t.0) (destination_law d)) (λ y m j s t. sent_before d y m j s t.1))
    (λ i j s. ((stops_end loosest i j s, end_other mark.To refl refl i j s), (end_other mark.Open refl refl i j s, end_other mark.Comma refl refl i j s)))))

-- ---- create

pub create_law : (d : ℕ) → Law (create d) (As (SpellsAction d) create_with) (As (SpellsAction (suc d)) create_with) Anywhere erased_action
unfolding create same_mark
create_law d = made_law create_with (λ x. refl)
    (then_law (mark_law mark.Create) (ended_law (applied_law d) (end_other mark.Open refl refl)))

-- ---- reset

pub reset_law : (d : ℕ) → Law (reset d) (As (SpellsAction d) reset_with) (As (SpellsAction (suc d)) reset_with) Anywhere erased_action
unfolding reset keys same_mark
reset_law d = made_law reset_with (λ x. refl)
    (then_law (mark_law mark.Reset)
    (ended_law
    (separated_law
    (enclosed_law (applied_law d) (sees_other mark.Open mark.Comma refl) (sees_other mark.Open mark.Close refl) (sees_last mark.Open))
    (λ s m. tt) tt)
    (λ i j s. (tt, end_other mark.Comma refl refl i j s))))
