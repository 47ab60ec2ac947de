-- The laws of processes.
use Rattle.sdl_parse.proofs.Words.{Anywhere, BodyPart, Both, Choice, Counts, Ended, Expr, Fixed, Followed, Form, FormalParameters, Law, List, LocalDefinition, LocalSignalList, LocalSignalSet, LocalSignals, LocalSynonyms, Made, Option, Optional, Or, Repeated, SpellsBodyPart, SpellsBound, SpellsClosing, SpellsCounts, SpellsDcl, SpellsExpr, SpellsFpar, SpellsInner, SpellsPdef, SpellsProcess, SpellsSignal, SpellsSignalList, SpellsSignalSet, SpellsStart, SpellsSynonym, Spot, Start, Stops, Timers, Variables, Words, ap, as_choice, before_law, begins_unseen, behind_law, both_law, closed_list_law, closing_begins, either_as, end_other, ended_law, erased_body_part, erased_bound, erased_counts, erased_expr, erased_fpar, erased_local, erased_process, erased_start, expr_law, false, front, inl, inr, level_begins, loosest, made_as, made_law, map, mark_law, maybe_choice, maybe_law, maybe_mark, name_law, one_choice, option_map, optional_law, or_choice, record_law, refl, repeated_law, same_mark, sees, sees_one, signal_law, signal_list_law, signal_set_law, stops_at, subst, suc, sym, then_law, tied_law, true, unary_mark, value_mark, ℕ, ◌∷◌, ◌≡◌, optional_at, repeated_at}
use Rattle.sdl_tree.specs.declared.expressions.KeywordValue.TheVariants as value
use Rattle.sdl_tree.specs.declared.expressions.UnaryOperator.TheVariants as unary
use Rattle.sdl_tree.specs.declared.mark.Mark.TheVariants as mark
use Rattle.sdl_tree.specs.Spells.{SpellsTimer}
use Rattle.sdl_tree.specs.Spells.Expressions.{SpellsTimer as SpellsKeys}
use Rattle.sdl_parse.specs.Processes.{begins_expression_by, begins_expression, count, bound_with, bound, counts_with, counts, local_marks, some_local, local_definition, inside, process_with, process}
use Rattle.sdl_parse.proofs.StateLaws.{body_part_law, part_at, part_last, part_ends}
use Rattle.sdl_parse.proofs.StepLaws.{NoStatement}
use Rattle.sdl_parse.proofs.StimulusLaws.{start_law}
use Rattle.sdl_parse.proofs.DeclarationLaws.{synonym_law, some_fpar_law, dcl_law, timer_law}

-- ---- [expr]

-- what spells an expression begins one
expression_begins : (d : ℕ) (e : Expr) (i j : Words) → SpellsExpr d e i j → begins_expression i ≡ true
unfolding begins_expression front
expression_begins d = level_begins (λ i. begins_expression i ≡ true) (λ x k. refl) (λ n k. refl)
    (λ v s k. elim v as (λ u. begins_expression (Fixed (value_mark u) s ∷ k) ≡ true) [ value.True ↦ refl | _ ↦ refl ]) (λ s k. refl) (λ s k. refl) (SpellsInner d) (SpellsKeys d)
    (λ o s k. elim o as (λ u. begins_expression (Fixed (unary_mark u) s ∷ k) ≡ true) [ unary.Minus ↦ refl | _ ↦ refl ]) loosest

-- where a count stops, and none begins
abbrev BehindCount : Words → Type 0
BehindCount j = Stops loosest j × (begins_expression j ≡ false)

count_law : (d : ℕ) → Law (count d) (Optional (SpellsExpr d)) (Optional (SpellsExpr (suc d))) BehindCount (option_map erased_expr)
unfolding begins_expression front
count_law d = optional_law (maybe_law begins_expression (λ i k same. ap begins_expression_by same) (expr_law d).rules refl (expression_begins d))

-- ---- counts

bound_law : (d : ℕ) → Law (bound d) (Optional (SpellsBound d)) (Optional (SpellsBound (suc d))) (λ j. BehindCount j × (sees mark.Comma j ≡ false)) (option_map erased_bound)
bound_law d = optional_law (maybe_mark mark.Comma
    (record_law bound_with (λ b. b.maximum) (λ x. refl) (λ x. refl) (λ b. refl) (behind_law mark.Comma (count_law d))) (λ b i j s. (s.0, s.1, s.2)))

counts_law : (d : ℕ) → Law (counts d) (Optional (SpellsCounts d)) (Optional (SpellsCounts (suc d))) (λ j. Anywhere j × (sees mark.Open j ≡ false)) (option_map erased_counts)
unfolding begins_expression sees front same_mark
counts_law d = optional_law (maybe_mark mark.Open
    (record_law counts_with (λ c. (c.parenthesis, (c.initial, c.bound))) (λ x. refl) (λ x. refl) (λ c. refl)
    (then_law (mark_law mark.Open)
    (before_law mark.Close
    (both_law (count_law d) (bound_law d)
    (λ y m j s t.
    optional_at (SpellsBound d) BehindCount
    (λ b i k r. subst BehindCount (sym r.2) (stops_at mark.Comma refl loosest r.0 r.1, refl)) y m j s t.0))
    (λ s j. ((stops_at mark.Close refl loosest s j, refl), refl)))))
    (λ c i j s. (c.parenthesis, s.0, s.1)))

-- ---- what a process defines for itself

abbrev IsLocal : ℕ → Form LocalDefinition
IsLocal d = Or (Made LocalSignals SpellsSignal) (Or (Made LocalSignalList SpellsSignalList) (Or (Made LocalSynonyms (SpellsSynonym d))
    (Or (Made LocalSignalSet SpellsSignalSet) (Or (Made Variables (SpellsDcl d)) (Made Timers (SpellsTimer d))))))

local_to : (d : ℕ) (x : LocalDefinition) (i j : Words) → IsLocal d x i j → SpellsPdef d x i j
local_to d =
    either_as (made_as (SpellsPdef d) LocalSignals) (either_as (made_as (SpellsPdef d) LocalSignalList) (either_as (made_as (SpellsPdef d) LocalSynonyms)
    (either_as (made_as (SpellsPdef d) LocalSignalSet) (either_as (made_as (SpellsPdef d) Variables) (made_as (SpellsPdef d) Timers)))))

local_from : (d : ℕ) (x : LocalDefinition) (i j : Words) → SpellsPdef d x i j → IsLocal d x i j
local_from d (LocalSignals x) i j s = inl (x, refl, s)
local_from d (LocalSignalList x) i j s = inr (inl (x, refl, s))
local_from d (LocalSynonyms x) i j s = inr (inr (inl (x, refl, s)))
local_from d (LocalSignalSet x) i j s = inr (inr (inr (inl (x, refl, s))))
local_from d (Variables x) i j s = inr (inr (inr (inr (inl (x, refl, s)))))
local_from d (Timers x) i j s = inr (inr (inr (inr (inr (x, refl, s)))))

local_choice : (d : ℕ) → Choice (some_local d) (SpellsPdef d) (SpellsPdef (suc d)) Anywhere local_marks erased_local
unfolding same_mark
local_choice d = as_choice (local_to d) (local_from d) (local_to (suc d))
    (or_choice mark.Signal _ refl (made_law LocalSignals (λ x. refl) signal_law) (λ x i j s. (s.2.0, s.2.1, s.2.2))
    (or_choice mark.SignalList _ refl (made_law LocalSignalList (λ x. refl) signal_list_law) (λ x i j s. (s.0.word, s.2.0, s.2.1))
    (or_choice mark.Synonym _ refl (made_law LocalSynonyms (λ x. refl) (synonym_law d)) (λ x i j s. (s.0.word, s.2.0, s.2.1))
    (or_choice mark.SignalSet _ refl (made_law LocalSignalSet (λ x. refl) signal_set_law) (λ x i j s. (s.0.word, s.2.0, s.2.1))
    (or_choice mark.Dcl _ refl (made_law Variables (λ x. refl) (dcl_law d)) (λ x i j s. (s.2.0, s.2.1, s.2.2))
    (one_choice mark.Timer (made_law Timers (λ x. refl) (timer_law d)) (λ x i j s. (s.0.word, s.2.0, s.2.1))))))))

-- ---- processes

abbrev SpellsInside : ℕ → Spot → Form (Option Counts × (Option FormalParameters × (List LocalDefinition × (Start × List BodyPart))))
SpellsInside d x = Both (Ended (Optional (SpellsCounts d)))
    (Both (Optional SpellsFpar) (Both (Repeated (SpellsPdef d)) (Both (SpellsStart d) (Followed (Repeated (SpellsBodyPart d)) (SpellsClosing mark.EndProcess x.text)))))

pub process_law : (d : ℕ) → Law (process d) (SpellsProcess d) (SpellsProcess (suc d)) Anywhere erased_process
unfolding process local_definition sees front same_mark
process_law d =
    record_law process_with (λ p. (p.word, (p.name, (p.counts, (p.parameters, (p.definitions, (p.start, p.body)))))))
    (λ x. refl) (λ x. refl) (λ p. refl)
    (then_law (mark_law mark.Process)
    (tied_law name_law inside_law (λ x y m j s t. tt) (λ x y e z i j s. let R : Spot → Type 0 = λ w. SpellsInside d w z i j in subst R e s)))
  where
    -- what stands behind a start
    body_stops : (x : Spot) (y : List BodyPart) (m j : Words) → Followed (Repeated (SpellsBodyPart d)) (SpellsClosing mark.EndProcess x.text) y m j → NoStatement m
    body_stops x y m j s =
        repeated_at (SpellsBodyPart d) NoStatement (λ p i k t. (part_at i ((body_part_law d).starts p i k t)).1.0) y m s.0 s.1
        (closing_begins NoStatement mark.EndProcess (λ w k. (part_ends w k).0.1.0) x.text s.0 j s.2)

    -- behind formal parameters no others stand
    no_fpar : (ys : List LocalDefinition) (start : Start) (m k l : Words) → Repeated (SpellsPdef d) ys m k → SpellsStart d start k l → sees mark.Fpar m ≡ false
    no_fpar ys start m k l s t =
        repeated_at (SpellsPdef d) (λ i. sees mark.Fpar i ≡ false) (λ x i j r. begins_unseen mark.Fpar local_marks i refl ((local_choice d).begins x i j r)) ys m k s
        (ap (sees mark.Fpar) t.1.1)

    inside_law : (x : Spot) → Law (inside d x) (SpellsInside d x) (SpellsInside (suc d) x) Anywhere
        (λ y. (option_map erased_counts y.0, (option_map erased_fpar y.1.0, (map erased_local y.1.1.0, (erased_start y.1.1.1.0, map erased_body_part y.1.1.1.1)))))
    inside_law x = then_law (ended_law (counts_law d) (λ i j s. (tt, end_other mark.Open refl refl i j s)))
        (both_law some_fpar_law
        (both_law (repeated_law (maybe_choice local_marks (local_choice d)) (λ i t. tt) tt)
        (both_law (start_law d)
        (closed_list_law mark.EndProcess (body_part_law d) part_at part_last part_ends x.text)
        (λ y m j s t. body_stops x y m j s))
        (λ y m j s t. (tt, ap (sees_one local_marks) s.1.1.1)))
        (λ y m j s t. (tt, no_fpar y.0 y.1.0 m s.0 s.2.0 s.1 s.2.1)))
