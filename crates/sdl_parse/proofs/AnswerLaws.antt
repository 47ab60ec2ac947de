-- The law of answers.
use Rattle.sdl_parse.proofs.Words.{Answer, Behind, Both, Compared, Expr, Fixed, IsMarked, Law, Made, None, Option, Optional, Range, Some, SpellsAnswer, SpellsExpr, SpellsInner, SpellsTimer, Stops, Value, Words, ap, as_law, behind_law, both_law, either_law, erased_answer, erased_expr, expr_law, false, front, inl, inr, is_some, level_begins, looseness, loosest, made_law, mark_at, marked_law, maybe_mark, operator_at, operator_at_again, operator_at_ok, operator_front, operator_mark, option_map, optional_law, refl, sees, sees_operator, stops_at, stops_law, suc, then_law, unary_mark, value_mark, ℕ, ◌∙◌, ◌∷◌, ◌≡◌, ◌⊎◌}
use Rattle.sdl_tree.specs.declared.expressions.KeywordValue.TheVariants as value
use Rattle.sdl_tree.specs.declared.expressions.UnaryOperator.TheVariants as unary
use Rattle.sdl_tree.specs.declared.expressions.Operator.TheVariants as operator
use Rattle.sdl_tree.specs.declared.mark.Mark.TheVariants as mark
use Rattle.sdl_parse.specs.Answers.{range_end, value_or_range, value_answer, compared_with, answer}

-- no expression begins with a comparison
no_comparison : (d : ℕ) (x : Expr) (i j : Words) → SpellsExpr d x i j → sees_operator 4 i ≡ false
unfolding operator_at mark_at front
no_comparison d = level_begins (λ i. sees_operator 4 i ≡ false) (λ x k. refl) (λ n k. refl)
    (λ v s k. elim v as (λ u. sees_operator 4 (Fixed (value_mark u) s ∷ k) ≡ false) [ value.True ↦ refl | _ ↦ refl ]) (λ s k. refl) (λ s k. refl) (SpellsInner d) (SpellsTimer d)
    (λ o s k. elim o as (λ u. sees_operator 4 (Fixed (unary_mark u) s ∷ k) ≡ false) [ unary.Minus ↦ refl | _ ↦ refl ]) loosest

-- ---- expr [":" expr]

-- where an answer stops
abbrev pub Answered : Words → Type 0
Answered j = Stops loosest j × (sees mark.Colon j ≡ false)

stops_before_last : (d : ℕ) (y : Option Expr) (m j : Words) → Optional (Behind mark.Colon (SpellsExpr d)) y m j → Answered j → Stops loosest m
stops_before_last d None m j s t = rw s t.0
stops_before_last d (Some y) m j s t = rw s.2 (stops_at mark.Colon refl loosest s.0 s.1)

abbrev value_with : Expr × Option Expr → Answer
value_with p = value_or_range p.0 p.1

abbrev Valued : ℕ → Answer → Words → Words → Type 0
Valued d = Made value_with (Both (SpellsExpr d) (Optional (Behind mark.Colon (SpellsExpr d))))

-- ---- a comparison

abbrev Compares : ℕ → Answer → Words → Words → Type 0
Compares d = Made compared_with (Both (IsMarked operator_mark (λ o. looseness o ≡ 4)) (SpellsExpr d))

-- ---- answers

answer_to : (d : ℕ) (x : Answer) (i j : Words) → Compares d x i j ⊎ Valued d x i j → SpellsAnswer d x i j
answer_to d x i j (inl (y, e, (m, s, r))) = rw e (s.0, (m, s.1, r))
answer_to d x i j (inr ((y, None), e, (m, s, r))) = rw e (rw r at s)
answer_to d x i j (inr ((y, Some z), e, s)) = rw e s

answer_from : (d : ℕ) (x : Answer) (i j : Words) → SpellsAnswer d x i j → Compares d x i j ⊎ Valued d x i j
answer_from d (Value e) i j s = inr ((e, None), refl, (j, s, refl))
answer_from d (Range e f) i j s = inr ((e, Some f), refl, s)
answer_from d (Compared o w e) i j s = inl (((o, w), e), refl, (s.1.0, (s.0, s.1.1), s.1.2))

pub answer_law : (d : ℕ) → Law (answer d) (SpellsAnswer d) (SpellsAnswer (suc d)) Answered erased_answer
unfolding answer value_answer range_end
answer_law d = as_law (answer_to d) (answer_from d) (answer_to (suc d))
    (either_law (sees_operator 4) (operator_front 4)
    (stops_law (λ j t. t.0)
    (made_law compared_with (λ x. refl)
    (then_law (marked_law (operator_at 4) operator_mark (λ o. looseness o ≡ 4) (λ i o e. (operator_at_ok 4 i o e).1) (λ o s j e. operator_at_again 4 o s j e) operator.Equal refl)
    (expr_law d))))
    (made_law value_with (λ x. elim x.1 as (λ y. erased_answer (value_or_range x.0 y) ≡ value_or_range (erased_expr x.0) (option_map erased_expr y)) [ None ↦ refl | Some y ↦ refl ]) (both_law (expr_law d) (optional_law (maybe_mark mark.Colon (behind_law mark.Colon (expr_law d)) (λ x i j s. (s.0, s.1, s.2)))) (stops_before_last d))) (λ x i j s. ap (sees_operator 4) s.2.1.1 ∙ ap is_some (operator_at_again 4 s.0.0.0 s.0.0.1 s.2.0 s.2.1.0)) (λ x i j s t. no_comparison d s.0.0 i s.2.0 s.2.1))
