-- The laws of actions, decisions and transitions.
use Rattle.sdl_parse.proofs.Words.{As, ◌++◌, Action, AndPart, Anywhere, Before, Begins, Both, Choice, Create, Decision, Else, Ended, Expr, Fixed, Form, IsMark, Law, List, Made, MaybeLaw, Named, Never, NoElse, NoPart, None, Option, Optional, Or, Otherwise, Output, Parser, Part, Parts, Reset, Rules, Set, Some, Spelling, SpellsAction, SpellsDecision, SpellsElse, SpellsInner, SpellsPart, SpellsTimer, SpellsTrans, Task, Transition, Words, [], action, action_marks, action_of, ap, as_choice, as_law, before_law, behind_law, both_law, decision, decision_of, decision_with, either, either_as, either_rules, else_in, else_of, enclosed_law, ended_law, erased_action, erased_answer, erased_expr, erased_otherwise, erased_parts, erased_transition, erased_word, expr_law, false, front, inl, inr, loosest, made_as, made_law, map, mark_law, maybe_mark, nameless, option_map, optional_law, or_choice, or_rules, otherwise, part, part_with, parts_in, parts_of, plain, plain_name, record_law, refl, refuse, refuse_rules, repeated_law, same_mark, same_rules, sees, sees_at, sees_front, sees_last, sees_ok, sees_other, shut_first, shut_rules, stops_at, stops_end, stops_last, suc, sym, then_law, trans, zero, ℕ, ◌∷◌, ◌≡◌}
use Rattle.sdl_tree.specs.declared.mark.Mark.TheVariants as mark
use Rattle.sdl_tree.specs.Words as word
use Rattle.sdl_parse.specs.Actions.{task_with, output_with, reset_with, create_with}
use Rattle.sdl_parse.specs.Clauses.{set_with}
use Rattle.sdl_parse.proofs.ActionLaws.{task_law, output_law, create_law, reset_law}
use Rattle.sdl_parse.proofs.AnswerLaws.{answer_law}
use Rattle.sdl_parse.proofs.ClauseLaws.{set_law}
use Rattle.sdl_parse.proofs.StepLaws.{NoStatement, trans_of_law, no_statement, statement_last}

-- ---- lists in the tree

parts_again : (parts : Parts) → parts_of (parts_in parts) ≡ parts
parts_again NoPart = refl
parts_again (AndPart answers t parts) = ap (AndPart answers t) (parts_again parts)

else_again : (o : Otherwise) → else_of (else_in o) ≡ o
else_again NoElse = refl
else_again (Else t) = refl

abbrev erased_part : Part → Part
erased_part p = record { answers = map erased_answer p.answers; transition = erased_transition p.transition }

-- the list in the tree is the list, and without its places that without its places
parts_are : (parts : List Part) → (parts_in (parts_of parts) ≡ parts) × (erased_parts (parts_of parts) ≡ parts_of (map erased_part parts))
parts_are [] = (refl, refl)
parts_are (p ∷ parts) =
    let more = parts_are parts in (ap (λ ps. p ∷ ps) more.0, ap (AndPart (map erased_answer p.answers) (erased_transition p.transition)) more.1)

else_are : (o : Option Transition) → (else_in (else_of o) ≡ o) × (erased_otherwise (else_of o) ≡ else_of (option_map erased_transition o))
else_are None = (refl, refl)
else_are (Some t) = (refl, refl)

-- ---- a decision, over the law of transitions

abbrev Question : Type 0
Question = Spelling × (Expr × (List Part × Option Transition))

abbrev Decisions : ℕ → Question → Words → Words → Type 0
Decisions d = Both (IsMark mark.Decision) (SpellsDecision d (SpellsTrans d))

-- a decision where so many may stand inside each other
abbrev Decides : ℕ → Action → Words → Words → Type 0
Decides zero x i j = ⊥
Decides (suc d) x i j = Made decision_with (Decisions d) x i j

abbrev erased_question : Question → Question
erased_question x = (erased_word x.0, (erased_expr x.1.0, (map erased_part x.1.1.0, option_map erased_transition x.1.1.1)))

decision_erased : (x : Question) → erased_action (decision_with x) ≡ decision_with (erased_question x)
decision_erased x = λ n. Decision (erased_word x.0) (erased_expr x.1.0) ((parts_are x.1.1.0).1 n) ((else_are x.1.1.1).1 n)

module _ (d : ℕ) (t : Law (trans d) (SpellsTrans d) (SpellsTrans (suc d)) NoStatement erased_transition) where
  part_law : MaybeLaw (part d (trans d)) (SpellsPart d (SpellsTrans d)) (SpellsPart (suc d) (SpellsTrans (suc d))) NoStatement (sees mark.Open) erased_part
  unfolding part same_mark
  part_law = maybe_mark mark.Open
      (record_law part_with (λ y. (y.answers, y.transition)) (λ x. refl) (λ x. refl) (λ y. refl)
      (then_law
      (enclosed_law (answer_law d) (λ s m. (stops_at mark.Comma refl loosest s m, sees_other mark.Colon mark.Comma refl s m))
      (λ s m. (stops_at mark.Close refl loosest s m, sees_other mark.Colon mark.Close refl s m)) (stops_last loosest, sees_last mark.Colon))
      (behind_law mark.Colon t)))
      (λ x i j s. (s.1.0, s.1.1, s.1.2))

  else_law : Law (otherwise (trans d)) (Optional (SpellsElse (SpellsTrans d))) (Optional (SpellsElse (SpellsTrans (suc d)))) (λ j. NoStatement j × (sees mark.Else j ≡ false)) (option_map erased_transition)
  unfolding otherwise
  else_law = optional_law (maybe_mark mark.Else (behind_law mark.Else (behind_law mark.Colon t)) (λ x i j s. (s.0, s.1, s.2)))

  -- where the parts of a decision end
  ends_parts : (o : Option Transition) (m j : Words) → Ended (Before (Optional (SpellsElse (SpellsTrans d))) mark.EndDecision) o m j → NoStatement m × (sees mark.Open m ≡ false)
  unfolding sees front same_mark
  ends_parts None m j s = let b = s.1 in (no_statement (mark.EndDecision ∷ []) m refl refl (inl (b.0, s.0, b.1)), ap (sees mark.Open) b.1)
  ends_parts (Some x) m j s = let c = s.1.1 in (no_statement (mark.Else ∷ []) m refl refl (inl (c.0, c.1, c.2)), ap (sees mark.Open) c.2)

  decision_of_law : Law (decision_of d (trans d)) (Decides (suc d)) (Decides (suc (suc d))) Anywhere erased_action
  unfolding decision_of same_mark
  decision_of_law = made_law decision_with decision_erased
      (then_law (mark_law mark.Decision)
      (then_law (ended_law (expr_law d) (stops_end loosest))
      (both_law
      (repeated_law part_law (λ i e. let at = sees_ok mark.Open i e in no_statement (mark.Open ∷ []) i refl refl (inl (at.0, _, at.1))) statement_last)
      (ended_law
      (before_law mark.EndDecision else_law
      (λ s k. (no_statement (mark.EndDecision ∷ []) _ refl refl (inl (s, k, refl)), sees_other mark.Else mark.EndDecision refl s k)))
      (λ i j s. tt))
      (λ o m j s u. ends_parts o m j s))))

-- ---- where no decision may stand

-- the shortest decision
shortest : (s : Spelling) → (x : Action) × (u : Words) × ((j : Words) → Anywhere j → Decides (suc zero) x (Fixed mark.Decision s ∷ (u ++ j)) j)
shortest s = (
  decision_with (s, (Named nameless, ([], None))),
  word.Name nameless ∷ Fixed mark.Semicolon plain ∷ Fixed mark.EndDecision plain ∷ Fixed mark.Semicolon plain ∷ [],
  λ j t. (
    (s, (Named nameless, ([], None))),
    refl,
    (_, refl, (_, (_, plain_name (SpellsInner zero) (SpellsTimer zero) nameless loosest _, inl (plain, refl)), (_, refl, (_, (plain, refl), inl (plain, refl))))),
  ),
)

abbrev IsDecision : ℕ → Form Action
IsDecision d = Or (Decides d) Never

abbrev perhaps : Parser Action → Parser Action
perhaps inner = either (sees mark.Decision) inner refuse

decision_begins : (d : ℕ) (x : Action) (i j : Words) → Decides d x i j → Begins mark.Decision i
decision_begins zero x i j s = absurd s
decision_begins (suc d) x i j s = let b = s.2 in (s.0.0, b.0, b.1)

perhaps_rules : (d : ℕ) {inner : Parser Action} → Rules inner (Decides d) (Decides (suc d)) Anywhere erased_action → Rules (perhaps inner) (IsDecision d) (IsDecision (suc d)) Anywhere erased_action
perhaps_rules d a = either_rules (sees mark.Decision) (sees_front mark.Decision) a (refuse_rules (λ x i j s. s))
    (λ x i j s. let b = decision_begins d x i j s in sees_at mark.Decision b.0 i b.1 b.2) (λ x i j s t. absurd s)

-- ---- actions

abbrev IsAction : ℕ → Form Action
IsAction d = Or (As (SpellsAction d) task_with) (Or (As (SpellsAction d) output_with) (Or (As (SpellsAction d) set_with)
    (Or (As (SpellsAction d) reset_with) (Or (As (SpellsAction d) create_with) (IsDecision d)))))

decides_to : (d : ℕ) (x : Action) (i j : Words) → Decides d x i j → SpellsAction d x i j
decides_to zero x i j s = absurd s
decides_to (suc d) x i j s = let z = s.0.1.1 in rw (s.1, (parts_are z.0).0, (else_are z.1).0) s.2

action_to : (d : ℕ) (x : Action) (i j : Words) → IsAction d x i j → SpellsAction d x i j
action_to d =
    either_as (made_as (SpellsAction d) task_with) (either_as (made_as (SpellsAction d) output_with) (either_as (made_as (SpellsAction d) set_with)
    (either_as (made_as (SpellsAction d) reset_with) (either_as (made_as (SpellsAction d) create_with) (either_as (decides_to d) (λ x i j s. absurd s))))))

action_from : (d : ℕ) (x : Action) (i j : Words) → SpellsAction d x i j → IsAction d x i j
action_from d (Task w assignments) i j s = inl ((w, assignments), refl, s)
action_from d (Output w outputs destination) i j s = inr (inl ((w, (outputs, destination)), refl, s))
action_from d (Set w clauses) i j s = inr (inr (inl ((w, clauses), refl, s)))
action_from d (Reset w groups) i j s = inr (inr (inr (inl ((w, groups), refl, s))))
action_from d (Create w process) i j s = inr (inr (inr (inr (inl ((w, process), refl, s)))))
action_from zero (Decision w question parts other) i j s = absurd s
action_from (suc d) (Decision w question parts other) i j s =
    let again : decision_with (w, (question, (parts_in parts, else_in other))) ≡ Decision w question parts other = λ n. Decision w question (parts_again parts n) (else_again other n) in
    inr (inr (inr (inr (inr (inl ((w, (question, (parts_in parts, else_in other))), sym again, s))))))

action_choice_by : (d : ℕ) → Rules (perhaps (decision d)) (IsDecision d) (IsDecision (suc d)) Anywhere erased_action
    → Choice (action d) (SpellsAction d) (SpellsAction (suc d)) Anywhere action_marks erased_action
unfolding action_of same_mark
action_choice_by d r = as_choice (action_to d) (action_from d) (action_to (suc d))
    (or_choice mark.Task _ refl (task_law d) (λ x i j s. let b = s.2 in (s.0.0, b.0, b.1))
    (or_choice mark.Output _ refl (output_law d) (λ x i j s. let b = s.2 in (s.0.0, b.0, b.1))
    (or_choice mark.Set _ refl (set_law d) (λ x i j s. let b = s.2 in (s.0.0, b.0, b.1))
    (or_choice mark.Reset _ refl (reset_law d) (λ x i j s. let b = s.2 in (s.0.0, b.0, b.1))
    (or_rules mark.Create _ refl (create_law d) (λ x i j s. let b = s.2 in (s.0.0, b.0, b.1)) r (either_as (λ x i j s. inl (decision_begins d x i j s)) (λ x i j s. absurd s)))))))

trans_law_by : (d : ℕ) → Rules (perhaps (decision d)) (IsDecision d) (IsDecision (suc d)) Anywhere erased_action
    → Law (trans d) (SpellsTrans d) (SpellsTrans (suc d)) NoStatement erased_transition
trans_law_by d r = as_law (λ x i j s. s) (λ x i j s. s) (λ x i j s. s) (trans_of_law (action_choice_by d r))

-- ---- as many inside each other

decision_rules : (d : ℕ) → Rules (perhaps (decision d)) (IsDecision d) (IsDecision (suc d)) Anywhere erased_action
unfolding decision
decision_rules zero = same_rules (shut_first mark.Decision refuse)
    (perhaps_rules zero (shut_rules mark.Decision (λ s. (s, inr refl)) (Decides zero) (Decides (suc zero)) Anywhere (λ x i j s. s) shortest))
decision_rules (suc d) = perhaps_rules (suc d) (decision_of_law d (trans_law_by d (decision_rules d))).rules

pub action_choice : (d : ℕ) → Choice (action d) (SpellsAction d) (SpellsAction (suc d)) Anywhere action_marks erased_action
action_choice d = action_choice_by d (decision_rules d)

pub trans_law : (d : ℕ) → Law (trans d) (SpellsTrans d) (SpellsTrans (suc d)) NoStatement erased_transition
trans_law d = trans_law_by d (decision_rules d)
