-- The law of transitions, over that of actions: actions with their labels, and what ends them.
use Rattle.sdl_parse.proofs.Words.{Action, Actions, AndAction, Anywhere, BeginsOne, Both, Choice, Ending, Fixed, Form, Law, List, Made, Mark, MaybeLaw, NoAction, None, Option, Optional, Parser, Repeated, SameFront, Some, SpellsEnding, SpellsLabel, SpellsStatement, SpellsTerminator, SpellsTransBy, Spot, Statement, Steps, Terminator, Transition, Words, [], action_marks, actions_of, and_then, ap, begins_action, begins_seen, begins_statement, begins_terminator, begins_unnamed, both_law, either, either_law, ending_with, erased_action, erased_actions, erased_both, erased_ending, erased_name, erased_terminator, erased_transition, false, front, have_mark, inl, inr, label, made, made_law, map, maybe, maybe_law, name_begins, name_front, node_law, one_front, option_map, or_right, others_unseen, refl, same_mark, sees, sees_name, statement_with, statements_in, steps_from, steps_if, steps_in, steps_with, stops_law, suc, sym, terminator, terminator_marks, trans_of, true, until_by, until_law, ℕ, ◌||◌, ◌∙◌, ◌∷◌, ◌≡◌, ◌⊎◌, ◌⊗◌}
use Rattle.sdl_tree.specs.declared.mark.Mark.TheVariants as mark
use Rattle.sdl_parse.proofs.EndingLaws.{label_law, terminator_choice}

-- where a transition stops
abbrev pub NoStatement : Words → Type 0
NoStatement j = begins_statement j ≡ false

statement_front : (i k : Words) → SameFront i k → begins_statement i ≡ begins_statement k
unfolding begins_statement begins_action begins_terminator
statement_front i k e = λ n. name_front i k e n || (one_front action_marks i k e n || one_front terminator_marks i k e n)

pub statement_last : NoStatement []
unfolding begins_statement begins_action begins_terminator sees_name sees front
statement_last = refl

-- where a mark stands that begins none, a transition stops
pub no_statement : (ms : List Mark) (i : Words) → have_mark action_marks ms ≡ false → have_mark terminator_marks ms ≡ false → BeginsOne ms i → NoStatement i
unfolding begins_statement begins_action begins_terminator
no_statement ms i a t b = λ n. begins_unnamed ms i b n || (others_unseen action_marks ms i a b n || others_unseen terminator_marks ms i t b n)

-- ---- a statement or an ending, if one stands next

abbrev Kind : Type 0
Kind = Action ⊎ Terminator

abbrev Step : Type 0
Step = Statement ⊎ Ending

abbrev step_with : Option Spot × Kind → Step
step_with (l, inl a) = inl (statement_with l a)
step_with (l, inr t) = inr (ending_with l t)

abbrev goes_on : Action → Kind
goes_on a = inl a

abbrev ends_here : Terminator → Kind
ends_here t = inr t

abbrev kind : Parser Action → Parser Kind
kind act = either begins_terminator (made ends_here terminator) (made goes_on act)

abbrev step : Parser Action → Parser (Option Step)
step act = maybe begins_statement (made step_with (label ⊗ kind act))

abbrev erased_statement : Statement → Statement
erased_statement s = statement_with (option_map erased_name s.label) (erased_action s.action)

abbrev erased_kind : Kind → Kind
erased_kind = erased_both erased_action erased_terminator

abbrev erased_step : Step → Step
erased_step = erased_both erased_statement erased_ending

abbrev IsStep : Form Action → Form Step
IsStep Act (inl s) i j = SpellsStatement Act s i j
IsStep Act (inr e) i j = SpellsEnding e i j

abbrev IsKind : Form Action → Form Kind
IsKind Act x i j = Made ends_here SpellsTerminator x i j ⊎ Made goes_on Act x i j

abbrev Labelled : Form Action → Form (Option Spot × Kind)
Labelled Act = Both SpellsLabel (IsKind Act)

step_to : (Act : Form Action) (x : Step) (i j : Words) → Made step_with (Labelled Act) x i j → IsStep Act x i j
step_to Act x i j ((l, k), e, (m, s, inl (t, f, r))) = rw (e, f) (m, s, r)
step_to Act x i j ((l, k), e, (m, s, inr (a, f, r))) = rw (e, f) (m, s, r)

step_from : (Act : Form Action) (x : Step) (i j : Words) → IsStep Act x i j → Made step_with (Labelled Act) x i j
step_from Act (inl s) i j t = ((s.label, inl s.action), refl, (t.0, t.1, inr (s.action, refl, t.2)))
step_from Act (inr e) i j t = ((e.label, inr e.terminator), refl, (t.0, t.1, inl (e.terminator, refl, t.2)))

-- ---- one turn

steps_turn : (act : Parser Action) (n : ℕ) (found : List Statement) (i : Words)
    → steps_from act (suc n) found i ≡ and_then (step act i) (λ o m. until_by found (steps_from act n) o m)
unfolding steps_from
steps_turn act n found i = simp (steps_in, steps_if)

-- ---- statements in the tree

actions_again : (actions : Actions) → actions_of (statements_in actions) ≡ actions
actions_again NoAction = refl
actions_again (AndAction l a actions) = ap (AndAction l a) (actions_again actions)

-- the list in the tree is the list, and without its places that without its places
listed : (statements : List Statement) → (statements_in (actions_of statements) ≡ statements)
    × (erased_actions (actions_of statements) ≡ actions_of (map erased_statement statements))
listed [] = (refl, refl)
listed (s ∷ statements) =
    let more = listed statements in
    (ap (λ ss. s ∷ ss) more.0, ap (AndAction (option_map erased_name s.label) (erased_action s.action)) more.1)

abbrev AllSteps : Form Action → Form (List Statement × Option Ending)
AllSteps Act = Both (Repeated (SpellsStatement Act)) (Optional SpellsEnding)

trans_to : (Act : Form Action) (x : Transition) (i j : Words) → Made steps_with (AllSteps Act) x i j → SpellsTransBy Act x i j
trans_to Act x i j s = rw (s.1, (listed s.0.0).0) s.2

trans_from : (Act : Form Action) (x : Transition) (i j : Words) → SpellsTransBy Act x i j → Made steps_with (AllSteps Act) x i j
trans_from Act (Steps actions ending) i j s = ((statements_in actions, ending), ap (λ ss. Steps ss ending) (sym (actions_again actions)), s)

erased_steps : (x : List Statement × Option Ending) → erased_transition (steps_with x) ≡ steps_with (map erased_statement x.0, option_map erased_ending x.1)
erased_steps x = ap (λ ss. Steps ss (option_map erased_ending x.1)) (listed x.0).1

-- ---- the law, where actions stop anywhere and begin as they do

module _ {act : Parser Action} {Act More : Form Action} (a : Choice act Act More Anywhere action_marks erased_action) where
  kind_law : Law (kind act) (IsKind Act) (IsKind More) Anywhere erased_kind
  unfolding begins_terminator same_mark
  kind_law =
      either_law begins_terminator (one_front terminator_marks) (made_law ends_here (λ x. refl) terminator_choice.law) (made_law goes_on (λ x. refl) a.law)
      (λ x i j s. begins_seen terminator_marks i (terminator_choice.begins s.0 i j s.2)) (λ x i j s t. others_unseen terminator_marks action_marks i refl (a.begins s.0 i j s.2))

  kind_unnamed : (x : Kind) (i j : Words) → IsKind Act x i j → sees_name i ≡ false
  kind_unnamed x i j (inl s) = begins_unnamed terminator_marks i (terminator_choice.begins s.0 i j s.2)
  kind_unnamed x i j (inr s) = begins_unnamed action_marks i (a.begins s.0 i j s.2)

  labelled_begins : (l : Option Spot) (i m : Words) → SpellsLabel l i m → (begins_action m || begins_terminator m) ≡ true → begins_statement i ≡ true
  unfolding begins_statement
  labelled_begins None i m s e = ap begins_statement s ∙ or_right (sees_name m) (begins_action m || begins_terminator m) e
  labelled_begins (Some x) i m s e = ap (λ b. b || (begins_action i || begins_terminator i)) (name_begins x i (Fixed mark.Colon s.0 ∷ m) s.1)

  step_begins : (x : Step) (i j : Words) → IsStep Act x i j → begins_statement i ≡ true
  unfolding begins_action begins_terminator
  step_begins (inl s) i j t = labelled_begins s.label i t.0 t.1 (ap (λ b. b || begins_terminator t.0) (begins_seen action_marks t.0 (a.begins s.action t.0 j t.2)))
  step_begins (inr e) i j t = labelled_begins e.label i t.0 t.1 (or_right (begins_action t.0) (begins_terminator t.0) (begins_seen terminator_marks t.0 (terminator_choice.begins e.terminator t.0 j t.2)))

  step_law : MaybeLaw (step act) (IsStep Act) (IsStep More) Anywhere begins_statement erased_step
  step_law = maybe_law begins_statement statement_front
      (node_law step_with (IsStep Act) (IsStep More) (λ x. elim x.1 as (λ k. erased_step (step_with (x.0, k)) ≡ step_with (option_map erased_name x.0, erased_kind k)) [ inl a ↦ refl | inr t ↦ refl ]) (step_to Act) (step_from Act) (step_to More) (both_law label_law kind_law (λ y m j s t. (tt, kind_unnamed y m j s)))).rules
      statement_last step_begins

  pub trans_of_law : Law (trans_of act) (SpellsTransBy Act) (SpellsTransBy More) NoStatement erased_transition
  unfolding steps_from
  trans_of_law =
      node_law steps_with (SpellsTransBy Act) (SpellsTransBy More) erased_steps (trans_to Act) (trans_from Act) (trans_to More)
      (stops_law (λ j t. (tt, t)) (until_law step_law step_law.rules.complete (λ i e. tt) (λ j t. t) tt (steps_from act) (λ found i. refl) (steps_turn act)))
