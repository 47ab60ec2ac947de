-- Paths that come in some turns, and which of them come by a given one.
use Rattle.std.proofs.Common.{◌≡◌, ◌∙◌, ◌||◌, ◌++◌, ℕ, Bool, true, false, List, [], ◌∷◌, Option, None, Some, flat_map, is_some, nat_lt, if◌then◌else◌, refl, ap, sym}
use Rattle.sdl_tree.specs.Tree.{Ending, Terminator, Transition, Steps, Actions, NoAction, AndAction, Action, Task, Output, Set, Reset, Create, Decision, Parts, NoPart, AndPart, Otherwise, NoElse, Else}
use Rattle.sdl_tree.specs.Words.{Spot}
use Rattle.build_flow.specs.Beginnings.{Beginning}
use Rattle.build_flow.specs.Met.{action_met, actions_met, ending_met, met_if, otherwise_met, parts_met, transition_met}
use Rattle.build_flow.specs.Passing.{action_passed, actions_passed, is_entered, otherwise_passed, parts_passed, transition_passed}
use Rattle.build_flow.specs.Reach.{beginning_met}
use Rattle.build_flow.specs.Turns.{Found, action_found, action_turn, actions_found, actions_turn, ending_found, entry_turn, first_turn, found_from, found_in, otherwise_found, otherwise_turn, parts_found, parts_turn, sooner, transition_found, transition_turn}

either-same : (a b c d : Bool) → a ≡ c → b ≡ d → (a || b) ≡ (c || d)
either-same a b c d left right = ap (λ x. x || b) left ∙ ap (λ x. c || x) right

joined-same : {A : Type 0} (a b c d : List A) → a ≡ c → b ≡ d → a ++ b ≡ c ++ d
joined-same a b c d left right = ap (λ x. x ++ b) left ∙ ap (λ x. c ++ x) right

-- those of the terminators to which paths come that are so by their turns
abbrev pub kept : (Option ℕ → Bool) → List Found → List Terminator
kept counts [] = []
kept counts (found ∷ rest) = met_if (counts (Some found.turn)) found.terminator ++ kept counts rest

assoc-if : (counts : Bool) (one : Terminator) (xs ys : List Terminator) →
    met_if counts one ++ (xs ++ ys) ≡ (met_if counts one ++ xs) ++ ys
assoc-if true one xs ys = refl
assoc-if false one xs ys = refl

kept-both : (counts : Option ℕ → Bool) (xs ys : List Found) → kept counts (xs ++ ys) ≡ kept counts xs ++ kept counts ys
kept-both counts [] ys = refl
kept-both counts (x ∷ xs) ys =
    ap (λ rest. met_if (counts (Some x.turn)) x.terminator ++ rest) (kept-both counts xs ys)
    ∙ assoc-if (counts (Some x.turn)) x.terminator (kept counts xs) (kept counts ys)

nothing-behind : (xs : List Terminator) → xs ++ [] ≡ xs
nothing-behind [] = refl
nothing-behind (x ∷ xs) = ap (λ rest. x ∷ rest) (nothing-behind xs)

module _ (turns : Spot → Option ℕ) (counts : Option ℕ → Bool) (none : counts None ≡ false)
    (either : (one other : Option ℕ) → counts (sooner one other) ≡ (counts one || counts other)) where
  abbrev enters : Spot → Bool
  enters label = counts (turns label)

  entered : (label : Option Spot) → counts (entry_turn turns label) ≡ is_entered enters label
  entered None = none
  entered (Some label) = refl

  here-same : (comes : Option ℕ) (label : Option Spot) →
      counts (sooner comes (entry_turn turns label)) ≡ (counts comes || is_entered enters label)
  here-same comes label =
      either comes (entry_turn turns label) ∙ ap (λ b. counts comes || b) (entered label)

  mutual
    pub same-transition : (t : Transition) (comes : Option ℕ) →
        counts (transition_turn turns t comes) ≡ transition_passed enters t (counts comes)
    same-transition (Steps actions None) comes = same-actions actions comes
    same-transition (Steps actions (Some ending)) comes = none

    pub same-actions : (actions : Actions) (comes : Option ℕ) →
        counts (actions_turn turns actions comes) ≡ actions_passed enters actions (counts comes)
    same-actions NoAction comes = refl
    same-actions (AndAction label first rest) comes =
        same-actions rest (action_turn turns first (sooner comes (entry_turn turns label)))
        ∙ ap (actions_passed enters rest)
        (same-action first (sooner comes (entry_turn turns label))
        ∙ ap (action_passed enters first) (here-same comes label))

    pub same-action : (action : Action) (comes : Option ℕ) →
        counts (action_turn turns action comes) ≡ action_passed enters action (counts comes)
    same-action (Task word assignments) comes = refl
    same-action (Output word outputs destination) comes = refl
    same-action (Set word clauses) comes = refl
    same-action (Reset word groups) comes = refl
    same-action (Create word process) comes = refl
    same-action (Decision word question parts otherwise) comes =
        either (parts_turn turns parts comes) (otherwise_turn turns otherwise comes)
        ∙ either-same _ _ _ _ (same-parts parts comes) (same-otherwise otherwise comes)

    pub same-parts : (parts : Parts) (comes : Option ℕ) →
        counts (parts_turn turns parts comes) ≡ parts_passed enters parts (counts comes)
    same-parts NoPart comes = none
    same-parts (AndPart answers t rest) comes =
        either (transition_turn turns t comes) (parts_turn turns rest comes)
        ∙ either-same _ _ _ _ (same-transition t comes) (same-parts rest comes)

    pub same-otherwise : (otherwise : Otherwise) (comes : Option ℕ) →
        counts (otherwise_turn turns otherwise comes) ≡ otherwise_passed enters otherwise (counts comes)
    same-otherwise NoElse comes = none
    same-otherwise (Else t) comes = same-transition t comes

  kept-one : (terminator : Terminator) (turn : Option ℕ) →
      kept counts (found_in terminator turn) ≡ met_if (counts turn) terminator
  kept-one terminator None = ap (λ b. met_if b terminator) (sym none)
  kept-one terminator (Some turn) = nothing-behind (met_if (counts (Some turn)) terminator)

  kept-ending : (ending : Option Ending) (comes : Option ℕ) →
      kept counts (ending_found turns ending comes) ≡ ending_met enters ending (counts comes)
  kept-ending None comes = refl
  kept-ending (Some ending) comes =
      kept-one ending.terminator (sooner comes (entry_turn turns ending.label))
      ∙ ap (λ b. met_if b ending.terminator) (here-same comes ending.label)

  mutual
    pub kept-transition : (t : Transition) (comes : Option ℕ) →
        kept counts (transition_found turns t comes) ≡ transition_met enters t (counts comes)
    kept-transition (Steps actions ending) comes =
        kept-both counts (actions_found turns actions comes)
        (ending_found turns ending (actions_turn turns actions comes))
        ∙ joined-same _ _ _ _ (kept-actions actions comes)
        (kept-ending ending (actions_turn turns actions comes)
        ∙ ap (ending_met enters ending) (same-actions actions comes))

    pub kept-actions : (actions : Actions) (comes : Option ℕ) →
        kept counts (actions_found turns actions comes) ≡ actions_met enters actions (counts comes)
    kept-actions NoAction comes = refl
    kept-actions (AndAction label first rest) comes =
        let here = sooner comes (entry_turn turns label) in
        kept-both counts (action_found turns first here) (actions_found turns rest (action_turn turns first here))
        ∙ joined-same _ _ _ _ (kept-action first here ∙ ap (action_met enters first) (here-same comes label))
        (kept-actions rest (action_turn turns first here)
        ∙ ap (actions_met enters rest)
        (same-action first here ∙ ap (action_passed enters first) (here-same comes label)))

    pub kept-action : (action : Action) (comes : Option ℕ) →
        kept counts (action_found turns action comes) ≡ action_met enters action (counts comes)
    kept-action (Task word assignments) comes = refl
    kept-action (Output word outputs destination) comes = refl
    kept-action (Set word clauses) comes = refl
    kept-action (Reset word groups) comes = refl
    kept-action (Create word process) comes = refl
    kept-action (Decision word question parts otherwise) comes =
        kept-both counts (parts_found turns parts comes) (otherwise_found turns otherwise comes)
        ∙ joined-same _ _ _ _ (kept-parts parts comes) (kept-otherwise otherwise comes)

    pub kept-parts : (parts : Parts) (comes : Option ℕ) →
        kept counts (parts_found turns parts comes) ≡ parts_met enters parts (counts comes)
    kept-parts NoPart comes = refl
    kept-parts (AndPart answers t rest) comes =
        kept-both counts (transition_found turns t comes) (parts_found turns rest comes)
        ∙ joined-same _ _ _ _ (kept-transition t comes) (kept-parts rest comes)

    pub kept-otherwise : (otherwise : Otherwise) (comes : Option ℕ) →
        kept counts (otherwise_found turns otherwise comes) ≡ otherwise_met enters otherwise (counts comes)
    kept-otherwise NoElse comes = refl
    kept-otherwise (Else t) comes = kept-transition t comes

-- ---- a path comes at all

some-if : (sooner' : Bool) (one other : ℕ) → is_some (if sooner' then Some other else Some one) ≡ true
some-if true one other = refl
some-if false one other = refl

pub some-either : (one other : Option ℕ) → is_some (sooner one other) ≡ (is_some one || is_some other)
some-either None other = refl
some-either (Some one) None = refl
some-either (Some one) (Some other) = some-if (nat_lt other one) one other

-- ---- in a process

module _ (turns : Spot → Option ℕ) (counts : Option ℕ → Bool) (none : counts None ≡ false)
    (first : counts (Some 0) ≡ true)
    (either : (one other : Option ℕ) → counts (sooner one other) ≡ (counts one || counts other)) where
  first-same : (is_start : Bool) (label : Option Spot) →
      counts (first_turn is_start (entry_turn turns label)) ≡ (is_start || is_entered (λ l. counts (turns l)) label)
  first-same true label = first
  first-same false None = none
  first-same false (Some label) = refl

  pub kept-from : (all : List Beginning) →
      kept counts (found_from turns all) ≡ flat_map (beginning_met (λ label. counts (turns label))) all
  kept-from [] = refl
  kept-from (one ∷ rest) =
      let comes = first_turn one.is_start (entry_turn turns one.label) in
      kept-both counts (transition_found turns one.transition comes) (found_from turns rest)
      ∙ joined-same _ _ _ _
      (kept-transition turns counts none either one.transition comes
      ∙ ap (transition_met (λ label. counts (turns label)) one.transition) (first-same one.is_start one.label))
      (kept-from rest)
