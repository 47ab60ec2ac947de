-- The labels of transitions and decisions.
use Rattle.std.proofs.Common.{◌≡◌, ◌∙◌, ◌+◌, ◌<◌, ◌≤◌, ◌++◌, ◌∷◌, [], ℕ, List, sym, ap, append-nil, append_assoc, drop, flat_map, get_or, length, map, take, Option, option_map, Vec, Global}
use Rattle.std.proofs.lemmas.List.{at_drop_all, at_drop_more, flat_map_more, map_more, take_all}
use Rattle.sdl_tree.specs.declared.behaviour.Action.{Decision}
use Rattle.sdl_tree.specs.declared.behaviour.AnswerPart.{AnswerPart}
use Rattle.sdl_tree.specs.declared.behaviour.Transition.{Transition, out-Transition, roll-out-Transition}
use Rattle.sdl_tree.specs.declared.expressions.Expression.{Expression}
use Rattle.sdl_tree.specs.declared.name.Spelling.{Spelling}
use Rattle.sdl_tree.specs.Tree.{actions_of, parts_of, else_of}
use Rattle.sdl_tree.specs.Views.{ending_value, transition_value, statement_value, action_value, answer_part_value}
use Rattle.sdl_tree.proofs.ViewLemmas.{steps_value, decision_value}
use Rattle.build_names.specs.Labels.{transition_labels, actions_labels, action_labels, parts_labels, otherwise_labels, ending_labels}

pub steps_labels : (t : Transition) → transition_labels (transition_value t)
    ≡ actions_labels (actions_of (map statement_value (out-Transition t).actions.items))
    ++ ending_labels (option_map ending_value (out-Transition t).terminator)
steps_labels t =
    ap (λ u. transition_labels (transition_value u)) (sym (roll-out-Transition t))
    ∙ ap transition_labels (steps_value (out-Transition t).actions (out-Transition t).terminator)

pub decision_labels : (word : Spelling) (question : Expression) (parts : Vec AnswerPart Global)
    (otherwise : Option Transition) →
    action_labels (action_value (Decision word question parts otherwise))
    ≡ parts_labels (parts_of (map answer_part_value parts.items))
    ++ otherwise_labels (else_of (option_map transition_value otherwise))
decision_labels word question parts otherwise = ap action_labels (decision_value word question parts otherwise)

-- what is made of one more element stands behind the rest
pub behind_more : {A B C : Type 0} (f : B → List C) (g : A → B) (old before after : List C) (xs : List A) (i : ℕ)
    (x : A) →
    i < length xs → x ≡ get_or xs i x → before ≡ old ++ flat_map f (map g (take i xs)) → after ≡ before ++ f (g x) →
    after ≡ old ++ flat_map f (map g (take (i + 1) xs))
behind_more f g old before after xs i x below is was here =
    here
    ∙ ap (λ l. l ++ f (g x)) was
    ∙ flat_map_more f old (map g (take i xs)) (g x)
    ∙ ap (λ l. old ++ flat_map f l) (ap (λ y. map g (take i xs) ++ g y ∷ []) is ∙ sym (map_more g xs i x below))

pub behind_all : {A B C : Type 0} (f : B → List C) (g : A → B) (old before : List C) (xs : List A) (i : ℕ) →
    length xs ≤ i → before ≡ old ++ flat_map f (map g (take i xs)) → before ≡ old ++ flat_map f (map g xs)
behind_all f g old before xs i past was = was ∙ ap (λ l. old ++ flat_map f (map g l)) (take_all i xs past)

-- what is made of the first that is left goes over to what stands
pub left_less : {A C : Type 0} (F : List A → List C) (one : A → List C) (before after all : List C) (xs : List A)
    (i : ℕ)
    (x : A) → ((y : A) (ys : List A) → F (y ∷ ys) ≡ one y ++ F ys) → i < length xs → x ≡ get_or xs i x →
    before ++ F (drop i xs) ≡ all → after ≡ before ++ one x → after ++ F (drop (i + 1) xs) ≡ all
left_less F one before after all xs i x step below is was here =
    let rest = drop (i + 1) xs in
    ap (λ l. l ++ F rest) here
    ∙ append_assoc before (one x) (F rest)
    ∙ ap (λ l. before ++ l) (sym (step x rest) ∙ ap (λ y. F (y ∷ rest)) is ∙ sym (at_drop_more F xs i x below))
    ∙ was

pub none_left : {A C : Type 0} (F : List A → List C) (before all : List C) (xs : List A) (i : ℕ) → F [] ≡ [] →
    length xs ≤ i → before ++ F (drop i xs) ≡ all → before ≡ all
none_left F before all xs i none past was =
    sym (append-nil before) ∙ ap (λ l. before ++ l) (sym (at_drop_all F xs i past ∙ none)) ∙ was
