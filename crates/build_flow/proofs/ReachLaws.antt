-- The start reaches the terminators that are met from it and from the labels of the joins that it reaches, and no
-- others.
use Rattle.std.proofs.Common.{◌≡◌, ◌∙◌, ◌&&◌, ◌||◌, ◌++◌, ℕ, inl, inr, Bool, true, false, List, [], ◌∷◌, Option, None, Some, flat_map, refl, ap, sym, subst}
use Rattle.build_names.proofs.FaultLemmas.{in-each, in-left, in-right}
use Rattle.build_names.specs.FaultLaws.{In}
use Rattle.sdl_tree.specs.Tree.{Ending, Join, Terminator, Transition, Actions, Action, Parts}
use Rattle.sdl_tree.specs.Words.{Spot}
use Rattle.sdl_tree.specs.declared.name.Spelling.{Spelling}
use Rattle.build_flow.specs.Beginnings.{Beginning}
use Rattle.build_flow.specs.Joins.{joins_in}
use Rattle.build_flow.specs.Laws.{begins}
use Rattle.build_flow.specs.Mentions.{Joined, Mention, action_mentions, actions_mentions, beginning_mentions, ending_mentions, is_named, join_names, label_mentions, otherwise_mentions, parts_mentions, terminator_mentions, transition_mentions}
use Rattle.build_flow.specs.Passing.{is_entered}
use Rattle.build_flow.specs.Paths.{Answered, AtFirst, AtLabel, ComesInto, ComesTo, IsPart, Origin}
use Rattle.build_flow.specs.Paths as way
use Rattle.build_flow.specs.Reach.{AreReached, EachReached, LeadsOn, StartReaches, beginning_met, is_first, labels_in, leads, met_from}
use Rattle.build_flow.specs.Reach as reach
use Rattle.build_flow.proofs.PathLaws.{comes-to, in-either, met, never, or-cases, or-left, or-right}

-- ---- booleans and lists

pub and-left : (a b : Bool) → (a && b) ≡ true → a ≡ true
and-left true b is = refl
and-left false b is = is

pub and-right : (a b : Bool) → (a && b) ≡ true → b ≡ true
and-right true b is = is
and-right false b is = never is

and-both : (a b : Bool) → a ≡ true → b ≡ true → (a && b) ≡ true
and-both true b is also = also
and-both false b is also = is

pub in-some : {A B : Type 0} (x : A) (f : B → List A) (ys : List B) → In x (flat_map f ys) →
    (y : B) × In y ys × In x (f y)
in-some x f [] at = absurd at
in-some x f (y ∷ ys) at =
    elim (in-either x (f y) (flat_map f ys) at) [
      | inl now ↦ (y, inl refl, now)
      | inr later ↦ let g = in-some x f ys later in (g.0, inr g.1, g.2)
    ]

-- ---- both ways

-- the start reaches a join that leads to the label
abbrev pub IsLed : List Beginning → Spot → Type 0
IsLed all label = (is_first (labels_in all) label ≡ true)
    × ((word : Spelling) × (name : Spot) × (name.text ≡ label.text) × StartReaches all (Join word name))

-- where paths enter only at labels to which joins lead that the start reaches
module _ (all : List Beginning) (enters : Spot → Bool)
    (led : (label : Spot) → enters label ≡ true → IsLed all label) where
  onto : (terminator : Terminator) (label : Spot) → enters label ≡ true → LeadsOn all label terminator →
      StartReaches all terminator
  onto terminator label is on =
      let f = led label is in reach.by_join terminator f.1.0 f.1.1 label f.1.3 f.1.2 f.0 on

  connected : (terminator : Terminator) (beginning : Beginning) → In beginning all → (label : Option Spot) →
      beginning.label ≡ label → is_entered enters label ≡ true → ComesTo terminator AtFirst beginning.transition →
      StartReaches all terminator
  connected terminator beginning at None labelled is path = never is
  connected terminator beginning at (Some label) labelled is path =
      onto terminator label is (reach.of_connection beginning at labelled path)

  from-origin : (terminator : Terminator) (beginning : Beginning) → In beginning all → (from : Origin) →
      begins enters (beginning.is_start || is_entered enters beginning.label) from ≡ true →
      ComesTo terminator from beginning.transition → StartReaches all terminator
  from-origin terminator beginning at AtFirst is path =
      elim (or-cases beginning.is_start (is_entered enters beginning.label) is) [
        | inl start ↦ reach.at_once terminator beginning at start path
        | inr entered ↦ connected terminator beginning at beginning.label refl entered path
      ]
  from-origin terminator beginning at (AtLabel label) is path =
      onto terminator label is (reach.of_statement beginning at path)

  pub entered-reached : (terminator : Terminator) → In terminator (flat_map (beginning_met enters) all) →
      StartReaches all terminator
  entered-reached terminator at =
      let f = in-some terminator (beginning_met enters) all at in
      let comes = f.0.is_start || is_entered enters f.0.label in
      let g = comes-to enters terminator f.0.transition comes f.2 in
      from-origin terminator f.0 f.1 g.0 g.1 g.2

module _ (all : List Beginning) (names : List (List ℕ)) where
  abbrev enters : Spot → Bool
  enters = leads (labels_in all) names

  pub met-reached : EachReached all names → (terminator : Terminator) → In terminator (met_from all names) →
      StartReaches all terminator
  met-reached each = entered-reached all enters
      (λ label is. (
        and-left (is_first (labels_in all) label) (is_named names label.text) is,
        each label.text (and-right (is_first (labels_in all) label) (is_named names label.text) is),
      ))

  -- where each join that is met has one of the names
  module _ (closed : (word : Spelling) (name : Spot) → In (Join word name) (met_from all names) →
      is_named names name.text ≡ true) where
    onward : (terminator : Terminator) (label : Spot) → enters label ≡ true → LeadsOn all label terminator →
        In terminator (met_from all names)
    onward terminator label is (reach.of_statement beginning at path) =
        in-each terminator (beginning_met enters) all beginning at
        (met enters terminator path (beginning.is_start || is_entered enters beginning.label) is)
    onward terminator label is (reach.of_connection beginning at labelled path) =
        in-each terminator (beginning_met enters) all beginning at
        (met enters terminator path (beginning.is_start || is_entered enters beginning.label)
        (or-right beginning.is_start (is_entered enters beginning.label) (ap (is_entered enters) labelled ∙ is)))

    pub reached-met : {terminator : Terminator} → StartReaches all terminator → In terminator (met_from all names)
    reached-met (reach.at_once terminator start at is path) =
        in-each terminator (beginning_met enters) all start at
        (met enters terminator path (start.is_start || is_entered enters start.label)
        (or-left start.is_start (is_entered enters start.label) is))
    reached-met (reach.by_join terminator word name label before same first on) =
        let named : is_named names label.text ≡ true =
        subst (λ text. is_named names text ≡ true) same (closed word name (reached-met before)) in
        onward terminator label (and-both (is_first (labels_in all) label) (is_named names label.text) first named) on

    pub all-reached : EachReached all names → AreReached all names
    all-reached each = record { each = each; reached = λ word name is. closed word name (reached-met is) }

pub reached-listed : (all : List Beginning) (names : List (List ℕ)) → AreReached all names → (terminator : Terminator) →
    StartReaches all terminator → In terminator (met_from all names)
reached-listed all names are terminator is =
    reached-met all names (λ word name at. are.reached word name (met-reached all names are.each (Join word name) at)) is

-- ---- joins that are met are joins of the process

module _ (word : Spelling) (name : Spot) where
  ending-mentioned : (ending : Ending) → ending.terminator ≡ Join word name →
      In (Joined name) (ending_mentions (Some ending))
  ending-mentioned ending same =
      in-right (Joined name) (label_mentions ending.label) (terminator_mentions ending.terminator)
      (subst (λ t. In (Joined name) (terminator_mentions t)) (sym same) (inl refl))

  answer-mentioned : {t : Transition} {parts : Parts} → Answered t parts → In (Joined name) (transition_mentions t) →
      In (Joined name) (parts_mentions parts)
  answer-mentioned {t} (way.this answers rest) at =
      in-left (Joined name) (transition_mentions t) (parts_mentions rest) at
  answer-mentioned (way.later answers other rest path) at =
      in-right (Joined name) (transition_mentions other) (parts_mentions rest) (answer-mentioned path at)

  part-mentioned : {t : Transition} {action : Action} → IsPart t action → In (Joined name) (transition_mentions t) →
      In (Joined name) (action_mentions action)
  part-mentioned (way.answered w question parts otherwise path) at =
      in-left (Joined name) (parts_mentions parts) (otherwise_mentions otherwise) (answer-mentioned path at)
  part-mentioned {t} (way.other_answer w question parts) at =
      in-right (Joined name) (parts_mentions parts) (transition_mentions t) at

  abbrev first_mentions : Option Spot → Action → List Mention
  first_mentions label first = label_mentions label ++ action_mentions first

  mutual
    mentioned : {from : Origin} {t : Transition} → ComesTo (Join word name) from t →
        In (Joined name) (transition_mentions t)
    mentioned (way.at_end from actions ending path same) =
        in-right (Joined name) (actions_mentions actions) (ending_mentions (Some ending)) (ending-mentioned ending same)
    mentioned (way.at_label label actions ending labelled same) =
        in-right (Joined name) (actions_mentions actions) (ending_mentions (Some ending)) (ending-mentioned ending same)
    mentioned (way.inside from actions ending path) =
        in-left (Joined name) (actions_mentions actions) (ending_mentions ending) (mentioned-into path)

    mentioned-into : {from : Origin} {actions : Actions} → ComesInto (Join word name) from actions →
        In (Joined name) (actions_mentions actions)
    mentioned-into (way.into from label first rest t part path) =
        in-left (Joined name) (first_mentions label first) (actions_mentions rest)
        (in-right (Joined name) (label_mentions label) (action_mentions first) (part-mentioned part (mentioned path)))
    mentioned-into (way.behind from label first rest cross path) =
        in-right (Joined name) (first_mentions label first) (actions_mentions rest) (mentioned-into path)
    mentioned-into (way.here label first rest path) = mentioned-into path
    mentioned-into (way.afterwards at label first rest path) =
        in-right (Joined name) (first_mentions label first) (actions_mentions rest) (mentioned-into path)

  pub met-joins : (all : List Beginning) (names : List (List ℕ)) → In (Join word name) (met_from all names) →
      In name.text (joins_in all)
  met-joins all names at =
      let enters = leads (labels_in all) names in
      let f = in-some (Join word name) (beginning_met enters) all at in
      let g = comes-to enters (Join word name) f.0.transition (f.0.is_start || is_entered enters f.0.label) f.2 in
      in-each name.text join_names (flat_map beginning_mentions all) (Joined name)
      (in-each (Joined name) beginning_mentions all f.0 f.1
      (in-right (Joined name) (label_mentions f.0.label) (transition_mentions f.0.transition) (mentioned g.2)))
      (inl refl)
