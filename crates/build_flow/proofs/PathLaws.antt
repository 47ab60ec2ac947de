-- Lists of what paths come to have all that they come to, and nothing else.
use Rattle.std.proofs.Common.{◌≡◌, ◌∙◌, ◌||◌, ◌⊎◌, ◌++◌, inl, inr, Bool, true, false, List, [], ◌∷◌, Option, None, Some, refl, ap, sym, subst}
use Rattle.build_names.proofs.FaultLemmas.{in-left, in-right}
use Rattle.build_names.specs.FaultLaws.{In}
use Rattle.sdl_tree.specs.Tree.{Ending, Terminator, Transition, Steps, Actions, NoAction, AndAction, Action, Task, Output, Set, Reset, Create, Decision, Parts, NoPart, AndPart, Otherwise, NoElse, Else}
use Rattle.sdl_tree.specs.Words.{Spot}
use Rattle.build_flow.specs.Laws.{begins}
use Rattle.build_flow.specs.Met.{action_met, actions_met, ending_met, met_if, otherwise_met, parts_met, transition_met}
use Rattle.build_flow.specs.Passing.{action_passed, actions_passed, is_entered, otherwise_passed, parts_passed, transition_passed}
use Rattle.build_flow.specs.Paths.{Answered, AtFirst, AtLabel, ComesInto, ComesTo, Crosses, GoesBehind, IsPart, IsSimple, Origin, RunsOff}
use Rattle.build_flow.specs.Paths as way

-- ---- booleans and lists

pub never : {A : Type 0} → false ≡ true → A
never is = absurd (let wrong : ⊥ = cc in wrong)

pub or-cases : (a b : Bool) → (a || b) ≡ true → (a ≡ true) ⊎ (b ≡ true)
or-cases true b is = inl refl
or-cases false b is = inr is

pub or-left : (a b : Bool) → a ≡ true → (a || b) ≡ true
or-left true b is = refl
or-left false b is = never is

pub or-right : (a b : Bool) → b ≡ true → (a || b) ≡ true
or-right true b is = refl
or-right false b is = is

pub in-either : {A : Type 0} (x : A) (xs ys : List A) → In x (xs ++ ys) → In x xs ⊎ In x ys
in-either x [] ys at = inr at
in-either x (y ∷ xs) ys at =
    elim at [
      | inl e ↦ inl (inl e)
      | inr i ↦ elim (in-either x xs ys i) [ inl left ↦ inl (inr left) | inr right ↦ inr right ]
    ]

in-met_if : (terminator : Terminator) (comes : Bool) (one : Terminator) → In terminator (met_if comes one) →
    (comes ≡ true) × (one ≡ terminator)
in-met_if terminator true one at = elim at [ inl e ↦ (refl, sym e) | inr impossible ↦ absurd impossible ]
in-met_if terminator false one at = absurd at

met_if-in : (terminator : Terminator) (comes : Bool) (one : Terminator) → comes ≡ true → one ≡ terminator →
    In terminator (met_if comes one)
met_if-in terminator true one is same = inl (sym same)
met_if-in terminator false one is same = never is

-- ---- paths that are listed

module _ (enters : Spot → Bool) where
  -- a path that comes to a label from before it, or enters there
  more : (from : Origin) (comes enters-here : Bool) → begins enters comes from ≡ true →
      begins enters (comes || enters-here) from ≡ true
  more AtFirst comes enters-here is = or-left comes enters-here is
  more (AtLabel at) comes enters-here is = is

  -- so it is of a path from a place where paths begin
  abbrev pub Begun : Bool → (Origin → Type 0) → Type 0
  Begun comes P = (from : Origin) × (begins enters comes from ≡ true) × P from

  enter : (label : Option Spot) (first : Action) (rest : Actions) (comes : Bool) (from : Origin) →
      begins enters (comes || is_entered enters label) from ≡ true → Crosses from first → GoesBehind AtFirst rest →
      Begun comes (λ origin. GoesBehind origin (AndAction label first rest))
  enter label first rest comes (AtLabel at) is cross path =
      (AtLabel at, is, way.on (AtLabel at) label first rest cross path)
  enter label first rest true AtFirst is cross path = (AtFirst, refl, way.on AtFirst label first rest cross path)
  enter None first rest false AtFirst is cross path = never is
  enter (Some at) first rest false AtFirst is cross path =
      (AtLabel at, is, way.from_here at first rest (way.on AtFirst (Some at) first rest cross path))

  step : (label : Option Spot) (first : Action) (rest : Actions) (comes : Bool) (from : Origin) →
      begins enters (action_passed enters first (comes || is_entered enters label)) from ≡ true →
      GoesBehind from rest →
      (action_passed enters first (comes || is_entered enters label) ≡ true →
      Begun (comes || is_entered enters label) (λ origin. Crosses origin first)) →
      Begun comes (λ origin. GoesBehind origin (AndAction label first rest))
  step label first rest comes (AtLabel at) is path cross =
      (AtLabel at, is, way.from_later at label first rest path)
  step label first rest comes AtFirst is path cross =
      let f = cross is in enter label first rest comes f.0 f.1 f.2 path

  -- so it is of a part of the decision
  abbrev pub InPart : Bool → (Origin → Transition → Type 0) → Action → Type 0
  InPart comes P action =
      (from : Origin) × (begins enters comes from ≡ true) × (t : Transition) × IsPart t action × P from t

  abbrev InAnswers : Bool → (Origin → Transition → Type 0) → Parts → Type 0
  InAnswers comes P parts =
      (from : Origin) × (begins enters comes from ≡ true) × (t : Transition) × Answered t parts × P from t

  mutual
    pub runs : (t : Transition) (comes : Bool) → transition_passed enters t comes ≡ true →
        Begun comes (λ from. RunsOff from t)
    runs (Steps actions None) comes is =
        let f = goes actions comes is in (f.0, f.1, way.runs_off f.0 actions f.2)
    runs (Steps actions (Some ending)) comes is = never is

    pub goes : (actions : Actions) (comes : Bool) → actions_passed enters actions comes ≡ true →
        Begun comes (λ from. GoesBehind from actions)
    goes NoAction comes is = (AtFirst, is, way.nothing)
    goes (AndAction label first rest) comes is =
        let here = comes || is_entered enters label in
        let f = goes rest (action_passed enters first here) is in
        step label first rest comes f.0 f.1 f.2 (crosses first here)

    pub crosses : (action : Action) (comes : Bool) → action_passed enters action comes ≡ true →
        Begun comes (λ from. Crosses from action)
    crosses (Task word assignments) comes is = (AtFirst, is, way.simple _ (way.task word assignments))
    crosses (Output word outputs destination) comes is =
        (AtFirst, is, way.simple _ (way.output word outputs destination))
    crosses (Set word clauses) comes is = (AtFirst, is, way.simple _ (way.set word clauses))
    crosses (Reset word groups) comes is = (AtFirst, is, way.simple _ (way.reset word groups))
    crosses (Create word process) comes is = (AtFirst, is, way.simple _ (way.create word process))
    crosses (Decision word question parts otherwise) comes is =
        elim (or-cases (parts_passed enters parts comes) (otherwise_passed enters otherwise comes) is) [
          | inl by ↦ let f = runs-part parts comes by in (
            f.0,
            f.1,
            way.through f.0 (Decision word question parts otherwise) f.2
                (way.answered word question parts otherwise f.3) f.4,
          )
          | inr by ↦ let f = runs-else word question parts otherwise comes by in
              (f.0, f.1, way.through f.0 (Decision word question parts otherwise) f.2 f.3 f.4)
        ]

    runs-part : (parts : Parts) (comes : Bool) → parts_passed enters parts comes ≡ true →
        InAnswers comes RunsOff parts
    runs-part NoPart comes is = never is
    runs-part (AndPart answers t rest) comes is =
        elim (or-cases (transition_passed enters t comes) (parts_passed enters rest comes) is) [
          | inl by ↦ let f = runs t comes by in (f.0, f.1, t, way.this answers rest, f.2)
          | inr by ↦ let f = runs-part rest comes by in (f.0, f.1, f.2, way.later answers t rest f.3, f.4)
        ]

    runs-else : (word : _) (question : _) (parts : Parts) (otherwise : Otherwise) (comes : Bool) →
        otherwise_passed enters otherwise comes ≡ true →
        InPart comes RunsOff (Decision word question parts otherwise)
    runs-else word question parts NoElse comes is = never is
    runs-else word question parts (Else t) comes is =
        let f = runs t comes is in (f.0, f.1, t, way.other_answer word question parts, f.2)

  -- ---- and back

  simple-passed : (action : Action) (comes : Bool) → IsSimple action → action_passed enters action comes ≡ comes
  simple-passed action comes (way.task word assignments) = refl
  simple-passed action comes (way.output word outputs destination) = refl
  simple-passed action comes (way.set word clauses) = refl
  simple-passed action comes (way.reset word groups) = refl
  simple-passed action comes (way.create word process) = refl

  answer-passed : {t : Transition} {parts : Parts} → Answered t parts → (comes : Bool) →
      transition_passed enters t comes ≡ true → parts_passed enters parts comes ≡ true
  answer-passed {t} (way.this answers rest) comes is =
      or-left (transition_passed enters t comes) (parts_passed enters rest comes) is
  answer-passed (way.later answers other rest path) comes is =
      or-right (transition_passed enters other comes) (parts_passed enters rest comes) (answer-passed path comes is)

  part-passed : {t : Transition} {action : Action} → IsPart t action → (comes : Bool) →
      transition_passed enters t comes ≡ true → action_passed enters action comes ≡ true
  part-passed (way.answered word question parts otherwise at) comes is =
      or-left (parts_passed enters parts comes) (otherwise_passed enters otherwise comes) (answer-passed at comes is)
  part-passed {t} (way.other_answer word question parts) comes is =
      or-right (parts_passed enters parts comes) (transition_passed enters t comes) is

  mutual
    pub passed : {from : Origin} {t : Transition} → RunsOff from t → (comes : Bool) →
        begins enters comes from ≡ true → transition_passed enters t comes ≡ true
    passed (way.runs_off from actions path) comes is = passed-behind path comes is

    pub passed-behind : {from : Origin} {actions : Actions} → GoesBehind from actions → (comes : Bool) →
        begins enters comes from ≡ true → actions_passed enters actions comes ≡ true
    passed-behind way.nothing comes is = is
    passed-behind (way.on from label first rest cross path) comes is =
        let here = comes || is_entered enters label in
        passed-behind path (action_passed enters first here)
        (passed-across cross here (more from comes (is_entered enters label) is))
    passed-behind (way.from_here label first rest path) comes is =
        subst (λ b. actions_passed enters rest (action_passed enters first b) ≡ true)
        (sym (or-right comes (enters label) is)) (passed-behind path true refl)
    passed-behind (way.from_later at label first rest path) comes is =
        passed-behind path (action_passed enters first (comes || is_entered enters label)) is

    pub passed-across : {from : Origin} {action : Action} → Crosses from action → (comes : Bool) →
        begins enters comes from ≡ true → action_passed enters action comes ≡ true
    passed-across (way.simple action simple) comes is = simple-passed action comes simple ∙ is
    passed-across (way.through from action t part path) comes is = part-passed part comes (passed path comes is)

  -- ---- terminators that paths come to

  module _ (terminator : Terminator) where
    at-label : (actions : Actions) (ending : Ending) (comes : Bool) (label : Option Spot) → ending.label ≡ label →
        ending.terminator ≡ terminator → is_entered enters label ≡ true →
        Begun comes (λ from. ComesTo terminator from (Steps actions (Some ending)))
    at-label actions ending comes None labelled same is = never is
    at-label actions ending comes (Some at) labelled same is =
        (AtLabel at, is, way.at_label at actions ending labelled same)

    at-ending : (actions : Actions) (ending : Ending) (comes : Bool) (label : Option Spot) → ending.label ≡ label →
        ending.terminator ≡ terminator → (actions_passed enters actions comes || is_entered enters label) ≡ true →
        Begun comes (λ from. ComesTo terminator from (Steps actions (Some ending)))
    at-ending actions ending comes label labelled same is =
        elim (or-cases (actions_passed enters actions comes) (is_entered enters label) is) [
          | inl by ↦ let f = goes actions comes by in (f.0, f.1, way.at_end f.0 actions ending f.2 same)
          | inr by ↦ at-label actions ending comes label labelled same by
        ]

    from-here : (label : Option Spot) (first : Action) (rest : Actions) (comes : Bool) (from : Origin) →
        begins enters (comes || is_entered enters label) from ≡ true →
        ComesInto terminator from (AndAction label first rest) →
        Begun comes (λ origin. ComesInto terminator origin (AndAction label first rest))
    from-here label first rest comes (AtLabel at) is path = (AtLabel at, is, path)
    from-here label first rest true AtFirst is path = (AtFirst, refl, path)
    from-here None first rest false AtFirst is path = never is
    from-here (Some at) first rest false AtFirst is path = (AtLabel at, is, way.here at first rest path)

    step-into : (label : Option Spot) (first : Action) (rest : Actions) (comes : Bool) (from : Origin) →
        begins enters (action_passed enters first (comes || is_entered enters label)) from ≡ true →
        ComesInto terminator from rest →
        (action_passed enters first (comes || is_entered enters label) ≡ true →
        Begun (comes || is_entered enters label) (λ origin. Crosses origin first)) →
        Begun comes (λ origin. ComesInto terminator origin (AndAction label first rest))
    step-into label first rest comes (AtLabel at) is path cross =
        (AtLabel at, is, way.afterwards at label first rest path)
    step-into label first rest comes AtFirst is path cross =
        let f = cross is in
        from-here label first rest comes f.0 f.1 (way.behind f.0 label first rest f.2 path)

    mutual
      pub comes-to : (t : Transition) (comes : Bool) → In terminator (transition_met enters t comes) →
          Begun comes (λ from. ComesTo terminator from t)
      comes-to (Steps actions None) comes at =
          elim (in-either terminator (actions_met enters actions comes) [] at) [
            | inl by ↦ let f = comes-into actions comes by in (f.0, f.1, way.inside f.0 actions None f.2)
            | inr impossible ↦ absurd impossible
          ]
      comes-to (Steps actions (Some ending)) comes at =
          let here = actions_passed enters actions comes || is_entered enters ending.label in
          elim (in-either terminator (actions_met enters actions comes) (met_if here ending.terminator) at) [
            | inl by ↦ let f = comes-into actions comes by in (f.0, f.1, way.inside f.0 actions (Some ending) f.2)
            | inr by ↦ let f = in-met_if terminator here ending.terminator by in
                at-ending actions ending comes ending.label refl f.1 f.0
          ]

      comes-into : (actions : Actions) (comes : Bool) → In terminator (actions_met enters actions comes) →
          Begun comes (λ from. ComesInto terminator from actions)
      comes-into NoAction comes at = absurd at
      comes-into (AndAction label first rest) comes at =
          let here = comes || is_entered enters label in
          let passed = action_passed enters first here in
          elim (in-either terminator (action_met enters first here) (actions_met enters rest passed) at) [
            | inl by ↦ let f = comes-part first here by in
                from-here label first rest comes f.0 f.1 (way.into f.0 label first rest f.2 f.3 f.4)
            | inr by ↦ let f = comes-into rest passed by in
                step-into label first rest comes f.0 f.1 f.2 (crosses first here)
          ]

      comes-part : (action : Action) (comes : Bool) → In terminator (action_met enters action comes) →
          InPart comes (ComesTo terminator) action
      comes-part (Task word assignments) comes at = absurd at
      comes-part (Output word outputs destination) comes at = absurd at
      comes-part (Set word clauses) comes at = absurd at
      comes-part (Reset word groups) comes at = absurd at
      comes-part (Create word process) comes at = absurd at
      comes-part (Decision word question parts otherwise) comes at =
          elim (in-either terminator (parts_met enters parts comes) (otherwise_met enters otherwise comes) at) [
            | inl by ↦ let f = comes-answer parts comes by in
                (f.0, f.1, f.2, way.answered word question parts otherwise f.3, f.4)
            | inr by ↦ comes-else word question parts otherwise comes by
          ]

      comes-answer : (parts : Parts) (comes : Bool) → In terminator (parts_met enters parts comes) →
          InAnswers comes (ComesTo terminator) parts
      comes-answer NoPart comes at = absurd at
      comes-answer (AndPart answers t rest) comes at =
          elim (in-either terminator (transition_met enters t comes) (parts_met enters rest comes) at) [
            | inl by ↦ let f = comes-to t comes by in (f.0, f.1, t, way.this answers rest, f.2)
            | inr by ↦ let f = comes-answer rest comes by in (f.0, f.1, f.2, way.later answers t rest f.3, f.4)
          ]

      comes-else : (word : _) (question : _) (parts : Parts) (otherwise : Otherwise) (comes : Bool) →
          In terminator (otherwise_met enters otherwise comes) →
          InPart comes (ComesTo terminator) (Decision word question parts otherwise)
      comes-else word question parts NoElse comes at = absurd at
      comes-else word question parts (Else t) comes at =
          let f = comes-to t comes at in (f.0, f.1, t, way.other_answer word question parts, f.2)

    -- ---- and back

    answer-met : {t : Transition} {parts : Parts} → Answered t parts → (comes : Bool) →
        In terminator (transition_met enters t comes) → In terminator (parts_met enters parts comes)
    answer-met {t} (way.this answers rest) comes at =
        in-left terminator (transition_met enters t comes) (parts_met enters rest comes) at
    answer-met (way.later answers other rest path) comes at =
        in-right terminator (transition_met enters other comes) (parts_met enters rest comes) (answer-met path comes at)

    part-met : {t : Transition} {action : Action} → IsPart t action → (comes : Bool) →
        In terminator (transition_met enters t comes) → In terminator (action_met enters action comes)
    part-met (way.answered word question parts otherwise path) comes at =
        in-left terminator (parts_met enters parts comes) (otherwise_met enters otherwise comes)
        (answer-met path comes at)
    part-met {t} (way.other_answer word question parts) comes at =
        in-right terminator (parts_met enters parts comes) (transition_met enters t comes) at

    mutual
      pub met : {from : Origin} {t : Transition} → ComesTo terminator from t → (comes : Bool) →
          begins enters comes from ≡ true → In terminator (transition_met enters t comes)
      met (way.at_end from actions ending path same) comes is =
          let behind = actions_passed enters actions comes in
          let entered = is_entered enters ending.label in
          in-right terminator (actions_met enters actions comes) (met_if (behind || entered) ending.terminator)
          (met_if-in terminator (behind || entered) ending.terminator
          (or-left behind entered (passed-behind path comes is)) same)
      met (way.at_label label actions ending labelled same) comes is =
          let behind = actions_passed enters actions comes in
          let entered = is_entered enters ending.label in
          in-right terminator (actions_met enters actions comes) (met_if (behind || entered) ending.terminator)
          (met_if-in terminator (behind || entered) ending.terminator
          (or-right behind entered (ap (is_entered enters) labelled ∙ is)) same)
      met (way.inside from actions ending path) comes is =
          in-left terminator (actions_met enters actions comes)
          (ending_met enters ending (actions_passed enters actions comes)) (met-into path comes is)

      met-into : {from : Origin} {actions : Actions} → ComesInto terminator from actions → (comes : Bool) →
          begins enters comes from ≡ true → In terminator (actions_met enters actions comes)
      met-into (way.into from label first rest t part path) comes is =
          let here = comes || is_entered enters label in
          in-left terminator (action_met enters first here) (actions_met enters rest (action_passed enters first here))
          (part-met part here (met path here (more from comes (is_entered enters label) is)))
      met-into (way.behind from label first rest cross path) comes is =
          let here = comes || is_entered enters label in
          in-right terminator (action_met enters first here) (actions_met enters rest (action_passed enters first here))
          (met-into path (action_passed enters first here)
          (passed-across cross here (more from comes (is_entered enters label) is)))
      met-into (way.here label first rest path) comes is =
          subst (λ b. In terminator (action_met enters first b ++ actions_met enters rest (action_passed enters first b)))
          (sym (or-right comes (enters label) is)) (met-into path true refl)
      met-into (way.afterwards at label first rest path) comes is =
          let here = comes || is_entered enters label in
          in-right terminator (action_met enters first here) (actions_met enters rest (action_passed enters first here))
          (met-into path (action_passed enters first here) is)
