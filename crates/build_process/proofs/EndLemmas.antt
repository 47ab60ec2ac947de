-- Where no path through a transition runs off its end, none through its body does.
use Rattle.std.proofs.Common.{◌≡◌, ◌∙◌, ◌⊎◌, ◌||◌, inl, inr, Bool, true, false, List, [], ◌∷◌, Option, None, Some, option_map, refl, ap, sym, subst}
use Rattle.std.specs.Option.{unwrap_or}
use Rattle.build_flow.specs.Passing.{action_passed, actions_passed, is_entered, otherwise_passed, parts_passed, transition_passed}
use Rattle.build_statements.specs.Contexts.{Context, label_in}
use Rattle.build_statements.specs.Statements.{answers_in, asked_in, create_in, kind_in, output_in, reset_in, set_in, task_in, terminator_in}
use Rattle.build_statements.specs.Transitions.{Head, Piece, acts, asks, before, body_in, ending_in, head_in, labelled, other_in, parts_of, piece, pieces_in, steps_in}
use Rattle.build_expressions.specs.Partial.{both}
use Rattle.build_expressions.specs.Typing.{term_in}
use Rattle.build_expressions.specs.declared.operand_sort.OperandSort.{OperandSort}
use Rattle.sdl_system.proofs.BodyLemmas.{Ends-first, Ends-second}
use Rattle.sdl_system.specs.Body as body
use Rattle.sdl_system.specs.Body.{AllEnd, Body, Ends, FromLabel, InParts, followed, here, in_first, in_later, in_otherwise, past_action, past_decision, past_label, within}
use Rattle.sdl_system.specs.Term.{Term}
use Rattle.sdl_system.specs.declared.id.LabelId.{LabelId}
use Rattle.sdl_tree.specs.Tree.{Transition, Actions, Action, Parts, Otherwise, Ending, Steps, NoAction, AndAction, Task, Output, Set, Reset, Create, Decision, NoPart, AndPart, NoElse, Else}
use Rattle.sdl_tree.specs.Words.{Spot}

-- ---- what is there, of two that both are

pub both-some : {A B C : Type 0} (f : A → B → C) (a : Option A) (b : Option B) (c : C) → both f a b ≡ Some c →
    (x : A) × (y : B) × (a ≡ Some x) × (b ≡ Some y) × (c ≡ f x y)
both-some f None b c is = cc
both-some f (Some x) None c is = cc
both-some f (Some x) (Some y) c is = (x, y, refl, refl, sym (ap (λ o. unwrap_or o (f x y)) is))

pub map-some : {A B : Type 0} (f : A → B) (a : Option A) (b : B) → option_map f a ≡ Some b →
    (x : A) × (a ≡ Some x) × (b ≡ f x)
map-some f None b is = cc
map-some f (Some x) b is = (x, refl, sym (ap (λ o. unwrap_or o (f x)) is))

pub some-same : {A : Type 0} (x y : A) → Some x ≡ Some y → x ≡ y
some-same x y is = ap (λ o. unwrap_or o x) is

or-false : (a b : Bool) → (a || b) ≡ false → (a ≡ false) × (b ≡ false)
or-false true b is = cc
or-false false b is = (refl, is)

pub or-right : (a b : Bool) → b ≡ true → (a || b) ≡ true
or-right true b is = refl
or-right false b is = is

pub or-left : (a b : Bool) → a ≡ true → (a || b) ≡ true
or-left true b is = refl
or-left false b is = cc

or-later : (a b d : Bool) → (b || d) ≡ true → ((a || b) || d) ≡ true
or-later true b d is = refl
or-later false b d is = is

-- ---- a body with its label

pub data Labelled (context : Context) (name : Option Spot) (inner whole : Body) : Type 0 where
  without : name ≡ None → whole ≡ inner → Labelled context name inner whole
  opened :
      (word : Spot) (l : LabelId) → name ≡ Some word → label_in context word.text ≡ Some l → whole ≡ body.label l inner
      → Labelled context name inner whole

pub labelled-some : (context : Context) (name : Option Spot) (o : Option Body) (whole : Body) →
    labelled context name o ≡ Some whole → (inner : Body) × (o ≡ Some inner) × Labelled context name inner whole
labelled-some context None o whole is = (whole, is, without refl refl)
labelled-some context (Some word) o whole is =
    let r = both-some body.label (label_in context word.text) o whole is in
    (r.1, r.3, opened word r.0 refl r.2 r.4)

pub labelled-ends : (context : Context) (name : Option Spot) (inner whole : Body) → Labelled context name inner whole →
    Ends inner → Ends whole
labelled-ends context name inner whole (without none same) ends = subst Ends (sym same) ends
labelled-ends context name inner whole (opened word l named found same) ends = subst Ends (sym same) ends

behind-ends : (h : Head) (rest : Body) → Ends rest → Ends (before h rest)
behind-ends (acts action) rest ends = ends
behind-ends (asks question parts) rest ends = inr ends

-- what ends a transition, ends it
pub ending-ends : (context : Context) (ending : Ending) (whole : Body) → ending_in context (Some ending) ≡ Some whole →
    Ends whole
ending-ends context ending whole is =
    let last = option_map body.ending (terminator_in context ending.terminator) in
    let r = labelled-some context ending.label last whole is in
    let t = map-some body.ending (terminator_in context ending.terminator) r.0 r.1 in
    labelled-ends context ending.label r.0 whole r.2 (subst Ends (sym t.2) tt)

-- ---- paths from the first statement

-- where statements go on behind these, they end
abbrev EndsBehind : Option Body → Type 0
EndsBehind end = (e : Body) → end ≡ Some e → Ends e

other-ends : (o : Option Body) → EndsBehind o → AllEnd (parts_of [] o)
other-ends None ends = tt
other-ends (Some b) ends = ends b refl

no-other : (o : Option Body) → Some None ≡ Some o → (e : Body) → o ≡ Some e → Ends e
no-other None is e e_is = cc
no-other (Some b) is e e_is = cc

-- no path comes to what stands behind, or it ends
abbrev pub Stops : Bool → Option Body → Type 0
Stops passed end = (passed ≡ false) ⊎ EndsBehind end

module _ (context : Context) (enters : Spot → Bool) where
  -- where a path goes on behind the step, what stands behind it ends, and else the step does
  step-ends : (h : Head) (behind : Body) (rest : Actions) (end : Option Body) (passed now : Bool) → passed ≡ now →
      Stops (actions_passed enters rest passed) end → (Stops (actions_passed enters rest true) end → Ends behind) →
      (passed ≡ false → Ends (before h behind)) → Ends (before h behind)
  step-ends h behind rest end passed true same stops by_rest by_head =
      behind-ends h behind (by_rest (subst (λ (b : Bool). Stops (actions_passed enters rest b) end) same stops))
  step-ends h behind rest end passed false same stops by_rest by_head = by_head same

  mutual
    pub transition-ends : (t : Transition) (whole : Body) → body_in context t ≡ Some whole →
        transition_passed enters t true ≡ false → Ends whole
    transition-ends (Steps actions None) whole is stops =
        steps-end actions (Some body.nothing) whole is (inl stops)
    transition-ends (Steps actions (Some ending)) whole is stops =
        steps-end actions (ending_in context (Some ending)) whole is (inr (ending-ends context ending))

    pub steps-end : (actions : Actions) (end : Option Body) (whole : Body) → steps_in context actions end ≡ Some whole →
        Stops (actions_passed enters actions true) end → Ends whole
    steps-end NoAction end whole is (inl stops) = cc
    steps-end NoAction end whole is (inr ends) = ends whole is
    steps-end (AndAction name first rest) end whole is stops =
        let r = labelled-some context name (both before (head_in context first) (steps_in context rest end)) whole is in
        let s = both-some before (head_in context first) (steps_in context rest end) r.0 r.1 in
        labelled-ends context name r.0 whole r.2 (subst Ends (sym s.4)
        (step-ends s.0 s.1 rest end (action_passed enters first true) (action_passed enters first true) refl stops
        (λ stops_behind. steps-end rest end s.1 s.3 stops_behind)
        (λ stops_here. head-ends first s.0 s.1 s.2 stops_here)))

    head-ends : (first : Action) (h : Head) (behind : Body) → head_in context first ≡ Some h →
        action_passed enters first true ≡ false → Ends (before h behind)
    head-ends (Task word assignments) h behind is stops = cc
    head-ends (Output word outputs destination) h behind is stops = cc
    head-ends (Set word clauses) h behind is stops = cc
    head-ends (Reset word groups) h behind is stops = cc
    head-ends (Create word process) h behind is stops = cc
    head-ends (Decision word question parts other) h behind is stops =
        let typed = asked_in context question in
        let pieces = pieces_in context (kind_in typed) parts in
        let r = both-some asks (term_in typed) (both parts_of pieces (other_in context other)) h is in
        let s = both-some parts_of pieces (other_in context other) r.1 r.3 in
        let no = or-false (parts_passed enters parts true) (otherwise_passed enters other true) stops in
        subst (λ (x : Head). Ends (before x behind)) (sym (r.4 ∙ ap (asks r.0) s.4))
        (inl (parts-end (kind_in typed) parts s.0 s.1 s.2 no.0 (otherwise-ends other s.1 s.3 no.1)))

    parts-end : (kind : Option OperandSort) (parts : Parts) (pieces : List Piece) (other : Option Body) →
        pieces_in context kind parts ≡ Some pieces → parts_passed enters parts true ≡ false → EndsBehind other →
        AllEnd (parts_of pieces other)
    parts-end kind NoPart pieces other is stops ends =
        subst (λ list. AllEnd (parts_of list other)) (some-same [] pieces is) (other-ends other ends)
    parts-end kind (AndPart answers t rest) pieces other is stops ends =
        let r = both-some ◌∷◌ (both piece (answers_in context kind answers) (body_in context t))
        (pieces_in context kind rest) pieces is in
        let s = both-some piece (answers_in context kind answers) (body_in context t) r.0 r.2 in
        let no = or-false (transition_passed enters t true) (parts_passed enters rest true) stops in
        subst (λ list. AllEnd (parts_of list other)) (sym (r.4 ∙ ap (λ x. x ∷ r.1) s.4))
        (transition-ends t s.1 s.3 no.0, parts-end kind rest r.1 other r.3 no.1 ends)

    otherwise-ends : (other : Otherwise) (o : Option Body) → other_in context other ≡ Some o →
        otherwise_passed enters other true ≡ false → EndsBehind o
    otherwise-ends NoElse o is stops = λ e e_is. no-other o is e e_is
    otherwise-ends (Else t) o is stops = λ e e_is.
        let r = map-some Some (body_in context t) o is in
        let same : r.0 ≡ e = some-same r.0 e (sym r.2 ∙ e_is) in
        subst Ends same (transition-ends t r.0 r.1 stops)

  pub step-end : (first : Action) (rest : Actions) (end : Option Body) (h : Head) (behind : Body) →
      head_in context first ≡ Some h → steps_in context rest end ≡ Some behind →
      Stops (actions_passed enters rest (action_passed enters first true)) end → Ends (before h behind)
  step-end first rest end h behind is rest_is stops =
      step-ends h behind rest end (action_passed enters first true) (action_passed enters first true) refl stops
      (λ stops_behind. steps-end rest end behind rest_is stops_behind)
      (λ stops_here. head-ends first h behind is stops_here)

-- ---- paths from a label

-- where a label stands in a body, and what stands from it on
abbrev pub Standing : LabelId → Body → Body → Type 0
Standing l body.nothing on = ⊥
Standing l (body.action first rest) on = FromLabel l rest on
Standing l (body.decision question parts rest) on =
    FromLabel l rest on ⊎ ((inner : Body) × InParts l parts inner × (on ≡ followed inner rest))
Standing l (body.label number rest) on = ((number ≡ l) × (on ≡ rest)) ⊎ FromLabel l rest on
Standing l (body.ending terminator) on = ⊥

pub standing : (l : LabelId) (b on : Body) → FromLabel l b on → Standing l b on
standing l _ _ (here rest) = inl (refl, refl)
standing l _ _ (past_action first rest on from) = from
standing l _ _ (past_label number rest on from) = inr from
standing l _ _ (past_decision question parts rest on from) = inl from
standing l _ _ (within question parts rest inner from) = inr (inner, from, refl)

abbrev InPart : LabelId → body.Parts → Body → Type 0
InPart l body.no_part on = ⊥
InPart l (body.otherwise b) on = FromLabel l b on
InPart l (body.part answers b rest) on = FromLabel l b on ⊎ InParts l rest on

in-part : (l : LabelId) (parts : body.Parts) (on : Body) → InParts l parts on → InPart l parts on
in-part l _ _ (in_otherwise b on from) = from
in-part l _ _ (in_first answers b rest on from) = inl from
in-part l _ _ (in_later answers b rest on from) = inr from

-- what stands from the label on ends
abbrev Onward : LabelId → Body → Type 0
Onward l b = (on : Body) → FromLabel l b on → Ends on

last-onward : (context : Context) (name : Option Spot) (l : LabelId) (inner whole : Body)
    (terminator : body.Terminator) → inner ≡ body.ending terminator → Labelled context name inner whole → Onward l whole
last-onward context name l inner whole terminator is (without none same) = λ on from.
    absurd (standing l (body.ending terminator) on (subst (λ (b : Body). FromLabel l b on) (same ∙ is) from))
last-onward context name l inner whole terminator is (opened word n named found same) = λ on from.
    elim (standing l (body.label n (body.ending terminator)) on
    (subst (λ (b : Body). FromLabel l b on) (same ∙ ap (body.label n) is) from)) [
      | inl e ↦ subst Ends (sym e.1) tt
      | inr later ↦ absurd (standing l (body.ending terminator) on later)
    ]

ending-onward : (context : Context) (l : LabelId) (ending : Ending) (whole : Body) →
    ending_in context (Some ending) ≡ Some whole → Onward l whole
ending-onward context l ending whole is =
    let last = option_map body.ending (terminator_in context ending.terminator) in
    let r = labelled-some context ending.label last whole is in
    let t = map-some body.ending (terminator_in context ending.terminator) r.0 r.1 in
    last-onward context ending.label l r.0 whole t.0 t.2 r.2

no-asking : {A : Type 0} (question : Term) (parts : body.Parts) (action : body.Action) →
    asks question parts ≡ acts action → A
no-asking question parts action is = cc

asked-parts : (q r : Term) (one other : body.Parts) → asks q one ≡ asks r other → one ≡ other
asked-parts q r one other is = cc

module _ (context : Context) (enters : Spot → Bool) (l : LabelId)
    (entered : (label : Spot) → label_in context label.text ≡ Some l → enters label ≡ true) where
  abbrev HeadOnward : Action → Bool → Head → Type 0
  HeadOnward first comes h =
      (question : Term) (among : body.Parts) → h ≡ asks question among → (inner : Body) → InParts l among inner →
      Ends inner ⊎ (action_passed enters first comes ≡ true)

  step-onward : (first : Action) (rest : Actions) (end : Option Body) (comes : Bool) (h : Head) (after : Body) →
      steps_in context rest end ≡ Some after →
      Stops (actions_passed enters rest (action_passed enters first comes)) end → Onward l after →
      HeadOnward first comes h → Onward l (before h after)
  step-onward first rest end comes (acts action) after rest_is stops by_rest by_head = λ on from.
      by_rest on (standing l (body.action action after) on from)
  step-onward first rest end comes (asks question parts) after rest_is stops by_rest by_head = λ on from.
      elim (standing l (body.decision question parts after) on from) [
        | inl later ↦ by_rest on later
        | inr inner ↦ elim (by_head question parts refl inner.0 inner.1) [
          | inl ends ↦ subst Ends (sym inner.2) (Ends-first inner.0 after ends)
          | inr passed ↦ subst Ends (sym inner.2) (Ends-second inner.0 after
              (steps-end context enters rest end after rest_is
              (subst (λ (b : Bool). Stops (actions_passed enters rest b) end) passed stops)))
        ]
      ]

  named-onward : (name : Option Spot) (first : Action) (rest : Actions) (end : Option Body) (comes : Bool) (h : Head)
      (after : Body) → head_in context first ≡ Some h → steps_in context rest end ≡ Some after →
      Stops (actions_passed enters rest (action_passed enters first (comes || is_entered enters name))) end →
      Onward l after → HeadOnward first (comes || is_entered enters name) h → (whole : Body) →
      Labelled context name (before h after) whole → Onward l whole
  named-onward name first rest end comes h after is rest_is stops by_rest by_head whole (without none same) = λ on from.
      step-onward first rest end (comes || is_entered enters name) h after rest_is stops by_rest by_head on
      (subst (λ (b : Body). FromLabel l b on) same from)
  named-onward name first rest end comes h after is rest_is stops by_rest by_head whole
      (opened word n called found same) =
      λ on from.
      elim (standing l (body.label n (before h after)) on (subst (λ (b : Body). FromLabel l b on) same from)) [
        | inl e ↦
            let enter : is_entered enters name ≡ true =
            ap (is_entered enters) called ∙ entered word (found ∙ ap (λ (k : LabelId). Some k) e.0) in
            let come : (comes || is_entered enters name) ≡ true = or-right comes (is_entered enters name) enter in
            subst Ends (sym e.1)
            (step-end context enters first rest end h after is rest_is
            (subst (λ (b : Bool). Stops (actions_passed enters rest (action_passed enters first b)) end) come stops))
        | inr later ↦
            step-onward first rest end (comes || is_entered enters name) h after rest_is stops by_rest by_head on later
      ]

  part-onward : (whole inner : Body) (passed now : Bool) → passed ≡ now → (passed ≡ false → Onward l whole) →
      FromLabel l whole inner → Ends inner ⊎ (passed ≡ true)
  part-onward whole inner passed true same by from = inr same
  part-onward whole inner passed false same by from = inl (by same inner from)

  mutual
    pub transition-onward : (t : Transition) (comes : Bool) (whole : Body) → body_in context t ≡ Some whole →
        transition_passed enters t comes ≡ false → Onward l whole
    transition-onward (Steps actions None) comes whole is stops =
        steps-onward actions (Some body.nothing) comes whole is (inl stops)
        (λ e same on from. absurd (standing l body.nothing on
        (subst (λ (b : Body). FromLabel l b on) (sym (some-same body.nothing e same)) from)))
    transition-onward (Steps actions (Some ending)) comes whole is stops =
        steps-onward actions (ending_in context (Some ending)) comes whole is (inr (ending-ends context ending))
        (λ e same. ending-onward context l ending e same)

    steps-onward : (actions : Actions) (end : Option Body) (comes : Bool) (whole : Body) →
        steps_in context actions end ≡ Some whole → Stops (actions_passed enters actions comes) end →
        ((e : Body) → end ≡ Some e → Onward l e) → Onward l whole
    steps-onward NoAction end comes whole is stops behind = behind whole is
    steps-onward (AndAction name first rest) end comes whole is stops behind =
        let r = labelled-some context name (both before (head_in context first) (steps_in context rest end)) whole is in
        let s = both-some before (head_in context first) (steps_in context rest end) r.0 r.1 in
        let come = comes || is_entered enters name in
        named-onward name first rest end comes s.0 s.1 s.2 s.3 stops
        (steps-onward rest end (action_passed enters first come) s.1 s.3 stops behind)
        (λ question among same. head-onward first come question among (s.2 ∙ ap (λ (x : Head). Some x) same)) whole
        (subst (λ (b : Body). Labelled context name b whole) s.4 r.2)

    -- what stands from a label in a part on ends, or a path goes on behind the decision
    head-onward : (first : Action) (comes : Bool) (question : Term) (among : body.Parts) →
        head_in context first ≡ Some (asks question among) → (inner : Body) → InParts l among inner →
        Ends inner ⊎ (action_passed enters first comes ≡ true)
    head-onward (Task word assignments) comes question among is inner at =
        let r = map-some acts (task_in context assignments) (asks question among) is in no-asking question among r.0 r.2
    head-onward (Output word outputs destination) comes question among is inner at =
        let r = map-some acts (output_in context outputs destination) (asks question among) is in
        no-asking question among r.0 r.2
    head-onward (Set word clauses) comes question among is inner at =
        let r = map-some acts (set_in context clauses) (asks question among) is in no-asking question among r.0 r.2
    head-onward (Reset word groups) comes question among is inner at =
        let r = map-some acts (reset_in context groups) (asks question among) is in no-asking question among r.0 r.2
    head-onward (Create word process) comes question among is inner at =
        let r = map-some acts (create_in context process) (asks question among) is in no-asking question among r.0 r.2
    head-onward (Decision word asked parts other) comes question among is inner at =
        let typed = asked_in context asked in
        let pieces = pieces_in context (kind_in typed) parts in
        let all = both parts_of pieces (other_in context other) in
        let r = both-some asks (term_in typed) all (asks question among) is in
        let s = both-some parts_of pieces (other_in context other) r.1 r.3 in
        let same : among ≡ parts_of s.0 s.1 = asked-parts question r.0 among r.1 r.4 ∙ s.4 in
        parts-onward (kind_in typed) parts comes s.0 s.1 s.2 (otherwise_passed enters other comes)
        (other-onward other comes s.1 s.3) inner (subst (λ (ps : body.Parts). InParts l ps inner) same at)

    parts-onward : (kind : Option OperandSort) (parts : Parts) (comes : Bool) (pieces : List Piece) (o : Option Body) →
        pieces_in context kind parts ≡ Some pieces → (passed : Bool) →
        ((inner : Body) → InParts l (parts_of [] o) inner → Ends inner ⊎ (passed ≡ true)) → (inner : Body) →
        InParts l (parts_of pieces o) inner → Ends inner ⊎ ((parts_passed enters parts comes || passed) ≡ true)
    parts-onward kind NoPart comes pieces o is passed by_other inner at =
        by_other inner (subst (λ list. InParts l (parts_of list o) inner) (sym (some-same [] pieces is)) at)
    parts-onward kind (AndPart answers t rest) comes pieces o is passed by_other inner at =
        let r = both-some ◌∷◌ (both piece (answers_in context kind answers) (body_in context t))
        (pieces_in context kind rest) pieces is in
        let s = both-some piece (answers_in context kind answers) (body_in context t) r.0 r.2 in
        let same : pieces ≡ piece s.0 s.1 ∷ r.1 = r.4 ∙ ap (λ x. x ∷ r.1) s.4 in
        let first_passed = transition_passed enters t comes in
        let rest_passed = parts_passed enters rest comes in
        elim (in-part l (parts_of (piece s.0 s.1 ∷ r.1) o) inner
        (subst (λ list. InParts l (parts_of list o) inner) same at)) [
          | inl first ↦ elim (part-onward s.1 inner first_passed first_passed refl
              (λ stops. transition-onward t comes s.1 s.3 stops) first) [
                | inl ends ↦ inl ends
                | inr is_passed ↦ inr (or-left (first_passed || rest_passed) passed
                    (or-left first_passed rest_passed is_passed))
              ]
          | inr later ↦ elim (parts-onward kind rest comes r.1 o r.3 passed by_other inner later) [
            | inl ends ↦ inl ends
            | inr is_passed ↦ inr (or-later first_passed rest_passed passed is_passed)
          ]
        ]

    other-onward : (other : Otherwise) (comes : Bool) (o : Option Body) → other_in context other ≡ Some o →
        (inner : Body) → InParts l (parts_of [] o) inner → Ends inner ⊎ (otherwise_passed enters other comes ≡ true)
    other-onward NoElse comes o is inner at =
        absurd (in-part l body.no_part inner
        (subst (λ x. InParts l (parts_of [] x) inner) (sym (some-same None o is)) at))
    other-onward (Else t) comes o is inner at =
        let r = map-some Some (body_in context t) o is in
        let passed = transition_passed enters t comes in
        part-onward r.0 inner passed passed refl (λ stops. transition-onward t comes r.0 r.1 stops)
        (in-part l (body.otherwise r.0) inner (subst (λ x. InParts l (parts_of [] x) inner) r.2 at))
