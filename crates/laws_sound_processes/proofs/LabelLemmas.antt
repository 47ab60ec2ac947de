-- Each path from a label of a body is one from a label of the transition.
use Rattle.std.proofs.Common.{◌≡◌, ◌∙◌, ◌⊎◌, ◌++◌, inl, inr, List, [], ◌∷◌, Option, None, Some, option_map, refl, ap, sym, subst}
use Rattle.build_process.proofs.EndLemmas.{both-some, map-some, some-same, standing}
use Rattle.build_flow.specs.Mentions as mention
use Rattle.build_flow.specs.Mentions.{action_mentions, actions_mentions, ending_mentions, label_mentions, otherwise_mentions, parts_mentions, terminator_mentions, transition_mentions}
use Rattle.build_flow.specs.Paths as way
use Rattle.build_flow.specs.Paths.{Answered, AtFirst, AtLabel}
use Rattle.build_statements.specs.Contexts.{Context, label_in}
use Rattle.build_statements.specs.Statements.{answers_in, asked_in, create_in, kind_in, output_in, reset_in, set_in, task_in, terminator_in}
use Rattle.build_statements.specs.Transitions.{Head, Piece, acts, asks, before, body_in, ending_in, head_in, labelled, other_in, parts_of, piece, pieces_in, steps_in}
use Rattle.build_names.proofs.FaultLemmas.{in-left, in-right}
use Rattle.build_names.specs.FaultLaws.{In}
use Rattle.build_expressions.specs.Partial.{both}
use Rattle.build_expressions.specs.Typing.{term_in}
use Rattle.build_expressions.specs.declared.operand_sort.OperandSort.{OperandSort}
use Rattle.laws_sound_processes.proofs.MeetLemmas.{Leaves, LeavesBehind, LeavesPart, closed, meeting, meets-head, meets-steps, step-left, through-part}
use Rattle.laws_sound_runs.specs.Paths.{Meets}
use Rattle.sdl_system.proofs.BodyLemmas.{followed-assoc}
use Rattle.sdl_system.specs.Body as body
use Rattle.sdl_system.specs.Body.{Body, FromLabel, InParts, followed, in_first, in_later, in_otherwise}
use Rattle.sdl_system.specs.declared.id.LabelId.{LabelId}
use Rattle.sdl_tree.specs.Tree as tree
use Rattle.sdl_tree.specs.Tree.{Transition, Actions, Action, Parts, Otherwise, Ending, Steps, NoAction, AndAction, Task, Output, Set, Reset, Create, Decision, NoPart, AndPart, NoElse, Else}
use Rattle.sdl_tree.specs.Words.{Spot}
use Rattle.sdl_tree.specs.declared.name.Spelling.{Spelling}

-- what stands from a label on in one of these parts
abbrev PartFrom : LabelId → body.Parts → Body → Type 0
PartFrom l body.no_part on = ⊥
PartFrom l (body.otherwise b) on = FromLabel l b on
PartFrom l (body.part answers b rest) on = FromLabel l b on ⊎ InParts l rest on

part-from : (l : LabelId) (parts : body.Parts) (on : Body) → InParts l parts on → PartFrom l parts on
part-from l _ _ (in_otherwise b on from) = from
part-from l _ _ (in_first answers b rest on from) = inl from
part-from l _ _ (in_later answers b rest on from) = inr from

-- ---- of the text

-- it stands from this word on in the transition
pub record FromTransition (context : Context) (l : LabelId) (on : Body) (t : Transition) : Type 0 where
  pub word : Spot
  pub is : label_in context word.text ≡ Some l
  pub among : In (mention.Standing word) (transition_mentions t)
  pub leaves : (x : body.Terminator) (rest : Body) → Meets x (followed on rest)
      → Leaves context x (AtLabel word) t rest

record FromActions (context : Context) (l : LabelId) (on : Body) (actions : Actions) (end : Option Body) : Type 0 where
  word : Spot
  is : label_in context word.text ≡ Some l
  among : In (mention.Standing word) (actions_mentions actions)
  leaves : (x : body.Terminator) (rest : Body) → Meets x (followed on rest)
      → LeavesBehind context x (AtLabel word) actions end rest

record FromPart (context : Context) (l : LabelId) (on : Body) (first : Action) (behind : Body) : Type 0 where
  word : Spot
  is : label_in context word.text ≡ Some l
  among : In (mention.Standing word) (action_mentions first)
  leaves : (x : body.Terminator) (rest : Body) → Meets x (followed on rest)
      → LeavesPart context x (AtLabel word) first (followed behind rest)

record FromAnswered (context : Context) (l : LabelId) (on : Body) (parts : Parts) : Type 0 where
  t : Transition
  answered : Answered t parts
  word : Spot
  is : label_in context word.text ≡ Some l
  among : In (mention.Standing word) (parts_mentions parts)
  leaves : (x : body.Terminator) (rest : Body) → Meets x (followed on rest)
      → Leaves context x (AtLabel word) t rest

-- or it stands in what ends the transition
record FromLast (l : LabelId) (on : Body) (end : Option Body) : Type 0 where
  last : Body
  is : end ≡ Some last
  from : FromLabel l last on

module _ (context : Context) (l : LabelId) where
  -- ---- what ends a transition

  -- no label stands in a terminator
  none-in : (ending : Ending) (inner on : Body) →
      option_map body.ending (terminator_in context ending.terminator) ≡ Some inner → FromLabel l inner on → ⊥
  none-in ending inner on is from =
      let t = map-some body.ending (terminator_in context ending.terminator) inner is in
      standing l (body.ending t.0) on (subst (λ (b : Body). FromLabel l b on) t.2 from)

  -- behind the label of a terminator stands the terminator
  last-leaves : (actions : Actions) (ending : Ending) (word : Spot) (inner on : Body) → ending.label ≡ Some word →
      option_map body.ending (terminator_in context ending.terminator) ≡ Some inner → on ≡ inner →
      (x : body.Terminator) (rest : Body) → Meets x (followed on rest) →
      Leaves context x (AtLabel word) (Steps actions (Some ending)) rest
  last-leaves actions ending word inner on same is on_is x rest meets =
      let t = map-some body.ending (terminator_in context ending.terminator) inner is in
      let x_is : x ≡ t.0 = meeting x (followed (body.ending t.0) rest)
      (subst (λ (b : Body). Meets x (followed b rest)) (on_is ∙ t.2) meets) in
      inl (record {
        term = ending.terminator;
        is = t.1 ∙ ap (λ (y : body.Terminator). Some y) (sym x_is);
        comes = way.at_label word actions ending same refl;
      })

  last-label : (actions : Actions) (ending : Ending) (name : Option Spot) (whole on : Body) → ending.label ≡ name →
      labelled context name (option_map body.ending (terminator_in context ending.terminator)) ≡ Some whole →
      FromLabel l whole on → FromTransition context l on (Steps actions (Some ending))
  last-label actions ending None whole on same is from = absurd (none-in ending whole on is from)
  last-label actions ending (Some word) whole on same is from =
      let r = both-some body.label (label_in context word.text)
      (option_map body.ending (terminator_in context ending.terminator)) whole is in
      elim (standing l (body.label r.0 r.1) on (subst (λ (b : Body). FromLabel l b on) r.4 from)) [
        | inl e ↦ record {
          word = word;
          is = r.2 ∙ ap (λ (n : LabelId). Some n) e.0;
          among = in-right (mention.Standing word) (actions_mentions actions) (ending_mentions (Some ending))
              (subst (λ (o : Option Spot).
              In (mention.Standing word) (label_mentions o ++ terminator_mentions ending.terminator)) (sym same)
              (inl refl));
          leaves = last-leaves actions ending word r.1 on same r.3 e.1;
        }
        | inr later ↦ absurd (none-in ending r.1 on r.3 later)
      ]

  from-last : (actions : Actions) (ending : Option Ending) (on : Body) → FromLast l on (ending_in context ending) →
      FromTransition context l on (Steps actions ending)
  from-last actions None on f =
      let same : body.nothing ≡ f.last = some-same body.nothing f.last f.is in
      absurd (standing l body.nothing on (subst (λ (b : Body). FromLabel l b on) (sym same) f.from))
  from-last actions (Some ending) on f =
      last-label actions ending ending.label f.last on refl f.is f.from

  -- ---- behind the first action

  abbrev Found : Body → Actions → Option Body → Type 0
  Found on actions end = FromActions context l on actions end ⊎ FromLast l on end

  -- from the label of the first action on
  at-here : (word : Spot) (first : Action) (more : Actions) (end : Option Body) (x : body.Terminator) (rest : Body) →
      LeavesBehind context x AtFirst (AndAction (Some word) first more) end rest →
      LeavesBehind context x (AtLabel word) (AndAction (Some word) first more) end rest
  at-here word first more end x rest (inl into) =
      inl (record { term = into.term; is = into.is; comes = way.here word first more into.comes })
  at-here word first more end x rest (inr goes) = inr (way.from_here word first more goes.0, goes.1)

  at-later : (word : Spot) (name : Option Spot) (first : Action) (more : Actions) (end : Option Body)
      (x : body.Terminator) (rest : Body) → LeavesBehind context x (AtLabel word) more end rest →
      LeavesBehind context x (AtLabel word) (AndAction name first more) end rest
  at-later word name first more end x rest (inl into) =
      inl (record { term = into.term; is = into.is; comes = way.afterwards word name first more into.comes })
  at-later word name first more end x rest (inr goes) = inr (way.from_later word name first more goes.0, goes.1)

  -- a label that stands behind the first action
  behind-found : (name : Option Spot) (first : Action) (more : Actions) (end : Option Body) (on : Body) →
      Found on more end → Found on (AndAction name first more) end
  behind-found name first more end on (inl f) = inl (record {
    word = f.word;
    is = f.is;
    among = in-right (mention.Standing f.word) (label_mentions name ++ action_mentions first) (actions_mentions more)
        f.among;
    leaves = λ x rest meets. at-later f.word name first more end x rest (f.leaves x rest meets);
  })
  behind-found name first more end on (inr f) = inr f

  -- a label that stands in a part of the first action
  part-found : (name : Option Spot) (first : Action) (more : Actions) (end : Option Body) (behind on : Body) →
      steps_in context more end ≡ Some behind → FromPart context l on first behind →
      Found on (AndAction name first more) end
  part-found name first more end behind on is f = inl (record {
    word = f.word;
    is = f.is;
    among = in-left (mention.Standing f.word) (label_mentions name ++ action_mentions first) (actions_mentions more)
        (in-right (mention.Standing f.word) (label_mentions name) (action_mentions first) f.among);
    leaves = λ x rest meets. through-part context x name first more end rest (followed behind rest) (AtLabel f.word)
        (f.leaves x rest meets) (λ later. meets-steps context x more end behind rest is later);
  })

  -- a label that stands before the first action
  here-found : (word : Spot) (first : Action) (more : Actions) (end : Option Body) (h : Head) (inner behind on : Body) →
      label_in context word.text ≡ Some l → head_in context first ≡ Some h → steps_in context more end ≡ Some behind →
      inner ≡ before h behind → on ≡ inner → Found on (AndAction (Some word) first more) end
  here-found word first more end h inner behind on found is more_is inner_is on_is = inl (record {
    word = word;
    is = found;
    among = inl refl;
    leaves = λ x rest meets. at-here word first more end x rest
        (step-left context x (Some word) first more end behind rest
        (meets-head context x first h behind rest is
        (subst (λ (b : Body). Meets x (followed b rest)) (on_is ∙ inner_is) meets))
        (λ later. meets-steps context x more end behind rest more_is later));
  })

  inner-found : (name : Option Spot) (first : Action) (more : Actions) (end : Option Body) (behind on : Body) →
      steps_in context more end ≡ Some behind → FromLabel l behind on ⊎ FromPart context l on first behind →
      (FromLabel l behind on → Found on more end) → Found on (AndAction name first more) end
  inner-found name first more end behind on is (inl later) by_more =
      behind-found name first more end on (by_more later)
  inner-found name first more end behind on is (inr part) by_more =
      part-found name first more end behind on is part

  -- a label in the body of the first action, with what stands behind it
  simple-found : (first : Action) (h : Head) (behind on : Body) (action : body.Action) → h ≡ acts action →
      FromLabel l (before h behind) on → FromLabel l behind on ⊎ FromPart context l on first behind
  simple-found first h behind on action is from =
      inl (standing l (body.action action behind) on
      (subst (λ (h : Head). FromLabel l (before h behind) on) is from))

  answered-found : (word : Spelling) (question : tree.Expr) (parts : Parts) (other : Otherwise)
      (on inner behind : Body) →
      on ≡ followed inner behind → FromAnswered context l inner parts →
      FromPart context l on (Decision word question parts other) behind
  answered-found word question parts other on inner behind is f = record {
    word = f.word;
    is = f.is;
    among = in-left (mention.Standing f.word) (parts_mentions parts) (otherwise_mentions other) f.among;
    leaves = λ x rest meets. record {
      t = f.t;
      part = way.answered word question parts other f.answered;
      leaves = f.leaves x (followed behind rest) (subst (Meets x) (followed-assoc inner behind rest)
          (subst (λ (b : Body). Meets x (followed b rest)) is meets));
    };
  }

  else-found : (word : Spelling) (question : tree.Expr) (parts : Parts) (t : Transition) (on inner behind : Body) →
      on ≡ followed inner behind → FromTransition context l inner t →
      FromPart context l on (Decision word question parts (Else t)) behind
  else-found word question parts t on inner behind is f = record {
    word = f.word;
    is = f.is;
    among = in-right (mention.Standing f.word) (parts_mentions parts) (transition_mentions t) f.among;
    leaves = λ x rest meets. record {
      t = t;
      part = way.other_answer word question parts;
      leaves = f.leaves x (followed behind rest) (subst (Meets x) (followed-assoc inner behind rest)
          (subst (λ (b : Body). Meets x (followed b rest)) is meets));
    };
  }

  later-found : (answers : List tree.Answer) (t : Transition) (more : Parts) (inner : Body) (o : Option Body) →
      FromAnswered context l inner more ⊎ FromLast l inner o →
      FromAnswered context l inner (AndPart answers t more) ⊎ FromLast l inner o
  later-found answers t more inner o (inl f) = inl (record {
    t = f.t;
    answered = way.later answers t more f.answered;
    word = f.word;
    is = f.is;
    among = in-right (mention.Standing f.word) (transition_mentions t) (parts_mentions more) f.among;
    leaves = f.leaves;
  })
  later-found answers t more inner o (inr f) = inr f

  this-found : (answers : List tree.Answer) (t : Transition) (more : Parts) (inner : Body) →
      FromTransition context l inner t → FromAnswered context l inner (AndPart answers t more)
  this-found answers t more inner f = record {
    t = t;
    answered = way.this answers more;
    word = f.word;
    is = f.is;
    among = in-left (mention.Standing f.word) (transition_mentions t) (parts_mentions more) f.among;
    leaves = f.leaves;
  }

  other-found : (o : Option Body) (inner : Body) → InParts l (parts_of [] o) inner → FromLast l inner o
  other-found None inner at = absurd (part-from l body.no_part inner at)
  other-found (Some b) inner at = record { last = b; is = refl; from = part-from l (body.otherwise b) inner at }

  steps-closed : (actions : Actions) (ending : Option Ending) (on : Body) →
      Found on actions (ending_in context ending) → FromTransition context l on (Steps actions ending)
  steps-closed actions ending on (inl f) = record {
    word = f.word;
    is = f.is;
    among = in-left (mention.Standing f.word) (actions_mentions actions) (ending_mentions ending) f.among;
    leaves = λ x rest meets. closed context x actions ending (AtLabel f.word) rest (f.leaves x rest meets);
  }
  steps-closed actions ending on (inr f) = from-last actions ending on f

  decision-found : (word : Spelling) (question : tree.Expr) (parts : Parts) (other : Otherwise) (on inner behind : Body)
      (o : Option Body) → on ≡ followed inner behind → FromAnswered context l inner parts ⊎ FromLast l inner o →
      (FromLast l inner o → FromPart context l on (Decision word question parts other) behind) →
      FromPart context l on (Decision word question parts other) behind
  decision-found word question parts other on inner behind o is (inl f) by_other =
      answered-found word question parts other on inner behind is f
  decision-found word question parts other on inner behind o is (inr f) by_other = by_other f

  mutual
    pub from-transition : (t : Transition) (b on : Body) → body_in context t ≡ Some b → FromLabel l b on →
        FromTransition context l on t
    from-transition (Steps actions ending) b on is from =
        steps-closed actions ending on (from-steps actions (ending_in context ending) b on is from)

    from-steps : (actions : Actions) (end : Option Body) (b on : Body) → steps_in context actions end ≡ Some b →
        FromLabel l b on → Found on actions end
    from-steps NoAction end b on is from = inr (record { last = b; is = is; from = from })
    from-steps (AndAction None first more) end b on is from =
        let s = both-some before (head_in context first) (steps_in context more end) b is in
        inner-found None first more end s.1 on s.3
        (from-head first s.0 s.1 on s.2 (subst (λ (y : Body). FromLabel l y on) s.4 from))
        (λ later. from-steps more end s.1 on s.3 later)
    from-steps (AndAction (Some word) first more) end b on is from =
        let r = both-some body.label (label_in context word.text)
        (both before (head_in context first) (steps_in context more end)) b is in
        let s = both-some before (head_in context first) (steps_in context more end) r.1 r.3 in
        elim (standing l (body.label r.0 r.1) on (subst (λ (y : Body). FromLabel l y on) r.4 from)) [
          | inl e ↦ here-found word first more end s.0 r.1 s.1 on (r.2 ∙ ap (λ (n : LabelId). Some n) e.0) s.2 s.3 s.4
              e.1
          | inr later ↦ inner-found (Some word) first more end s.1 on s.3
              (from-head first s.0 s.1 on s.2 (subst (λ (y : Body). FromLabel l y on) s.4 later))
              (λ behind. from-steps more end s.1 on s.3 behind)
        ]

    from-head : (first : Action) (h : Head) (behind on : Body) → head_in context first ≡ Some h →
        FromLabel l (before h behind) on → FromLabel l behind on ⊎ FromPart context l on first behind
    from-head (Task word assignments) h behind on is from =
        let r = map-some acts (task_in context assignments) h is in
        simple-found (Task word assignments) h behind on r.0 r.2 from
    from-head (Output word outputs destination) h behind on is from =
        let r = map-some acts (output_in context outputs destination) h is in
        simple-found (Output word outputs destination) h behind on r.0 r.2 from
    from-head (Set word clauses) h behind on is from =
        let r = map-some acts (set_in context clauses) h is in
        simple-found (Set word clauses) h behind on r.0 r.2 from
    from-head (Reset word groups) h behind on is from =
        let r = map-some acts (reset_in context groups) h is in
        simple-found (Reset word groups) h behind on r.0 r.2 from
    from-head (Create word process) h behind on is from =
        let r = map-some acts (create_in context process) h is in
        simple-found (Create word process) h behind on r.0 r.2 from
    from-head (Decision word question parts other) h behind on is from =
        let typed = asked_in context question in
        let pieces = pieces_in context (kind_in typed) parts in
        let r = both-some asks (term_in typed) (both parts_of pieces (other_in context other)) h is in
        let s = both-some parts_of pieces (other_in context other) r.1 r.3 in
        elim (standing l (body.decision r.0 (parts_of s.0 s.1) behind) on
        (subst (λ (y : Head). FromLabel l (before y behind) on) (r.4 ∙ ap (asks r.0) s.4) from)) [
          | inl later ↦ inl later
          | inr inner ↦ inr (decision-found word question parts other on inner.0 behind s.1 inner.2
              (from-parts (kind_in typed) parts s.0 s.1 inner.0 s.2 inner.1)
              (λ f. from-other word question parts other s.1 on inner.0 behind s.3 inner.2 f))
        ]

    from-parts : (kind : Option OperandSort) (parts : Parts) (pieces : List Piece) (o : Option Body) (inner : Body) →
        pieces_in context kind parts ≡ Some pieces → InParts l (parts_of pieces o) inner →
        FromAnswered context l inner parts ⊎ FromLast l inner o
    from-parts kind NoPart pieces o inner is at =
        inr (other-found o inner
        (subst (λ list. InParts l (parts_of list o) inner) (sym (some-same [] pieces is)) at))
    from-parts kind (AndPart answers t more) pieces o inner is at =
        let r = both-some ◌∷◌ (both piece (answers_in context kind answers) (body_in context t))
        (pieces_in context kind more) pieces is in
        let s = both-some piece (answers_in context kind answers) (body_in context t) r.0 r.2 in
        let same : pieces ≡ piece s.0 s.1 ∷ r.1 = r.4 ∙ ap (λ y. y ∷ r.1) s.4 in
        elim (part-from l (parts_of (piece s.0 s.1 ∷ r.1) o) inner
        (subst (λ list. InParts l (parts_of list o) inner) same at)) [
          | inl first ↦ inl (this-found answers t more inner (from-transition t s.1 inner s.3 first))
          | inr later ↦ later-found answers t more inner o (from-parts kind more r.1 o inner r.3 later)
        ]

    from-other : (word : Spelling) (question : tree.Expr) (parts : Parts) (other : Otherwise) (o : Option Body)
        (on inner behind : Body) → other_in context other ≡ Some o → on ≡ followed inner behind → FromLast l inner o →
        FromPart context l on (Decision word question parts other) behind
    from-other word question parts NoElse o on inner behind is on_is f =
        absurd (let none : None ≡ o = some-same None o is in
        let some : o ≡ Some f.last = f.is in let never : ⊥ = cc in never)
    from-other word question parts (Else t) o on inner behind is on_is f =
        let r = map-some Some (body_in context t) o is in
        let found : body_in context t ≡ Some f.last = r.1 ∙ sym r.2 ∙ f.is in
        else-found word question parts t on inner behind on_is (from-transition t f.last inner found f.from)
