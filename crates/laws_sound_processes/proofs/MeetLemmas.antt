-- Each path through the body of a transition is one through the transition.
use Rattle.std.proofs.Common.{◌≡◌, ◌∙◌, ◌⊎◌, inl, inr, List, [], ◌∷◌, Option, None, Some, option_map, refl, ap, sym, subst}
use Rattle.build_process.proofs.EndLemmas.{Labelled, both-some, labelled-some, map-some, opened, some-same, without}
use Rattle.build_flow.specs.Paths as way
use Rattle.build_flow.specs.Paths.{Answered, AtFirst, ComesInto, ComesTo, Crosses, GoesBehind, IsPart, IsSimple, Origin, RunsOff}
use Rattle.build_statements.specs.Contexts.{Context}
use Rattle.build_statements.specs.Statements.{answers_in, asked_in, create_in, kind_in, output_in, reset_in, set_in, task_in, terminator_in}
use Rattle.build_statements.specs.Transitions.{Head, Piece, acts, asks, before, body_in, ending_in, head_in, other_in, parts_of, piece, pieces_in, steps_in}
use Rattle.build_expressions.specs.Partial.{both}
use Rattle.build_expressions.specs.Typing.{term_in}
use Rattle.build_expressions.specs.declared.operand_sort.OperandSort.{OperandSort}
use Rattle.laws_sound_runs.specs.Paths.{IsPartOf, Meets, at_end, behind_action, behind_else, behind_label, by_part, first_part, later_part}
use Rattle.sdl_system.specs.Body as body
use Rattle.sdl_system.specs.Body.{Body, followed}
use Rattle.sdl_tree.specs.Tree as tree
use Rattle.sdl_tree.specs.Tree.{Transition, Actions, Action, Parts, Otherwise, Ending, Steps, NoAction, AndAction, Task, Output, Set, Reset, Create, Decision, NoPart, AndPart, NoElse, Else}
use Rattle.sdl_tree.specs.Words.{Spot}
use Rattle.sdl_tree.specs.declared.name.Spelling.{Spelling}

-- ---- what a path through a body is, by what stands first in it

-- the part stands among these, and a path goes through it
pub record Through (x : body.Terminator) (parts : body.Parts) (rest : Body) : Type 0 where
  pub one : Body
  pub part : IsPartOf one parts
  pub on : Meets x (followed one rest)

abbrev pub Meeting : body.Terminator → Body → Type 0
Meeting x body.nothing = ⊥
Meeting x (body.action first rest) = Meets x rest
Meeting x (body.decision question parts rest) = Through x parts rest
Meeting x (body.label number rest) = Meets x rest
Meeting x (body.ending terminator) = x ≡ terminator

pub meeting : (x : body.Terminator) (b : Body) → Meets x b → Meeting x b
meeting x _ at_end = refl
meeting x _ (behind_action first rest on) = on
meeting x _ (behind_label number rest on) = on
meeting x _ (by_part question parts rest one part on) = record { one = one; part = part; on = on }

abbrev pub PartAmong : Body → body.Parts → Type 0
PartAmong one body.no_part = ⊥
PartAmong one (body.otherwise b) = one ≡ b
PartAmong one (body.part answers b rest) = (one ≡ b) ⊎ IsPartOf one rest

pub part-among : (one : Body) (parts : body.Parts) → IsPartOf one parts → PartAmong one parts
part-among one _ behind_else = refl
part-among one _ (first_part answers rest) = inl refl
part-among one _ (later_part answers other rest part) = inr part

-- ---- of the text

-- a path from there comes to what the terminator is in the text
pub record Comes (context : Context) (x : body.Terminator) (from : Origin) (t : Transition) : Type 0 where
  pub term : tree.Terminator
  pub is : terminator_in context term ≡ Some x
  pub comes : ComesTo term from t

pub record Into (context : Context) (x : body.Terminator) (from : Origin) (actions : Actions) : Type 0 where
  pub term : tree.Terminator
  pub is : terminator_in context term ≡ Some x
  pub comes : ComesInto term from actions

-- it comes there in the transition, or runs off its end and comes there in what stands behind it
abbrev pub Leaves : Context → body.Terminator → Origin → Transition → Body → Type 0
Leaves context x from t rest = Comes context x from t ⊎ (RunsOff from t × Meets x rest)

-- what stands behind all actions of a transition is met
pub record MeetsLast (x : body.Terminator) (end : Option Body) (rest : Body) : Type 0 where
  pub last : Body
  pub is : end ≡ Some last
  pub on : Meets x (followed last rest)

abbrev pub LeavesBehind : Context → body.Terminator → Origin → Actions → Option Body → Body → Type 0
LeavesBehind context x from actions end rest =
    Into context x from actions ⊎ (GoesBehind from actions × MeetsLast x end rest)

-- a part of the action is left
pub record LeavesPart (context : Context) (x : body.Terminator) (from : Origin) (first : Action)
    (rest : Body) : Type 0 where
  pub t : Transition
  pub part : IsPart t first
  pub leaves : Leaves context x from t rest

pub record LeavesAnswered (context : Context) (x : body.Terminator) (from : Origin) (parts : Parts)
    (rest : Body) : Type 0 where
  pub t : Transition
  pub answered : Answered t parts
  pub leaves : Leaves context x from t rest

module _ (context : Context) (x : body.Terminator) where
  -- what stands behind the actions ends the transition
  pub last-left : (actions : Actions) (ending : Option Ending) (from : Origin) (rest : Body) → GoesBehind from actions →
      MeetsLast x (ending_in context ending) rest → Leaves context x from (Steps actions ending) rest
  last-left actions None from rest goes m =
      let same : body.nothing ≡ m.last = some-same body.nothing m.last m.is in
      inr (way.runs_off from actions goes, subst (λ (b : Body). Meets x (followed b rest)) (sym same) m.on)
  last-left actions (Some ending) from rest goes m =
      let end = option_map body.ending (terminator_in context ending.terminator) in
      let r = labelled-some context ending.label end m.last m.is in
      let t = map-some body.ending (terminator_in context ending.terminator) r.0 r.1 in
      let same : x ≡ t.0 = ended r.0 t.0 t.2 (unlabelled r.0 r.2) in
      inl (record {
        term = ending.terminator;
        is = t.1 ∙ ap (λ (y : body.Terminator). Some y) (sym same);
        comes = way.at_end from actions ending goes refl;
      })
    where
      unlabelled : (inner : Body) → Labelled context ending.label inner m.last → Meets x (followed inner rest)
      unlabelled inner (without none same) = subst (λ (b : Body). Meets x (followed b rest)) same m.on
      unlabelled inner (opened word n called found same) =
          meeting x (followed (body.label n inner) rest)
          (subst (λ (b : Body). Meets x (followed b rest)) same m.on)

      ended : (inner : Body) (terminator : body.Terminator) → inner ≡ body.ending terminator →
          Meets x (followed inner rest) → x ≡ terminator
      ended inner terminator same on =
          meeting x (followed (body.ending terminator) rest)
          (subst (λ (b : Body). Meets x (followed b rest)) same on)

  -- a path behind the first action
  pub behind-first : (label : Option Spot) (first : Action) (rest : Actions) (end : Option Body) (last : Body)
      (from : Origin) → Crosses from first → LeavesBehind context x AtFirst rest end last →
      LeavesBehind context x from (AndAction label first rest) end last
  behind-first label first rest end last from crosses (inl into) =
      inl (record { term = into.term; is = into.is; comes = way.behind from label first rest crosses into.comes })
  behind-first label first rest end last from crosses (inr goes) =
      inr (way.on from label first rest crosses goes.0, goes.1)

  -- a path through a part of the first action
  pub through-part : (label : Option Spot) (first : Action) (rest : Actions) (end : Option Body) (last behind : Body)
      (from : Origin) → LeavesPart context x from first behind →
      (Meets x behind → LeavesBehind context x AtFirst rest end last) →
      LeavesBehind context x from (AndAction label first rest) end last
  through-part label first rest end last behind from part by_rest = by-leaves part.leaves
    where
      by-leaves : Leaves context x from part.t behind →
          LeavesBehind context x from (AndAction label first rest) end last
      by-leaves (inl comes) =
          inl (record {
            term = comes.term;
            is = comes.is;
            comes = way.into from label first rest part.t part.part comes.comes;
          })
      by-leaves (inr runs) =
          behind-first label first rest end last from (way.through from first part.t part.part runs.0) (by_rest runs.1)

  pub closed : (actions : Actions) (ending : Option Ending) (from : Origin) (rest : Body) →
      LeavesBehind context x from actions (ending_in context ending) rest →
      Leaves context x from (Steps actions ending) rest
  closed actions ending from rest (inl into) =
      inl (record { term = into.term; is = into.is; comes = way.inside from actions ending into.comes })
  closed actions ending from rest (inr goes) = last-left actions ending from rest goes.0 goes.1

  -- what is met in a body with its label is met in the body
  unnamed : (name : Option Spot) (inner whole rest : Body) → Labelled context name inner whole →
      Meets x (followed whole rest) → Meets x (followed inner rest)
  unnamed name inner whole rest (without none same) on = subst (λ (b : Body). Meets x (followed b rest)) same on
  unnamed name inner whole rest (opened word n called found same) on =
      meeting x (followed (body.label n inner) rest) (subst (λ (b : Body). Meets x (followed b rest)) same on)

  -- a path over the first action, or through a part of it
  abbrev pub Crossing : Action → Body → Body → Type 0
  Crossing first behind rest =
      (Crosses AtFirst first × Meets x (followed behind rest))
      ⊎ LeavesPart context x AtFirst first (followed behind rest)

  simple-crossing : (first : Action) (h : Head) (behind rest : Body) (action : body.Action) → IsSimple first →
      h ≡ acts action → Meets x (followed (before h behind) rest) → Crossing first behind rest
  simple-crossing first h behind rest action simple is on =
      inl (
        way.simple first simple,
        meeting x (followed (body.action action behind) rest)
            (subst (λ (h : Head). Meets x (followed (before h behind) rest)) is on),
      )

  pub step-left : (name : Option Spot) (first : Action) (more : Actions) (end : Option Body) (behind rest : Body) →
      Crossing first behind rest → (Meets x (followed behind rest) → LeavesBehind context x AtFirst more end rest) →
      LeavesBehind context x AtFirst (AndAction name first more) end rest
  step-left name first more end behind rest (inl crosses) by_rest =
      behind-first name first more end rest AtFirst crosses.0 (by_rest crosses.1)
  step-left name first more end behind rest (inr part) by_rest =
      through-part name first more end rest (followed behind rest) AtFirst part by_rest

  last-part : (o : Option Body) (one : Body) → IsPartOf one (parts_of [] o) → o ≡ Some one
  last-part None one part = absurd (part-among one body.no_part part)
  last-part (Some b) one part = ap (λ (y : Body). Some y) (sym (part-among one (body.otherwise b) part))

  -- a part behind answers, or behind `else`
  decided : (word : Spelling) (question : tree.Expr) (parts : Parts) (other : Otherwise) (rest : Body) (o : Option Body)
      (one : Body) → LeavesAnswered context x AtFirst parts rest ⊎ (o ≡ Some one) →
      (o ≡ Some one → LeavesPart context x AtFirst (Decision word question parts other) rest) →
      LeavesPart context x AtFirst (Decision word question parts other) rest
  decided word question parts other rest o one (inl answered) by_other = record {
    t = answered.t;
    part = way.answered word question parts other answered.answered;
    leaves = answered.leaves;
  }
  decided word question parts other rest o one (inr is) by_other = by_other is

  later-answer : (answers : List tree.Answer) (t : Transition) (parts : Parts) (rest : Body) (o : Option Body)
      (one : Body) → LeavesAnswered context x AtFirst parts rest ⊎ (o ≡ Some one) →
      LeavesAnswered context x AtFirst (AndPart answers t parts) rest ⊎ (o ≡ Some one)
  later-answer answers t parts rest o one (inl answered) = inl (record {
    t = answered.t;
    answered = way.later answers t parts answered.answered;
    leaves = answered.leaves;
  })
  later-answer answers t parts rest o one (inr is) = inr is

  mutual
    pub meets-transition : (t : Transition) (b rest : Body) → body_in context t ≡ Some b → Meets x (followed b rest) →
        Leaves context x AtFirst t rest
    meets-transition (Steps actions ending) b rest is on =
        closed actions ending AtFirst rest (meets-steps actions (ending_in context ending) b rest is on)

    pub meets-steps : (actions : Actions) (end : Option Body) (b rest : Body) → steps_in context actions end ≡ Some b →
        Meets x (followed b rest) → LeavesBehind context x AtFirst actions end rest
    meets-steps NoAction end b rest is on = inr (way.nothing, record { last = b; is = is; on = on })
    meets-steps (AndAction name first more) end b rest is on =
        let r = labelled-some context name (both before (head_in context first) (steps_in context more end)) b is in
        let s = both-some before (head_in context first) (steps_in context more end) r.0 r.1 in
        let here = subst (λ (y : Body). Meets x (followed y rest)) s.4 (unnamed name r.0 b rest r.2 on) in
        step-left name first more end s.1 rest (meets-head first s.0 s.1 rest s.2 here)
        (λ later. meets-steps more end s.1 rest s.3 later)

    pub meets-head : (first : Action) (h : Head) (behind rest : Body) → head_in context first ≡ Some h →
        Meets x (followed (before h behind) rest) → Crossing first behind rest
    meets-head (Task word assignments) h behind rest is on =
        let r = map-some acts (task_in context assignments) h is in
        simple-crossing (Task word assignments) h behind rest r.0 (way.task word assignments) r.2 on
    meets-head (Output word outputs destination) h behind rest is on =
        let r = map-some acts (output_in context outputs destination) h is in
        simple-crossing (Output word outputs destination) h behind rest r.0 (way.output word outputs destination) r.2 on
    meets-head (Set word clauses) h behind rest is on =
        let r = map-some acts (set_in context clauses) h is in
        simple-crossing (Set word clauses) h behind rest r.0 (way.set word clauses) r.2 on
    meets-head (Reset word groups) h behind rest is on =
        let r = map-some acts (reset_in context groups) h is in
        simple-crossing (Reset word groups) h behind rest r.0 (way.reset word groups) r.2 on
    meets-head (Create word process) h behind rest is on =
        let r = map-some acts (create_in context process) h is in
        simple-crossing (Create word process) h behind rest r.0 (way.create word process) r.2 on
    meets-head (Decision word question parts other) h behind rest is on =
        let typed = asked_in context question in
        let pieces = pieces_in context (kind_in typed) parts in
        let r = both-some asks (term_in typed) (both parts_of pieces (other_in context other)) h is in
        let s = both-some parts_of pieces (other_in context other) r.1 r.3 in
        let through : Through x (parts_of s.0 s.1) (followed behind rest) =
        meeting x (followed (body.decision r.0 (parts_of s.0 s.1) behind) rest)
        (subst (λ (h : Head). Meets x (followed (before h behind) rest)) (r.4 ∙ ap (asks r.0) s.4) on) in
        inr (decided word question parts other (followed behind rest) s.1 through.one
        (meets-parts (kind_in typed) parts s.0 s.1 through.one (followed behind rest) s.2 through.part through.on)
        (λ same. meets-other word question parts other s.1 through.one (followed behind rest) s.3 same through.on))

    pub meets-parts : (kind : Option OperandSort) (parts : Parts) (pieces : List Piece) (o : Option Body)
        (one rest : Body) →
        pieces_in context kind parts ≡ Some pieces → IsPartOf one (parts_of pieces o) → Meets x (followed one rest) →
        LeavesAnswered context x AtFirst parts rest ⊎ (o ≡ Some one)
    meets-parts kind NoPart pieces o one rest is part on =
        inr (last-part o one (subst (λ list. IsPartOf one (parts_of list o)) (sym (some-same [] pieces is)) part))
    meets-parts kind (AndPart answers t more) pieces o one rest is part on =
        let r = both-some ◌∷◌ (both piece (answers_in context kind answers) (body_in context t))
        (pieces_in context kind more) pieces is in
        let s = both-some piece (answers_in context kind answers) (body_in context t) r.0 r.2 in
        let same : pieces ≡ piece s.0 s.1 ∷ r.1 = r.4 ∙ ap (λ y. y ∷ r.1) s.4 in
        elim (part-among one (parts_of (piece s.0 s.1 ∷ r.1) o)
        (subst (λ list. IsPartOf one (parts_of list o)) same part)) [
          | inl first ↦ inl (record {
            t = t;
            answered = way.this answers more;
            leaves = meets-transition t s.1 rest s.3 (subst (λ (y : Body). Meets x (followed y rest)) first on);
          })
          | inr later ↦ later-answer answers t more rest o one (meets-parts kind more r.1 o one rest r.3 later on)
        ]

    pub meets-other : (word : Spelling) (question : tree.Expr) (parts : Parts) (other : Otherwise) (o : Option Body)
        (one rest : Body) → other_in context other ≡ Some o → o ≡ Some one → Meets x (followed one rest) →
        LeavesPart context x AtFirst (Decision word question parts other) rest
    meets-other word question parts NoElse o one rest is same on =
        absurd (let none : None ≡ o = some-same None o is in let never : ⊥ = cc in never)
    meets-other word question parts (Else t) o one rest is same on =
        let r = map-some Some (body_in context t) o is in
        let found : body_in context t ≡ Some one = r.1 ∙ sym r.2 ∙ same in
        record {
          t = t;
          part = way.other_answer word question parts;
          leaves = meets-transition t one rest found on;
        }
