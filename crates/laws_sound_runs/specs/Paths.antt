-- What holds of each statement of a body, and where paths through the bodies of a process come to (Z.102: transition,
-- decision, join).
use Rattle.std.specs.Prelude.{List}
use Rattle.sdl_system.specs.Body as body
use Rattle.sdl_system.specs.Body.{Action, Body, Parts, Terminator, followed}
use Rattle.sdl_system.specs.Table.{LabelOf}
use Rattle.sdl_system.specs.Term.{Term}
use Rattle.sdl_system.specs.declared.answer.Answer.{Answer}
use Rattle.sdl_system.specs.declared.id.LabelId.{LabelId}

-- each action, question and terminator of a body is such a one, also inside of decisions
abbrev mutual
  pub Every : (Action → Type 0) → (Term → Type 0) → (Terminator → Type 0) → Body → Type 0
  Every effects asks ends body.nothing = Unit {0}
  Every effects asks ends (body.action first rest) = effects first × Every effects asks ends rest
  Every effects asks ends (body.decision question parts rest) =
      asks question × EveryPart effects asks ends parts × Every effects asks ends rest
  Every effects asks ends (body.label number rest) = Every effects asks ends rest
  Every effects asks ends (body.ending terminator) = ends terminator

  pub EveryPart : (Action → Type 0) → (Term → Type 0) → (Terminator → Type 0) → Parts → Type 0
  EveryPart effects asks ends body.no_part = Unit {0}
  EveryPart effects asks ends (body.otherwise b) = Every effects asks ends b
  EveryPart effects asks ends (body.part answers b rest) = Every effects asks ends b × EveryPart effects asks ends rest

-- the body stands in one of the parts of a decision
pub data IsPartOf (one : Body) : Parts → Type 0 where
  behind_else : IsPartOf one (body.otherwise one)
  first_part : (answers : List Answer) (rest : Parts) → IsPartOf one (body.part answers one rest)
  later_part : (answers : List Answer) (other : Body) (rest : Parts) → IsPartOf one rest
      → IsPartOf one (body.part answers other rest)

-- a path through the body comes to the terminator
pub data Meets (terminator : Terminator) : Body → Type 0 where
  at_end : Meets terminator (body.ending terminator)
  behind_action : (first : Action) (rest : Body) → Meets terminator rest → Meets terminator (body.action first rest)
  behind_label : (number : LabelId) (rest : Body) → Meets terminator rest → Meets terminator (body.label number rest)
  by_part : (question : Term) (parts : Parts) (rest one : Body) → IsPartOf one parts
      → Meets terminator (followed one rest) → Meets terminator (body.decision question parts rest)

-- so does one that goes on where joins lead
pub data Reaches (bodies : List Body) (terminator : Terminator) : Body → Type 0 where
  at_once : (b : Body) → Meets terminator b → Reaches bodies terminator b
  by_join : (b on : Body) (label : LabelId) → Meets (body.join label) b → LabelOf bodies label on
      → Reaches bodies terminator on → Reaches bodies terminator b
