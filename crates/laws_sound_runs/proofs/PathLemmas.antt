-- What holds of each statement of a body holds of what stands behind it, from a label on, and in a part that is chosen.
use Rattle.std.proofs.Common.{◌≡◌, Bool, true, false, List, Some, if◌then◌else◌, subst}
use Rattle.port_model.specs.declared.values.value.Value.{Value}
use Rattle.laws_sound_runs.specs.Paths.{Every, EveryPart, IsPartOf, Meets, Reaches, at_once, behind_else, by_join, first_part, later_part}
use Rattle.sdl_system.specs.Answer.{meets_one}
use Rattle.sdl_system.specs.Body as body
use Rattle.sdl_system.specs.Body.{Action, Body, FromLabel, InParts, Parts, Terminator, chosen, followed, here, in_first, in_later, in_otherwise, past_action, past_decision, past_label, within}
use Rattle.sdl_system.specs.Term.{Term}
use Rattle.sdl_system.specs.declared.id.LabelId.{LabelId}

module _ (acts : Action → Type 0) (asks : Term → Type 0) (ends : Terminator → Type 0) where
  pub every-followed : (a b : Body) → Every acts asks ends a → Every acts asks ends b →
      Every acts asks ends (followed a b)
  every-followed body.nothing b has also = also
  every-followed (body.action first rest) b has also = (has.0, every-followed rest b has.1 also)
  every-followed (body.decision question parts rest) b has also = (has.0, has.1, every-followed rest b has.2 also)
  every-followed (body.label number rest) b has also = every-followed rest b has also
  every-followed (body.ending terminator) b has also = has

  mutual
    pub every-from : (l : LabelId) (b on : Body) → FromLabel l b on → Every acts asks ends b →
        Every acts asks ends on
    every-from l _ _ (here rest) has = has
    every-from l _ _ (past_action first rest on from) has = every-from l rest on from has.1
    every-from l _ _ (past_label number rest on from) has = every-from l rest on from has
    every-from l _ _ (past_decision question parts rest on from) has = every-from l rest on from has.2
    every-from l _ _ (within question parts rest on from) has =
        every-followed on rest (every-in l parts on from has.1) has.2

    every-in : (l : LabelId) (parts : Parts) (on : Body) → InParts l parts on → EveryPart acts asks ends parts →
        Every acts asks ends on
    every-in l _ _ (in_otherwise b on from) has = every-from l b on from has
    every-in l _ _ (in_first answers b rest on from) has = every-from l b on from has.0
    every-in l _ _ (in_later answers b rest on from) has = every-in l rest on from has.1

  pub every-part : (one : Body) (parts : Parts) → IsPartOf one parts → EveryPart acts asks ends parts →
      Every acts asks ends one
  every-part one _ behind_else has = has
  every-part one _ (first_part answers rest) has = has.0
  every-part one _ (later_part answers other rest is) has = every-part one rest is has.1

-- the part that is chosen is one of them
pub chosen-part : (v : Value) (parts : Parts) (one : Body) → chosen v parts ≡ Some one → IsPartOf one parts
chosen-part v body.no_part one is = absurd (let never : ⊥ = cc in never)
chosen-part v (body.otherwise b) one is =
    subst (λ (x : Body). IsPartOf one (body.otherwise x)) (let back : one ≡ b = cc in back) behind_else
chosen-part v (body.part answers b rest) one is =
    first-or (meets_one v answers) is (λ later. chosen-part v rest one later)
  where
    first-or : (meets : Bool) → (if meets then Some b else chosen v rest) ≡ Some one →
        (chosen v rest ≡ Some one → IsPartOf one rest) → IsPartOf one (body.part answers b rest)
    first-or true same by_rest =
        subst (λ (x : Body). IsPartOf one (body.part answers x rest)) (let back : one ≡ b = cc in back)
        (first_part answers rest)
    first-or false same by_rest = later_part answers b rest (by_rest same)

-- ---- paths

-- what is reached from one body is reached from another where each path through the first is one through the other
pub reaches-also : (bodies : List Body) (terminator : Terminator) (b c : Body) →
    ((x : Terminator) → Meets x b → Meets x c) → Reaches bodies terminator b → Reaches bodies terminator c
reaches-also bodies terminator b c also (at_once _ meets) = at_once c (also terminator meets)
reaches-also bodies terminator b c also (by_join _ on label meets from onward) =
    by_join c on label (also (body.join label) meets) from onward
