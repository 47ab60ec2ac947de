-- Where statements stand in a table of nodes, and where a decision and a label lead.
use Rattle.std.proofs.Common.{◌≡◌, ◌∙◌, Bool, true, false, List, [], ◌∷◌, Option, None, Some, ap, subst, sym, unwrap_or, if◌then◌else◌}
use Rattle.port_model.specs.declared.values.value.Value.{Value}
use Rattle.sdl_system.proofs.BodyLemmas.{Has-followed}
use Rattle.sdl_system.specs.Answer.{meets_one}
use Rattle.sdl_system.specs.Body as body
use Rattle.sdl_system.specs.Body.{Body, FromLabel, InParts, Parts, chosen, followed, here, in_first, in_later, in_otherwise, past_action, past_decision, past_label, within}
use Rattle.sdl_system.specs.Table.{At, Has, HasParts, MarkedAt, way_among}
use Rattle.sdl_system.specs.declared.answer.Answer.{Answer}
use Rattle.sdl_system.specs.declared.id.LabelId.{LabelId}
use Rattle.sdl_system.specs.declared.id.NodeId.{NodeId}
use Rattle.sdl_system.specs.declared.statement.Branch.{Branch}
use Rattle.sdl_system.specs.declared.statement.Node.{Node}
use Rattle.sdl_system.specs.declared.statement.Statement.{Statement}
use Rattle.sdl_system.specs.declared.statement.Way.{Way}
use Rattle.laws_one_step.proofs.Next.{mark_of, node_at}

module _ (nodes : List Node) where
  pub at_is : (place : Option NodeId) (statement : Statement) (next : Option NodeId) → At nodes place statement next
      → node_at nodes place ≡ Some (record { statement = statement; next = next })
  at_is place statement next at = ap (λ p. node_at nodes p) at.here ∙ at.stands

module _ (nodes : List Node) (marks : List (Option NodeId)) where
  -- the way that a value takes leads to the part that it chooses, and to what stands behind the decision
  abbrev pub GoesOn : Body → Option Way → Option Body → Type 0
  GoesOn rest None None = Unit {0}
  GoesOn rest (Some way) (Some part) = Has nodes marks way.0 (followed part rest) None
  GoesOn rest way part = ⊥

  pub decides : (branches : List Branch) (otherwise : Option Way) (parts : Parts) (next : Option NodeId) (rest : Body)
      → HasParts nodes marks branches otherwise parts next → Has nodes marks next rest None → (value : Value)
      → GoesOn rest (way_among value branches otherwise) (chosen value parts)
  decides branches otherwise body.no_part next rest has later value =
      subst (λ bs. GoesOn rest (way_among value bs otherwise) None) (sym has.0)
      (subst (λ w. GoesOn rest w None) (sym has.1) tt)
  decides branches otherwise (body.otherwise b) next rest has later value =
      subst (λ bs. GoesOn rest (way_among value bs otherwise) (Some b)) (sym has.1)
      (subst (λ w. GoesOn rest w (Some b)) (sym has.2)
      (Has-followed nodes marks has.0.0 next None b rest has.3 later))
  decides [] otherwise (body.part answers b more) next rest has later value = absurd has
  decides (first ∷ others) otherwise (body.part answers b more) next rest has later value =
      let Here : List Answer → Type 0 =
      λ list. GoesOn rest (if meets_one value list then Some first.way else way_among value others otherwise)
      (if meets_one value answers then Some b else chosen value more) in
      subst Here (sym has.0)
      (elim (meets_one value answers)
      as (λ (met : Bool). GoesOn rest (if met then Some first.way else way_among value others otherwise)
      (if met then Some b else chosen value more)) [
        | true ↦ Has-followed nodes marks first.way.0 next None b rest has.1 later
        | false ↦ decides others otherwise more next rest has.2 later value
      ])

  pub mark_is : (l : LabelId) (place : Option NodeId) → MarkedAt marks l place → mark_of marks l ≡ place
  mark_is l place at = ap (λ o. unwrap_or o None) at.marked ∙ sym at.here

  -- what stands from a label on stands at its mark
  mutual
    pub labelled : (l : LabelId) (from to : Option NodeId) (whole on : Body) → FromLabel l whole on
        → Has nodes marks from whole to → Has nodes marks (mark_of marks l) on to
    labelled l from to _ _ (here rest) has =
        subst (λ p. Has nodes marks p rest to) (sym (mark_is l from has.0)) has.1
    labelled l from to _ _ (past_action first rest on more) has = labelled l has.0 to rest on more has.2
    labelled l from to _ _ (past_label number rest on more) has = labelled l from to rest on more has.1
    labelled l from to _ _ (past_decision question parts rest on more) has = labelled l has.1 to rest on more has.4
    labelled l from to _ _ (within question parts rest on more) has =
        Has-followed nodes marks (mark_of marks l) has.1 to on rest
        (labelled_part l has.0.branches.items has.0.otherwise has.1 parts on more has.3) has.4

    pub labelled_part : (l : LabelId) (branches : List Branch) (otherwise : Option Way) (next : Option NodeId)
        (parts : Parts) (on : Body) → InParts l parts on → HasParts nodes marks branches otherwise parts next
        → Has nodes marks (mark_of marks l) on next
    labelled_part l branches otherwise next _ _ (in_otherwise b on more) has =
        labelled l has.0.0 next b on more has.3
    labelled_part l [] otherwise next _ _ (in_first answers b rest on more) has = absurd has
    labelled_part l (first ∷ others) otherwise next _ _ (in_first answers b rest on more) has =
        labelled l first.way.0 next b on more has.1
    labelled_part l [] otherwise next _ _ (in_later answers b rest on more) has = absurd has
    labelled_part l (first ∷ others) otherwise next _ _ (in_later answers b rest on more) has =
        labelled_part l others otherwise next rest on more has.2
