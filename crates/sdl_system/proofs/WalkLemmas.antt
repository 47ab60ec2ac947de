-- How a table of nodes is walked.
use Rattle.std.proofs.Common.{◌≡◌, ◌⊎◌, ◌∙◌, Bool, true, false, List, [], ◌∷◌, Option, None, Some, ap, inl, inr, slice_get, subst, sym, if◌then◌else◌}
use Rattle.port_model.specs.declared.values.value.Value.{Value}
use Rattle.sdl_system.specs.Answer.{meets_one}
use Rattle.sdl_system.specs.Body as body
use Rattle.sdl_system.specs.Body.{Body, Parts, AllEnd, Ends, chosen, followed}
use Rattle.sdl_system.specs.Table.{At, Has, HasParts, Stands, action_of, terminator_of, way_among}
use Rattle.sdl_system.specs.Walk.{GoesOn, Heads, unlabelled}
use Rattle.sdl_system.specs.declared.answer.Answer.{Answer}
use Rattle.sdl_system.specs.declared.id.NodeId.{NodeId}
use Rattle.sdl_system.specs.declared.statement.Branch.{Branch}
use Rattle.sdl_system.specs.declared.statement.Node.{Node}
use Rattle.sdl_system.specs.declared.statement.Statement.{Statement}
use Rattle.sdl_system.specs.declared.statement.Statement.TheVariants as kind
use Rattle.sdl_system.specs.declared.statement.Way.{Way}
use Rattle.sdl_system.proofs.BodyLemmas.{Ends-first, Ends-second, Has-followed}

module _ (nodes : List Node) (marks : List (Option NodeId)) (n : NodeId) (node : Node)
    (got : slice_get nodes n.0 ≡ Some node) where
  -- the node that stands at the place is the one that is got there
  same_node : (s : Statement) (next : Option NodeId) (at : At nodes (Some n) s next)
      → node ≡ record { statement = s; next = next }
  same_node s next at = let here = at.here in let stands = at.stands in cc

  pub opens : (todo : Body) → Has nodes marks (Some n) todo None → Ends todo → Heads nodes marks node (unlabelled todo)
  opens body.nothing has ends = absurd ends
  opens (body.action first rest) has ends =
      let same = same_node has.1.statement has.0 has.1.at in
      record {
        acts = ap (λ (x : Node). action_of x.statement) same ∙ has.1.acts;
        goes_on = record { has = subst (λ (x : Node). Has nodes marks x.next rest None) (sym same) has.2; ends = ends };
      }
  opens (body.decision question parts rest) has ends =
      let same = same_node (kind.Decision has.0) has.1 has.2.at in
      record {
        asked = has.0;
        statement = ap (λ (x : Node). x.statement) same;
        asks = has.2.asks;
        branches =
            subst (λ (x : Node). HasParts nodes marks has.0.branches.items has.0.otherwise parts x.next)
            (sym same) has.3;
        goes_on = subst (λ (x : Node). Has nodes marks x.next rest None) (sym same) has.4;
        ends = ends;
      }
  opens (body.label number rest) has ends = opens rest has.1 ends
  opens (body.ending terminator) has ends =
      let same = same_node has.statement has.next has.at in ap (λ (x : Node). terminator_of x.statement) same ∙ has.ends

  pub opens_place : (todo : Body) → Stands nodes marks (Some n) todo → Heads nodes marks node (unlabelled todo)
  opens_place todo stands = opens todo stands.has stands.ends

at_node : (nodes : List Node) (place : Option NodeId) (s : Statement) (next : Option NodeId) → At nodes place s next
    → (n : NodeId) × (place ≡ Some n) × (node : Node) × (slice_get nodes n.0 ≡ Some node)
at_node nodes place s next at = (at.node, at.here, record { statement = s; next = next }, at.stands)

stands_at : (nodes : List Node) (marks : List (Option NodeId)) (place : Option NodeId) (todo : Body)
    → Has nodes marks place todo None → Ends todo
    → (n : NodeId) × (place ≡ Some n) × (node : Node) × (slice_get nodes n.0 ≡ Some node)
stands_at nodes marks place body.nothing has ends = absurd ends
stands_at nodes marks place (body.action first rest) has ends = at_node nodes place has.1.statement has.0 has.1.at
stands_at nodes marks place (body.decision question parts rest) has ends =
    at_node nodes place (kind.Decision has.0) has.1 has.2.at
stands_at nodes marks place (body.label number rest) has ends = stands_at nodes marks place rest has.1 ends
stands_at nodes marks place (body.ending terminator) has ends = at_node nodes place has.statement has.next has.at

pub stands_at_node : (nodes : List Node) (marks : List (Option NodeId)) (place : Option NodeId) (todo : Body)
    → Stands nodes marks place todo
    → (n : NodeId) × (place ≡ Some n) × (node : Node) × (slice_get nodes n.0 ≡ Some node)
stands_at_node nodes marks place todo stands = stands_at nodes marks place todo stands.has stands.ends

-- what stands behind a part of a decision
behind : (nodes : List Node) (marks : List (Option NodeId)) (from next : Option NodeId) (part rest : Body)
    → Has nodes marks from part next
    → Has nodes marks next rest None → Ends part ⊎ Ends rest → Stands nodes marks from (followed part rest)
behind nodes marks from next part rest has later ends = record {
  has = Has-followed nodes marks from next None part rest has later;
  ends = elim ends [ inl first ↦ Ends-first part rest first | inr second ↦ Ends-second part rest second ];
}

pub decides : (nodes : List Node) (marks : List (Option NodeId)) (branches : List Branch) (otherwise : Option Way)
    (parts : Parts) (next : Option NodeId) (rest : Body)
    → HasParts nodes marks branches otherwise parts next → Has nodes marks next rest None → AllEnd parts ⊎ Ends rest →
    (value : Value)
    → GoesOn nodes marks rest (way_among value branches otherwise) (chosen value parts)
decides nodes marks branches otherwise body.no_part next rest has later ends value =
    subst (λ (bs : List Branch). GoesOn nodes marks rest (way_among value bs otherwise) None) (sym has.0)
    (subst (λ (w : Option Way). GoesOn nodes marks rest w None) (sym has.1) tt)
decides nodes marks branches otherwise (body.otherwise b) next rest has later ends value =
    subst (λ (bs : List Branch). GoesOn nodes marks rest (way_among value bs otherwise) (Some b)) (sym has.1)
    (subst (λ (w : Option Way). GoesOn nodes marks rest w (Some b)) (sym has.2)
    (behind nodes marks has.0.0 next b rest has.3 later ends))
decides nodes marks [] otherwise (body.part answers b more) next rest has later ends value = absurd has
decides nodes marks (first ∷ others) otherwise (body.part answers b more) next rest has later ends value =
    let Here : List Answer → Type 0 =
    λ list. GoesOn nodes marks rest
    (if meets_one value list then Some first.way else way_among value others otherwise)
    (if meets_one value answers then Some b else chosen value more) in
    let both : AllEnd (body.part answers b more) ⊎ Ends rest = ends in
    let at_b : Ends b ⊎ Ends rest = elim both [ inl all ↦ inl all.0 | inr after ↦ inr after ] in
    let at_more : AllEnd more ⊎ Ends rest = elim both [ inl all ↦ inl all.1 | inr after ↦ inr after ] in
    subst Here (sym has.0)
    (elim (meets_one value answers)
    as (λ (met : Bool). GoesOn nodes marks rest (if met then Some first.way else way_among value others otherwise)
    (if met then Some b else chosen value more)) [
      | true ↦ behind nodes marks first.way.0 next b rest has.1 later at_b
      | false ↦ decides nodes marks others otherwise more next rest has.2 later at_more value
    ])
