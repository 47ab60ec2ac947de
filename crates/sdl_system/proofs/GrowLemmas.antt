-- Tables that grow.
use Rattle.std.proofs.Common.{◌≡◌, ◌∙◌, Option, Some, List, [], ◌∷◌, sym, subst}
use Rattle.sdl_system.specs.Body as body
use Rattle.sdl_system.specs.Body.{Body, Parts, Action, Terminator}
use Rattle.sdl_system.specs.BodyLaws.{Grows, Keeps, KeepsNext}
use Rattle.sdl_system.specs.Term.{Term}
use Rattle.sdl_system.specs.Table.{Has, HasParts, At, ActsAt, AsksAt, EndsAt, action_of}
use Rattle.sdl_system.specs.declared.id.NodeId.{NodeId}
use Rattle.sdl_system.specs.declared.statement.Branch.{Branch}
use Rattle.sdl_system.specs.declared.statement.Decision.{Decision}
use Rattle.sdl_system.specs.declared.statement.Node.{Node}
use Rattle.sdl_system.specs.declared.statement.Statement.{Statement}
use Rattle.sdl_system.specs.declared.statement.Statement.TheVariants as kind
use Rattle.sdl_system.specs.declared.statement.Way.{Way}

-- only a join's next place may change
acts_keeps : (s : Statement) (a : Action) (old new : Option NodeId) → action_of s ≡ Some a → KeepsNext s old new
    → old ≡ new
acts_keeps (kind.Join l) a old new acts kept = cc
acts_keeps (kind.Task list) a old new acts kept = kept
acts_keeps (kind.Output sends) a old new acts kept = kept
acts_keeps (kind.Set list) a old new acts kept = kept
acts_keeps (kind.Reset list) a old new acts kept = kept
acts_keeps (kind.Create creation) a old new acts kept = kept
acts_keeps (kind.Decision asked) a old new acts kept = kept
acts_keeps (kind.NextState state) a old new acts kept = kept
acts_keeps kind.SameState a old new acts kept = kept
acts_keeps kind.Stop a old new acts kept = kept

keeps-trans : (s : Statement) (a b c : Option NodeId) → KeepsNext s a b → KeepsNext s b c → KeepsNext s a c
keeps-trans (kind.Join l) a b c p q = tt
keeps-trans (kind.Task list) a b c p q = p ∙ q
keeps-trans (kind.Output sends) a b c p q = p ∙ q
keeps-trans (kind.Set list) a b c p q = p ∙ q
keeps-trans (kind.Reset list) a b c p q = p ∙ q
keeps-trans (kind.Create creation) a b c p q = p ∙ q
keeps-trans (kind.Decision asked) a b c p q = p ∙ q
keeps-trans (kind.NextState state) a b c p q = p ∙ q
keeps-trans kind.SameState a b c p q = p ∙ q
keeps-trans kind.Stop a b c p q = p ∙ q

module _ (nodes : List Node) (marks : List (Option NodeId)) (nodes' : List Node) (marks' : List (Option NodeId))
    (grows : Grows nodes marks nodes' marks') where
  kept_at : (place : Option NodeId) (s : Statement) (next : Option NodeId) (at : At nodes place s next)
      → Keeps nodes' at.node (record { statement = s; next = next })
  kept_at place s next at = grows.kept at.node (record { statement = s; next = next }) at.stands

  at-grows : (place : Option NodeId) (s : Statement) (next : Option NodeId) → At nodes place s next
      → (next' : Option NodeId) × At nodes' place s next' × KeepsNext s next next'
  at-grows place s next at =
      let k = kept_at place s next at in
      (k.next, record { node = at.node; here = at.here; stands = k.stands }, k.same)

  acts-grows : (place : Option NodeId) (a : Action) (next : Option NodeId) → ActsAt nodes place a next
      → ActsAt nodes' place a next
  acts-grows place a next acts =
      let g = at-grows place acts.statement next acts.at in
      record {
        statement = acts.statement;
        at = subst (λ (x : Option NodeId). At nodes' place acts.statement x)
            (sym (acts_keeps acts.statement a next g.0 acts.acts g.2)) g.1;
        acts = acts.acts;
      }

  ends-grows : (place : Option NodeId) (t : Terminator) → EndsAt nodes place t → EndsAt nodes' place t
  ends-grows place t ends =
      let g = at-grows place ends.statement ends.next ends.at in
      record { statement = ends.statement; next = g.0; at = g.1; ends = ends.ends }

  asks-grows : (place : Option NodeId) (asked : Decision) (question : Term) (next : Option NodeId)
      → AsksAt nodes place asked question next → AsksAt nodes' place asked question next
  asks-grows place asked question next asks =
      let g = at-grows place (kind.Decision asked) next asks.at in
      record {
        at = subst (λ (x : Option NodeId). At nodes' place (kind.Decision asked) x) (sym g.2) g.1;
        asks = asks.asks;
      }

  mutual
    pub Has-grows : (from to : Option NodeId) (b : Body) → Has nodes marks from b to → Has nodes' marks' from b to
    Has-grows from to body.nothing has = has
    Has-grows from to (body.action first rest) has =
        (has.0, acts-grows from first has.0 has.1, Has-grows has.0 to rest has.2)
    Has-grows from to (body.decision question parts rest) has = (
      has.0,
      has.1,
      asks-grows from has.0 question has.1 has.2,
      HasParts-grows has.0.branches.items has.0.otherwise parts has.1 has.3,
      Has-grows has.1 to rest has.4,
    )
    Has-grows from to (body.label number rest) has = (grows.marked number from has.0, Has-grows from to rest has.1)
    Has-grows from to (body.ending t) has = ends-grows from t has

    pub HasParts-grows : (branches : List Branch) (otherwise : Option Way) (parts : Parts) (next : Option NodeId)
        → HasParts nodes marks branches otherwise parts next → HasParts nodes' marks' branches otherwise parts next
    HasParts-grows branches otherwise body.no_part next has = has
    HasParts-grows branches otherwise (body.otherwise b) next has =
        (has.0, has.1, has.2, Has-grows has.0.0 next b has.3)
    HasParts-grows [] otherwise (body.part answers b rest) next has = absurd has
    HasParts-grows (first ∷ others) otherwise (body.part answers b rest) next has =
        (has.0, Has-grows first.way.0 next b has.1, HasParts-grows others otherwise rest next has.2)

pub grows-trans : (n0 : List Node) (m0 : List (Option NodeId)) (n1 : List Node) (m1 : List (Option NodeId))
    (n2 : List Node) (m2 : List (Option NodeId))
    → Grows n0 m0 n1 m1 → Grows n1 m1 n2 m2 → Grows n0 m0 n2 m2
grows-trans n0 m0 n1 m1 n2 m2 first second = record {
  kept = λ n node stands.
      let k = first.kept n node stands in
      let j = second.kept n (record { statement = node.statement; next = k.next }) k.stands in
      record {
        next = j.next;
        stands = j.stands;
        same =
            keeps-trans node.statement node.next k.next j.next k.same j.same;
      };
  marked = λ l place m. second.marked l place (first.marked l place m);
}
