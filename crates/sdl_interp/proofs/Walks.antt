-- From node to node.
use Rattle.std.proofs.Common.{◌≡◌, ◌∙◌, ap, refl, subst, List, Option, None, Some, slice_get}
use Rattle.run_record.specs.declared.failure.Failure.{Failure}
use Rattle.run_semantics.proofs.Goes.{goes_on, goes_still, goes_turn, wrong_on}
use Rattle.run_semantics.specs.Goes.{AreInner, Goes, MachineValue}
use Rattle.run_semantics.specs.ControlPoint.{Definition, Doing}
use Rattle.run_semantics.specs.World.{WorldValue}
use Rattle.sdl_interp.proofs.Staying.{kept_by}
use Rattle.sdl_interp.specs.Machine.{place_of}
use Rattle.sdl_interp.specs.Running.{CoreValue, IsSameInstance}
use Rattle.sdl_interp.specs.Walk.{GoesTo, Visits, VisitsWrong, Walks, WalksWrong, marks_of}
use Rattle.sdl_interp.specs.Work.{IsOf}
use Rattle.sdl_interp.specs.declared.transitions.machine.Position.{Position}
use Rattle.sdl_system.proofs.WalkLemmas.{opens_place, stands_at_node}
use Rattle.sdl_system.specs.Body as body
use Rattle.sdl_system.specs.Body.{Body}
use Rattle.sdl_system.specs.System.{SystemValue}
use Rattle.sdl_system.specs.Table.{Stands}
use Rattle.sdl_system.specs.Walk.{Heads, unlabelled}
use Rattle.sdl_system.specs.declared.id.NodeId.{NodeId}
use Rattle.sdl_system.specs.declared.id.StateId.{StateId}
use Rattle.sdl_system.specs.declared.process.Process.{Process}
use Rattle.sdl_system.specs.declared.statement.Node.{Node}

-- labels are passed
goes_unlabelled : (d : Definition) (origin : Option StateId) (todo : Body) (m : MachineValue) (w : WorldValue)
    → Goes AreInner d (Doing origin todo) m w (Doing origin (unlabelled todo)) m w
goes_unlabelled d origin body.nothing m w = goes_still d (Doing origin body.nothing) m w
goes_unlabelled d origin (body.action first rest) m w = goes_still d (Doing origin (body.action first rest)) m w
goes_unlabelled d origin (body.decision question parts rest) m w =
    goes_still d (Doing origin (body.decision question parts rest)) m w
goes_unlabelled d origin (body.label number rest) m w =
    goes_on d (Doing origin (body.label number rest)) (Doing origin rest) (Doing origin (unlabelled rest)) m m m w w w
    (goes_turn d (Doing origin (body.label number rest)) (Doing origin rest) m m w (refl, refl) refl refl refl refl)
    (goes_unlabelled d origin rest m w)
goes_unlabelled d origin (body.ending last) m w = goes_still d (Doing origin (body.ending last)) m w

-- whatever stands where the node begins ends the transition there
abbrev pub Ends : SystemValue → Process → Node → Option StateId → MachineValue → WorldValue → Position → MachineValue
    → WorldValue → Type 0
Ends system process node origin m w position n v =
    (d : Definition) → (is : IsOf system process d) → (todo : Body)
    → Heads process.nodes.items (marks_of is) node todo
    → Goes AreInner d (Doing origin todo) m w (place_of position) n v

module _ (k : CoreValue) (begin : NodeId) (origin : Option StateId) (w : WorldValue) where
  -- whatever stands at the beginning is done up to the place
  abbrev pub WalkedTo : Option NodeId → CoreValue → WorldValue → Type 0
  WalkedTo place m v =
      (d : Definition) → (is : IsOf k.system k.process d) → (todo : Body)
      → Stands k.process.nodes.items (marks_of is) (Some begin) todo
      → GoesTo d k.process.nodes.items (marks_of is) origin todo k.work w place m.work v

  -- and to where the node there begins
  record AtNode (d : Definition) (marks : List (Option NodeId)) (node : Node) (todo : Body) (m : CoreValue)
      (v : WorldValue) : Type 0 where
    pub rest : Body
    pub heads : Heads k.process.nodes.items marks node rest
    pub goes : Goes AreInner d (Doing origin todo) k.work w (Doing origin rest) m.work v

  at_node : (d : Definition) (marks : List (Option NodeId)) (number : NodeId) (node : Node) (todo : Body)
      (m : CoreValue) (v : WorldValue) → slice_get k.process.nodes.items number.0 ≡ Some node
      → GoesTo d k.process.nodes.items marks origin todo k.work w (Some number) m.work v
      → AtNode d marks node todo m v
  at_node d marks number node todo m v got to = record {
    rest = unlabelled to.rest;
    heads = opens_place k.process.nodes.items marks number node got to.rest to.stands;
    goes = goes_on d (Doing origin todo) (Doing origin to.rest) (Doing origin (unlabelled to.rest)) k.work m.work m.work
        w v v to.goes (goes_unlabelled d origin to.rest m.work v);
  }

  pub walk_begins : WalkedTo (Some begin) k w
  walk_begins d is todo stands =
      record { rest = todo; stands = stands; goes = goes_still d (Doing origin todo) k.work w }

  module _ (at : Option NodeId) (number : NodeId) (node : Node) (m n : CoreValue) (v u : WorldValue)
      (is_at : at ≡ Some number) (same : IsSameInstance k m)
      (got : slice_get m.process.nodes.items number.0 ≡ Some node) (walked_to : WalkedTo at m v) where
    walked : WalkedTo (Some number) m v
    walked = let To : Option NodeId → Type 0 = λ place. WalkedTo place m v in subst To is_at walked_to

    got_here : slice_get k.process.nodes.items number.0 ≡ Some node
    got_here = kept_by (λ s p. slice_get p.nodes.items number.0 ≡ Some node) k m same got

    pub walked_on : (place : Option NodeId)
        → Visits m.system m.process node origin m.work v place n.work u → WalkedTo place n u
    walked_on place visits d is todo stands =
        let here : AtNode d (marks_of is) node todo m v =
        at_node d (marks_of is) number node todo m v got_here (walked d is todo stands) in
        let then : GoesTo d k.process.nodes.items (marks_of is) origin here.rest m.work v place n.work u =
        kept_by (λ s p. Visits s p node origin m.work v place n.work u) k m same visits d is here.rest number got_here
        here.heads in
        record {
          rest = then.rest;
          stands = then.stands;
          goes = goes_on d (Doing origin todo) (Doing origin here.rest) (Doing origin then.rest) k.work m.work n.work
              w v u here.goes then.goes;
        }

    pub walked_over : (position : Position) → Ends m.system m.process node origin m.work v position n.work u
        → Walks k.system k.process (Some begin) origin k.work w position n.work u
    walked_over position ends d is todo stands =
        let here : AtNode d (marks_of is) node todo m v =
        at_node d (marks_of is) number node todo m v got_here (walked d is todo stands) in
        goes_on d (Doing origin todo) (Doing origin here.rest) (place_of position) k.work m.work n.work w v u here.goes
        (kept_by (λ s p. Ends s p node origin m.work v position n.work u) k m same ends d is here.rest here.heads)

    pub walked_wrong : (why : Failure) → VisitsWrong m.system m.process node origin m.work v n.work u why
        → WalksWrong k.system k.process (Some begin) origin k.work w n.work u why
    walked_wrong why visits d is todo stands =
        let here : AtNode d (marks_of is) node todo m v =
        at_node d (marks_of is) number node todo m v got_here (walked d is todo stands) in
        wrong_on d (Doing origin todo) (Doing origin here.rest) k.work m.work n.work w v u why here.goes
        (kept_by (λ s p. VisitsWrong s p node origin m.work v n.work u why) k m same visits d is here.rest here.heads)

  -- where statements stand is a node
  pub walked_off : (place : Option NodeId) (m n : CoreValue) (v u : WorldValue) (why : Failure) → place ≡ None
      → WalkedTo place m v → WalksWrong k.system k.process (Some begin) origin k.work w n.work u why
  walked_off place m n v u why none walked d is todo stands =
      let to : GoesTo d k.process.nodes.items (marks_of is) origin todo k.work w place m.work v =
      walked d is todo stands in
      let at = stands_at_node k.process.nodes.items (marks_of is) place to.rest to.stands in
      let some : place ≡ Some at.0 = at.1 in
      absurd (cc)

  pub walked_past : (at : Option NodeId) (number : NodeId) (m n : CoreValue) (v u : WorldValue) (why : Failure)
      → at ≡ Some number → IsSameInstance k m → slice_get m.process.nodes.items number.0 ≡ None → WalkedTo at m v
      → WalksWrong k.system k.process (Some begin) origin k.work w n.work u why
  walked_past at number m n v u why is_at same none walked_to d is todo stands =
      let To : Option NodeId → Type 0 = λ place. WalkedTo place m v in
      let walked : WalkedTo (Some number) m v = subst To is_at walked_to in
      let none_here = kept_by (λ s p. slice_get p.nodes.items number.0 ≡ None) k m same none in
      let to : GoesTo d k.process.nodes.items (marks_of is) origin todo k.work w (Some number) m.work v =
      walked d is todo stands in
      let one = stands_at_node k.process.nodes.items (marks_of is) (Some number) to.rest to.stands in
      let some : Some number ≡ Some one.0 = one.1 in
      let same_place : number ≡ one.0 = cc in
      let there : slice_get k.process.nodes.items number.0 ≡ Some one.2 =
      ap (λ (x : NodeId). slice_get k.process.nodes.items x.0) same_place ∙ one.3 in
      absurd (cc)
