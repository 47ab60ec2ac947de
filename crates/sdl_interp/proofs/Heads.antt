-- What stands where a node begins, by the statement of the node.
use Rattle.std.proofs.Common.{◌≡◌, ◌∙◌, ◌<◌, sym, ap, subst, inl, inr, refl, ℕ, List, Option, None, Some, length}
use Rattle.std.proofs.lemmas.Slice.Zip.{AllZip-long}
use Rattle.port_model.specs.Port.{PortState}
use Rattle.port_model.specs.declared.values.value.Value.{Value}
use Rattle.run_record.specs.Environment.{environment}
use Rattle.run_record.specs.declared.evaluation.identity.Identity.{Identity}
use Rattle.run_record.specs.declared.evaluation.store.Store.{Store}
use Rattle.run_record.specs.declared.failure.Failure.{Failure}
use Rattle.run_semantics.specs.Fails.{Fails}
use Rattle.run_semantics.specs.ControlPoint.{Definition, Doing, IsState}
use Rattle.sdl_interp.specs.Walk.{CantChoose, EntersNone, IsPassed, IsPlain}
use Rattle.sdl_interp.specs.Work.{IsOf}
use Rattle.sdl_system.proofs.WalkLemmas.{decides}
use Rattle.sdl_system.specs.Behaviour.{MeansState}
use Rattle.sdl_system.specs.Body as body
use Rattle.sdl_system.specs.Body.{Action, Body, Parts, Terminator, chosen, followed}
use Rattle.sdl_system.specs.System.{SystemValue}
use Rattle.sdl_system.specs.Table.{Stands, action_of, terminator_of, way_of}
use Rattle.sdl_system.specs.Term.{Term, term_of}
use Rattle.sdl_system.specs.Walk.{GoesOn, Heads}
use Rattle.sdl_system.specs.declared.id.LabelId.{LabelId}
use Rattle.sdl_system.specs.declared.id.NodeId.{NodeId}
use Rattle.sdl_system.specs.declared.id.StateId.{StateId}
use Rattle.sdl_system.specs.declared.process.Process.{Process}
use Rattle.sdl_system.specs.declared.statement.Decision.{Decision}
use Rattle.sdl_system.specs.declared.statement.Node.{Node}
use Rattle.sdl_system.specs.declared.statement.Statement.{Statement}
use Rattle.sdl_system.specs.declared.statement.Statement.TheVariants as kind
use Rattle.sdl_system.specs.declared.statement.Way.{Way}

-- ---- actions and ends

acts_or_ends : (s : Statement) (first : Action) (last : Terminator) → action_of s ≡ Some first
    → terminator_of s ≡ Some last → ⊥
acts_or_ends (kind.Task list) first last acts ends = cc
acts_or_ends (kind.Output sends) first last acts ends = cc
acts_or_ends (kind.Set list) first last acts ends = cc
acts_or_ends (kind.Reset list) first last acts ends = cc
acts_or_ends (kind.Create creation) first last acts ends = cc
acts_or_ends (kind.Decision asked) first last acts ends = cc
acts_or_ends (kind.Join label) first last acts ends = cc
acts_or_ends (kind.NextState state) first last acts ends = cc
acts_or_ends kind.SameState first last acts ends = cc
acts_or_ends kind.Stop first last acts ends = cc

-- the statement is a decision, and nothing else
asks_only : (s : Statement) (asked : Decision) → s ≡ kind.Decision asked
    → (action_of s ≡ None) × (terminator_of s ≡ None)
asks_only s asked is = (ap action_of is, ap terminator_of is)

module _ (nodes : List Node) (marks : List (Option NodeId)) (node : Node) where
  pub acts_here : (first : Action) (todo : Body) → action_of node.statement ≡ Some first → Heads nodes marks node todo
      → (rest : Body) × (todo ≡ body.action first rest) × Stands nodes marks node.next rest
  acts_here first body.nothing acts heads = absurd heads
  acts_here first (body.action one rest) acts heads =
      let same : one ≡ first = let is = heads.acts in cc in
      (rest, ap (λ (a : Action). body.action a rest) same, heads.goes_on)
  acts_here first (body.decision question parts rest) acts heads =
      let none = (asks_only node.statement heads.asked heads.statement).0 in absurd (cc)
  acts_here first (body.label number rest) acts heads = absurd heads
  acts_here first (body.ending last) acts heads = absurd (acts_or_ends node.statement first last acts heads)

  pub ends_here : (last : Terminator) (todo : Body) → terminator_of node.statement ≡ Some last
      → Heads nodes marks node todo → todo ≡ body.ending last
  ends_here last body.nothing ends heads = absurd heads
  ends_here last (body.action first rest) ends heads = absurd (acts_or_ends node.statement first last heads.acts ends)
  ends_here last (body.decision question parts rest) ends heads =
      let none = (asks_only node.statement heads.asked heads.statement).1 in absurd (cc)
  ends_here last (body.label number rest) ends heads = absurd heads
  ends_here last (body.ending one) ends heads =
      let same : one ≡ last = cc in ap (λ (t : Terminator). body.ending t) same

-- ---- what is counted

-- the statement is no end of a transition, where it is none of these
pub passed_else : (s : Statement) → ((state : StateId) → s ≡ kind.NextState state → ⊥) → (s ≡ kind.SameState → ⊥)
    → (s ≡ kind.Stop → ⊥) → IsPassed s
passed_else (kind.Task list) to same stop = tt
passed_else (kind.Output sends) to same stop = tt
passed_else (kind.Set list) to same stop = tt
passed_else (kind.Reset list) to same stop = tt
passed_else (kind.Create creation) to same stop = tt
passed_else (kind.Decision asked) to same stop = tt
passed_else (kind.Join label) to same stop = tt
passed_else (kind.NextState state) to same stop = absurd (to state refl)
passed_else kind.SameState to same stop = absurd (same refl)
passed_else kind.Stop to same stop = absurd (stop refl)

-- nor a decision, where it is none
pub plain_else : (s : Statement) → IsPassed s → ((asked : Decision) → s ≡ kind.Decision asked → ⊥) → IsPlain s
plain_else (kind.Task list) passed asks = tt
plain_else (kind.Output sends) passed asks = tt
plain_else (kind.Set list) passed asks = tt
plain_else (kind.Reset list) passed asks = tt
plain_else (kind.Create creation) passed asks = tt
plain_else (kind.Decision asked) passed asks = absurd (asks asked refl)
plain_else (kind.Join label) passed asks = tt
plain_else (kind.NextState state) passed asks = absurd passed
plain_else kind.SameState passed asks = absurd passed
plain_else kind.Stop passed asks = absurd passed

pub counted_joins : (s : Statement) (last : Terminator) → IsPassed s → terminator_of s ≡ Some last
    → (label : LabelId) × (last ≡ body.join label)
counted_joins (kind.Task list) last counted ends = absurd (cc)
counted_joins (kind.Output sends) last counted ends = absurd (cc)
counted_joins (kind.Set list) last counted ends = absurd (cc)
counted_joins (kind.Reset list) last counted ends = absurd (cc)
counted_joins (kind.Create creation) last counted ends = absurd (cc)
counted_joins (kind.Decision asked) last counted ends = absurd (cc)
counted_joins (kind.Join label) last counted ends = (label, cc)
counted_joins (kind.NextState state) last counted ends = absurd counted
counted_joins kind.SameState last counted ends = absurd counted
counted_joins kind.Stop last counted ends = absurd counted

-- ---- decisions

-- the decision is what stands at the node, and each value leads on as it chooses
pub record Decided (nodes : List Node) (marks : List (Option NodeId)) (node : Node) (asked : Decision)
    (todo : Body) : Type 0 where
  pub parts : Parts
  pub rest : Body
  pub is : todo ≡ body.decision (term_of asked.question) parts rest
  pub goes : (value : Value) → GoesOn nodes marks rest (way_of asked value) (chosen value parts)

pub decided_here : (nodes : List Node) (marks : List (Option NodeId)) (node : Node) (asked : Decision) (todo : Body)
    → node.statement ≡ kind.Decision asked → Heads nodes marks node todo → Decided nodes marks node asked todo
decided_here nodes marks node asked body.nothing is heads = absurd heads
decided_here nodes marks node asked (body.action first rest) is heads =
    let acts = heads.acts in let none = (asks_only node.statement asked is).0 in absurd (cc)
decided_here nodes marks node asked (body.decision question parts rest) is heads =
    let same : heads.asked ≡ asked = let there = heads.statement in cc in
    record {
      parts = parts;
      rest = rest;
      is = ap (λ (term : Term). body.decision term parts rest)
          (sym heads.asks ∙ ap (λ (a : Decision). term_of a.question) same);
      goes = λ value.
          subst (λ (a : Decision). GoesOn nodes marks rest (way_of a value) (chosen value parts)) same
          (decides nodes marks heads.asked.branches.items heads.asked.otherwise parts node.next rest heads.branches
          heads.goes_on heads.ends value);
    }
decided_here nodes marks node asked (body.label number rest) is heads = absurd heads
decided_here nodes marks node asked (body.ending last) is heads =
    let none = (asks_only node.statement asked is).1 in absurd (cc)

-- the way that is taken leads to the part that is chosen
pub record LeadsOn (nodes : List Node) (marks : List (Option NodeId)) (rest : Body) (way : Way)
    (chosen : Option Body) : Type 0 where
  pub part : Body
  pub takes : chosen ≡ Some part
  pub stands : Stands nodes marks way.0 (followed part rest)

pub leads_on : (nodes : List Node) (marks : List (Option NodeId)) (rest : Body) (way : Way) (part : Option Body)
    → GoesOn nodes marks rest (Some way) part → LeadsOn nodes marks rest way part
leads_on nodes marks rest way None goes = absurd goes
leads_on nodes marks rest way (Some part) goes = record { part = part; takes = refl; stands = goes }

leads_nowhere : (nodes : List Node) (marks : List (Option NodeId)) (rest : Body) (part : Option Body)
    → GoesOn nodes marks rest None part → part ≡ None
leads_nowhere nodes marks rest None goes = refl
leads_nowhere nodes marks rest (Some part) goes = absurd goes

pub undecided : (nodes : List Node) (marks : List (Option NodeId)) (node : Node) (asked : Decision) (todo : Body)
    (decided : Decided nodes marks node asked todo) (d : Definition) (who : Identity) (q : PortState)
    (origin : Option StateId) (s : Store) (why : Failure) → CantChoose (environment d.system who s q) s asked why
    → Fails d who q (Doing origin (body.decision (term_of asked.question) decided.parts decided.rest)) s why
undecided nodes marks node asked todo decided d who q origin s why cant = elim cant [
  | inl long ↦ inr (inl long)
  | inr failed ↦ elim failed.1 [
    | inl failure ↦ elim failure [
      | inl meant ↦ inr (inr (inl (failed.0, meant)))
      | inr memory ↦ inl (memory.1, memory.0)
    ]
    | inr none ↦ inr (inr (inr (
      failed.0,
      record {
        value = none.value;
        asked = none.is;
        none = leads_nowhere nodes marks decided.rest (chosen none.value decided.parts)
            (subst (λ (o : Option Way). GoesOn nodes marks decided.rest o (chosen none.value decided.parts)) none.none
            (decided.goes none.value));
        told = none.told;
      },
    )))
  ]
]

-- ---- states

states_same : (system : SystemValue) (process : Process) (d : Definition) → IsOf system process d
    → length d.behaviour.states ≡ length process.states.items
states_same system process d is =
    AllZip-long (MeansState process is.behaves.means.entries) process.states.items d.behaviour.states
    is.behaves.means.states_are

pub is_state : (system : SystemValue) (process : Process) (d : Definition) → IsOf system process d → (state : StateId)
    → state.0 < length process.states.items → IsState d state
is_state system process d is state there =
    let Below : ℕ → Type 0 = λ n. state.0 < n in subst Below (sym (states_same system process d is)) there

pub is_there : (system : SystemValue) (process : Process) (d : Definition) → IsOf system process d → (state : StateId)
    → IsState d state → state.0 < length process.states.items
is_there system process d is state there =
    let Below : ℕ → Type 0 = λ n. state.0 < n in subst Below (states_same system process d is) there

pub same_fails : (system : SystemValue) (process : Process) (d : Definition) → IsOf system process d → (who : Identity)
    (q : PortState) (origin : Option StateId) (s : Store) (why : Failure) → EntersNone origin process why
    → Fails d who q (Doing origin (body.ending body.to_same)) s why
same_fails system process d is who q None s why none = inr none
same_fails system process d is who q (Some state) s why none = elim none [
  | inl memory ↦ inl (memory, tt)
  | inr missing ↦ inr (missing.0, λ there. missing.1 (is_there system process d is state there))
]
