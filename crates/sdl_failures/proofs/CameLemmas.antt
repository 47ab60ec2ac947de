-- One step more on the way of an instance.
use Rattle.std.proofs.Common.{◌≡◌, ◌∙◌, ℕ, ◌+◌, List, ◌∷◌, Option, None, Some, ap, refl, subst, sym}
use Rattle.port_model.specs.Port.{PortState}
use Rattle.run_record.specs.Variables.{VariableList}
use Rattle.run_record.specs.declared.evaluation.identity.Identity.{Identity}
use Rattle.run_record.specs.Event.{Event}
use Rattle.run_semantics.specs.Leads.{Counts}
use Rattle.sdl_interp.specs.Walk.{ChoosesWay}
use Rattle.sdl_system.specs.System.{SystemValue}
use Rattle.sdl_system.specs.declared.id.NodeId.{NodeId}
use Rattle.sdl_system.specs.declared.id.StateId.{StateId}
use Rattle.sdl_system.specs.declared.process.Process.{Process}
use Rattle.sdl_system.specs.declared.statement.Decision.{Decision}
use Rattle.sdl_system.specs.declared.statement.Statement.{Statement}
use Rattle.sdl_system.specs.declared.statement.Statement.TheVariants as kind
use Rattle.sdl_system.specs.declared.statement.Way.{Way}
use Rattle.sdl_failures.specs.Came.{Came, IsNode, begin_of, decides, does, enters, passes, tells}
use Rattle.sdl_failures.specs.Known.{KnownValue, here_by}
use Rattle.sdl_failures.specs.Part.{DoesPart, parts_of}
use Rattle.sdl_failures.specs.Told.{port_after, state_after, store_after}
use Rattle.sdl_failures.specs.declared.replayed.spot.Spot.{Spot}
use Rattle.sdl_failures.specs.declared.replayed.spot.Spot.TheVariants.{At, Between}

-- what is known, by its store and its port
known_by : (known : KnownValue) (port : PortState) → known.port ≡ port
    → ◌≡◌ {A = KnownValue} (record { store = known.store; port = port }) known
known_by known port is = ap (λ (p : PortState). let k : KnownValue = record { store = known.store; port = p } in k) (sym is)

module _ (system : SystemValue) (process : Process) (who : Identity) (variables : VariableList) (all : List Event) where
  -- the same, as it is said otherwise
  pub came_as : (spot spot' : Spot) (known known' : KnownValue) (left left' : List Event)
      → spot ≡ spot' → known ≡ known' → left ≡ left'
      → Came system process who variables all spot known left → Came system process who variables all spot' known' left'
  came_as spot spot' known known' left left' s k l came =
      subst (λ (x : Spot). Came system process who variables all x known' left') s
      (subst (λ (x : KnownValue). Came system process who variables all spot x left') k
      (subst (λ (x : List Event). Came system process who variables all spot known x) l came))

  module _ (spot : Spot) (known new : KnownValue) (left rest : List Event) (happened : Event)
      (came : Came system process who variables all spot known left) (next : left ≡ happened ∷ rest)
      (port : new.port ≡ port_after known.port happened) where
    -- by an event before the last transition
    pub came_on : (state state' : Option StateId) → spot ≡ Between state
        → store_after process who.pid state known.store happened ≡ Some new.store
        → state' ≡ state_after state happened → Came system process who variables all (Between state') new rest
    came_on state state' is store after =
        came_as (Between (state_after state happened)) (Between state')
        (record { store = new.store; port = port_after known.port happened }) new rest rest
        (ap (λ (x : Option StateId). Between x) (sym after))
        (known_by new (port_after known.port happened) port) refl
        (tells happened new.store
        (came_as spot (Between state) known known left (happened ∷ rest) is refl next came) store)

    -- by the event that begins it
    pub came_in : (state : Option StateId) (node : NodeId) → spot ≡ Between state
        → store_after process who.pid state known.store happened ≡ Some new.store
        → begin_of process state happened ≡ Some node
        → Came system process who variables all (At node 0) new rest
    came_in state node is store begins =
        came_as (At node 0) (At node 0)
        (record { store = new.store; port = port_after known.port happened }) new rest rest refl
        (known_by new (port_after known.port happened) port) refl
        (enters happened new.store node
        (came_as spot (Between state) known known left (happened ∷ rest) is refl next came) store begins)

    -- by a part of a statement
    pub came_by : (number : NodeId) (part after : ℕ) (statement : Statement) (to : Option NodeId)
        → spot ≡ At number part → store_after process who.pid None known.store happened ≡ Some new.store
        → IsNode process number statement to → DoesPart statement part happened → after ≡ part + 1
        → Came system process who variables all (At number after) new rest
    came_by number part after statement to is store node part_is next_part =
        came_as (At number (part + 1)) (At number after)
        (record { store = new.store; port = port_after known.port happened }) new rest rest
        (ap (λ (x : ℕ). At number x) (sym next_part))
        (known_by new (port_after known.port happened) port) refl
        (does happened new.store statement to
        (came_as spot (At number part) known known left (happened ∷ rest) is refl next came) node part_is store)

  module _ (spot : Spot) (known new : KnownValue) (left : List Event)
      (came : Came system process who variables all spot known left) (counts : Counts known.store new.store)
      (port : new.port ≡ known.port) where
    -- from a statement to the next one
    pub came_past : (number : NodeId) (part : ℕ) (statement : Statement) (next : Option NodeId) (to : NodeId)
        → spot ≡ At number part → IsNode process number statement next → next ≡ Some to
        → parts_of statement ≡ Some part → Came system process who variables all (At to 0) new left
    came_past number part statement next to is node leads all_done =
        came_as (At to 0) (At to 0) (record { store = new.store; port = known.port }) new left left refl
        (known_by new known.port port) refl
        (passes statement to new.store
        (came_as spot (At number part) known known left left is refl refl came)
        (subst (λ (x : Option NodeId). IsNode process number statement x) leads node) all_done counts)

    -- by a decision
    pub came_along : (number : NodeId) (part : ℕ) (statement : Statement) (asked : Decision) (next : Option NodeId)
        (way : Way) (to : NodeId) → spot ≡ At number part → part ≡ 0 → IsNode process number statement next
        → statement ≡ kind.Decision asked → ChoosesWay (here_by system who known) asked way → way.0 ≡ Some to
        → Came system process who variables all (At to 0) new left
    came_along number part statement asked next way to is none node same chosen leads =
        came_as (At to 0) (At to 0) (record { store = new.store; port = known.port }) new left left refl
        (known_by new known.port port) refl
        (decides asked next way to new.store
        (came_as spot (At number 0) known known left left (is ∙ ap (λ (x : ℕ). At number x) none) refl refl came)
        (subst (λ (x : Statement). IsNode process number x next) same node) chosen leads counts)
