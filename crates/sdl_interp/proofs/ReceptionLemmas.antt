-- The values of a signal go to the variables of its input, one after the other.
use Rattle.std.proofs.Common.{◌≡◌, ◌⊎◌, ◌∙◌, inl, inr, sym, ap, subst, refl, List, [], ◌∷◌, Option, None, Some, Ok, Err, option_map, slice_get}
use Rattle.std.proofs.lemmas.Option.{slice_get-map}
use Rattle.port_model.specs.Ends.{OwnerState}
use Rattle.port_model.specs.Port.{PortState}
use Rattle.port_model.specs.declared.values.value.Value.{Value}
use Rattle.run_record.specs.Value.{placed}
use Rattle.run_record.specs.declared.evaluation.store.Store.{Store}
use Rattle.sdl_interp.specs.Stimulus.{HasVariables}
use Rattle.run_record.specs.Record.{RecordValue}
use Rattle.run_record.specs.declared.failure.Failure.{Failure}
use Rattle.run_semantics.proofs.Goes.{goes_on, goes_turn, wrong_here, wrong_on}
use Rattle.run_semantics.specs.Goes.{AreInner, Goes, GoesWrong}
use Rattle.run_semantics.specs.Leads.{LeadsSilently}
use Rattle.run_semantics.specs.ControlPoint.{Definition, Doing, Receiving}
use Rattle.run_semantics.specs.Reception.{assigned, sort_in}
use Rattle.run_semantics.specs.World.{WorldValue}
use Rattle.sdl_interp.specs.Machine.{identity_of, value_of}
use Rattle.sdl_interp.specs.declared.transitions.machine.Machine.{Machine}
use Rattle.sdl_system.specs.Behaviour.{VariableMeaning, variable_meaning}
use Rattle.sdl_system.specs.Body.{Body}
use Rattle.sdl_system.specs.declared.id.StateId.{StateId}
use Rattle.sdl_system.specs.declared.id.VariableId.{VariableId}
use Rattle.sdl_system.specs.declared.process.Process.{Process}
use Rattle.sdl_system.specs.declared.process.Variable.{Variable}

sort_meant : (o : Option Variable)
    → option_map (λ (v : VariableMeaning). v.sort) (option_map variable_meaning o)
    ≡ option_map (λ (v : Variable). v.sort) o
sort_meant None = refl
sort_meant (Some variable) = refl

-- the sort of a variable is what the process says of it
pub sort_is : (process : Process) (d : Definition) (variable : VariableId) → HasVariables process d
    → sort_in d.behaviour variable
    ≡ option_map (λ (v : Variable). v.sort) (slice_get process.variables.items variable.0)
sort_is process d variable has =
    ap (λ (vs : List VariableMeaning). option_map (λ (v : VariableMeaning). v.sort) (slice_get vs variable.0)) (sym has)
    ∙ ap (λ (o : Option VariableMeaning). option_map (λ (v : VariableMeaning). v.sort) o)
    (slice_get-map variable_meaning process.variables.items variable.0)
    ∙ sort_meant (slice_get process.variables.items variable.0)

-- behind the last value, or the last variable, the body is next
last_turn : (d : Definition) (m : Machine) (q : PortState) (origin : Option StateId) (next : Body)
    (variables : List (Option VariableId)) (values : List Value) → (variables ≡ []) ⊎ (values ≡ [])
    → LeadsSilently d (identity_of m.trace) q (Receiving origin variables values next) m.store
    (Doing origin next) m.store
last_turn d m q origin next [] values done = (refl, refl)
last_turn d m q origin next (None ∷ variables) [] done = (refl, refl)
last_turn d m q origin next (Some variable ∷ variables) [] done = (refl, refl)
last_turn d m q origin next (None ∷ variables) (value ∷ values) (inl none) = absurd cc
last_turn d m q origin next (None ∷ variables) (value ∷ values) (inr none) = absurd cc
last_turn d m q origin next (Some variable ∷ variables) (value ∷ values) (inl none) = absurd cc
last_turn d m q origin next (Some variable ∷ variables) (value ∷ values) (inr none) = absurd cc

module _ (d : Definition) (origin : Option StateId) (next : Body) (owner : OwnerState) (w : WorldValue)
    (all : List (Option VariableId)) (values : List Value) (first : Machine) where
  -- what is left of the list, once the machine is so
  abbrev pub Left : List (Option VariableId) → List Value → Machine → Type 0
  Left variables rest m =
      Goes AreInner d (Receiving origin all values next) (value_of first owner) w
      (Receiving origin variables rest next) (value_of m owner) w

  pub left_same : (variables more : List (Option VariableId)) (values rest : List Value) (m : Machine)
      → variables ≡ more → values ≡ rest → Left variables values m → Left more rest m
  left_same variables more values rest m one other left =
      subst (λ (vs : List (Option VariableId)). Left vs rest m) one
      (subst (λ (xs : List Value). Left variables xs m) other left)

  -- a value goes to its variable
  pub left_taken : (variable : VariableId) (more : List (Option VariableId)) (value taken : Value) (rest : List Value)
      (k n : Machine) → placed (sort_in d.behaviour variable) value ≡ Ok taken → n.trace ≡ k.trace
      → n.store ≡ assigned variable taken k.store → Left (Some variable ∷ more) (value ∷ rest) k → Left more rest n
  left_taken variable more value taken rest k n is trace store before =
      goes_on d (Receiving origin all values next) (Receiving origin (Some variable ∷ more) (value ∷ rest) next)
      (Receiving origin more rest next) (value_of first owner) (value_of k owner) (value_of n owner) w w w before
      (goes_turn d (Receiving origin (Some variable ∷ more) (value ∷ rest) next) (Receiving origin more rest next)
      (value_of k owner) (value_of n owner) w (refl, (taken, is, store)) (ap identity_of trace) refl
      (ap (λ (t : RecordValue). t.events) trace) (ap (λ (s : Store). s.time) store))

  -- a value is dropped
  pub left_dropped : (more : List (Option VariableId)) (value : Value) (rest : List Value) (k : Machine)
      → Left (None ∷ more) (value ∷ rest) k → Left more rest k
  left_dropped more value rest k before =
      goes_on d (Receiving origin all values next) (Receiving origin (None ∷ more) (value ∷ rest) next)
      (Receiving origin more rest next) (value_of first owner) (value_of k owner) (value_of k owner) w w w before
      (goes_turn d (Receiving origin (None ∷ more) (value ∷ rest) next) (Receiving origin more rest next)
      (value_of k owner) (value_of k owner) w (refl, refl) refl refl refl refl)

  -- nothing is left
  pub left_none : (more : List (Option VariableId)) (rest : List Value) (k : Machine) → (more ≡ []) ⊎ (rest ≡ [])
      → Left more rest k
      → Goes AreInner d (Receiving origin all values next) (value_of first owner) w
      (Doing origin next) (value_of k owner) w
  left_none more rest k done before =
      goes_on d (Receiving origin all values next) (Receiving origin more rest next) (Doing origin next)
      (value_of first owner) (value_of k owner) (value_of k owner) w w w before
      (goes_turn d (Receiving origin more rest next) (Doing origin next) (value_of k owner) (value_of k owner) w
      (last_turn d k owner.state origin next more rest done) refl refl refl refl)

  -- a value doesn't fit its variable
  pub left_wrong : (variable : VariableId) (more : List (Option VariableId)) (value : Value) (rest : List Value)
      (k : Machine) (why : Failure) → placed (sort_in d.behaviour variable) value ≡ Err why
      → Left (Some variable ∷ more) (value ∷ rest) k
      → GoesWrong d (Receiving origin all values next) (value_of first owner) w (value_of k owner) w why
  left_wrong variable more value rest k why is before =
      wrong_on d (Receiving origin all values next) (Receiving origin (Some variable ∷ more) (value ∷ rest) next)
      (value_of first owner) (value_of k owner) (value_of k owner) w w w why before
      (wrong_here d (Receiving origin (Some variable ∷ more) (value ∷ rest) next) (value_of k owner) (value_of k owner)
      w w why (inr is) refl refl)
