-- Which bodies begin, and where they stand: at the start, by an input, and by a continuous signal.
use Rattle.std.proofs.Common.{◌≡◌, ◌∙◌, sym, ap, subst, refl, ℕ, ◌<◌, IsSomeAnd, List, [], ◌∷◌, MatchOption, Option, None, Some, get_or, length, slice_get, arith}
use Rattle.std.proofs.lemmas.Option.{same_Some, slice_get-get_or, slice_get_within}
use Rattle.std.proofs.lemmas.Slice.Zip.{AllZip-left, AllZip-right}
use Rattle.port_model.specs.declared.values.item.SignalId.{SignalId}
use Rattle.run_record.specs.Environment.{Environment}
use Rattle.sdl_interp.specs.Selected.{IsTried}
use Rattle.run_semantics.specs.Reception.{Inputs, IsPriorityInput}
use Rattle.run_semantics.specs.Selection.{Tried, begins, fails, none_true, tried}
use Rattle.sdl_system.proofs.BehaviourLemmas.{reacts_as_meant}
use Rattle.sdl_system.specs.Behaviour.{Behaviour, Means, MeansResponse, MeansState, MeansTable, Response, StateMeaning, input, priority_input, response_to, save}
use Rattle.sdl_system.specs.Body.{Body}
use Rattle.sdl_system.specs.Process.{reaction_in, table_in, table_of}
use Rattle.sdl_system.specs.Table.{Stands}
use Rattle.sdl_system.specs.declared.id.ConditionId.{ConditionId}
use Rattle.sdl_system.specs.declared.id.NodeId.{NodeId}
use Rattle.sdl_system.specs.declared.id.StateId.{StateId}
use Rattle.sdl_system.specs.declared.process.Process.{Process}
use Rattle.sdl_system.specs.declared.process.State as declared
use Rattle.sdl_system.specs.declared.state.Continuous.{Continuous}
use Rattle.sdl_system.specs.declared.state.Reaction.{Reaction}
use Rattle.sdl_system.specs.declared.state.Reaction.TheVariants as react
use Rattle.sdl_system.specs.declared.state.Reception.{Reception}
use Rattle.sdl_system.specs.declared.state.StateTable.{StateTable}

-- ---- lists

-- there is something at a place that a list has
there_is : {X : Type 0} (xs : List X) (k : ℕ) → k < length xs → (x : X) × (slice_get xs k ≡ Some x)
there_is [] k within = absurd (omega arith)
there_is (x ∷ xs) k within = (get_or (x ∷ xs) k x, slice_get-get_or (x ∷ xs) k x within)

-- ---- the table of a state

table_at : (process : Process) (entries : List NodeId) (state : Option declared.State) (table : StateTable)
    (meaning : StateMeaning) → IsSomeAnd state (λ one. MeansState process entries one meaning)
    → table_in process state ≡ Some table → MeansTable process entries table meaning
table_at process entries None table meaning means is = absurd means
table_at process entries (Some one) table meaning means is =
    subst (λ (t : StateTable). MeansTable process entries t meaning)
    (same_Some means.table table (sym means.listed ∙ is)) means.does

state_means : (process : Process) (p : Behaviour) (means : Means process p) (n : StateId) (meaning : StateMeaning)
    → slice_get p.states n.0 ≡ Some meaning
    → IsSomeAnd (slice_get process.states.items n.0) (λ one. MeansState process means.entries one meaning)
state_means process p means n meaning is =
    subst (λ (o : Option StateMeaning). MatchOption o (Unit {0})
    (λ y. IsSomeAnd (slice_get process.states.items n.0) (λ one. MeansState process means.entries one y))) is
    (AllZip-right (MeansState process means.entries) process.states.items p.states means.states_are n.0)

-- the table of a state does what the state means
pub table_means : (process : Process) (p : Behaviour) (means : Means process p) (n : StateId) (table : StateTable)
    (meaning : StateMeaning) → table_of process n ≡ Some table → slice_get p.states n.0 ≡ Some meaning
    → MeansTable process means.entries table meaning
table_means process p means n table meaning listed is =
    table_at process means.entries (slice_get process.states.items n.0) table meaning
    (state_means process p means n meaning is) listed

-- ---- bodies

-- A body of this number begins at this node.
pub record Begins (process : Process) (p : Behaviour) (means : Means process p) (number : ℕ)
    (node : NodeId) : Type 0 where
  pub next : Body
  pub listed : slice_get p.bodies number ≡ Some next
  pub stands : Stands process.nodes.items means.bodies_are.marks (Some node) next

body_begins : (process : Process) (p : Behaviour) (means : Means process p) (number : ℕ) (node : NodeId)
    → slice_get means.entries number ≡ Some node → Begins process p means number node
body_begins process p means number node entry =
    let within : number < length p.bodies =
    subst (λ count. number < count) means.sized (slice_get_within means.entries number node entry) in
    let body : (x : Body) × (slice_get p.bodies number ≡ Some x) = there_is p.bodies number within in
    let at = means.bodies_are.begins number body.0 body.1 in
    record {
      next = body.0;
      listed = body.1;
      stands = subst (λ (n : NodeId). Stands process.nodes.items means.bodies_are.marks (Some n) body.0)
          (same_Some at.entry node (sym at.listed ∙ entry)) at.stands;
    }

-- the start
pub start_begins : (process : Process) (p : Behaviour) (means : Means process p)
    → Begins process p means p.start process.start
start_begins process p means = body_begins process p means p.start process.start means.start_is

-- ---- inputs

-- A reception of this response, whatever body it begins.
pub record BeginsInput (process : Process) (p : Behaviour) (means : Means process p) (response : Option Response)
    (reception : Reception) : Type 0 where
  pub next : Body
  pub inputs : Inputs p response reception.variables.items next
  pub stands : Stands process.nodes.items means.bodies_are.marks (Some reception.begin) next

pub record BeginsPriority (process : Process) (p : Behaviour) (means : Means process p) (response : Option Response)
    (reception : Reception) : Type 0 where
  pub next : Body
  pub inputs : IsPriorityInput p response reception.variables.items next
  pub stands : Stands process.nodes.items means.bodies_are.marks (Some reception.begin) next

module _ (process : Process) (p : Behaviour) (means : Means process p) where
  by_input : (reception : Reception) (condition : Option ConditionId) (response : Option Response)
      → MeansResponse process means.entries (Some (react.Input reception condition)) response
      → BeginsInput process p means response reception
  by_input reception condition None is = absurd is
  by_input reception condition (Some (input variables term number)) is =
      let begins = body_begins process p means number reception.begin is.2 in
      record {
        next = begins.next;
        inputs = record {
          number = number;
          condition = term;
          is = ap (λ list. Some (input list term number)) (sym is.0);
          begins = begins.listed;
        };
        stands = begins.stands;
      }
  by_input reception condition (Some (priority_input variables number)) is = absurd is
  by_input reception condition (Some save) is = absurd is

  by_priority : (reception : Reception) (response : Option Response)
      → MeansResponse process means.entries (Some (react.Priority reception)) response
      → BeginsPriority process p means response reception
  by_priority reception None is = absurd is
  by_priority reception (Some (input variables term number)) is = absurd is
  by_priority reception (Some (priority_input variables number)) is =
      let begins = body_begins process p means number reception.begin is.1 in
      record {
        next = begins.next;
        inputs = record {
          number = number;
          is = ap (λ list. Some (priority_input list number)) (sym is.0);
          begins = begins.listed;
        };
        stands = begins.stands;
      }
  by_priority reception (Some save) is = absurd is

  reacts : (n : StateId) (state : StateMeaning) (signal : SignalId) (reaction : Option Reaction)
      → slice_get p.states n.0 ≡ Some state → reaction_in process n signal ≡ reaction
      → MeansResponse process means.entries reaction (response_to p state signal)
  reacts n state signal reaction is does =
      subst (λ (r : Option Reaction). MeansResponse process means.entries r (response_to p state signal)) does
      (reacts_as_meant process p means n state is signal)

  -- what is consumed by an input begins its body
  pub input_begins : (n : StateId) (state : StateMeaning) (signal : SignalId) (reception : Reception)
      (condition : Option ConditionId) → slice_get p.states n.0 ≡ Some state
      → reaction_in process n signal ≡ Some (react.Input reception condition)
      → BeginsInput process p means (response_to p state signal) reception
  input_begins n state signal reception condition is does =
      by_input reception condition (response_to p state signal)
      (reacts n state signal (Some (react.Input reception condition)) is does)

  -- and so does what a priority input consumes
  pub priority_begins : (n : StateId) (state : StateMeaning) (signal : SignalId) (reception : Reception)
      → slice_get p.states n.0 ≡ Some state
      → reaction_in process n signal ≡ Some (react.Priority reception)
      → BeginsPriority process p means (response_to p state signal) reception
  priority_begins n state signal reception is does =
      by_priority reception (response_to p state signal)
      (reacts n state signal (Some (react.Priority reception)) is does)

-- ---- continuous signals

-- none was found
pub tried_none : (entries : List NodeId) (t : Tried) → IsTried entries None t → t ≡ none_true
tried_none entries (begins number body) is = absurd is
tried_none entries (fails why) is = absurd is
tried_none entries none_true is = refl

-- the one that was found begins
tried_one : (entries : List NodeId) (signal : Continuous) (t : Tried) → IsTried entries (Some signal) t
    → (body : ℕ) × (t ≡ begins signal.number body) × (slice_get entries body ≡ Some signal.begin)
tried_one entries signal (begins number body) is = (body, ap (λ n. begins n body) (sym is.0), is.1)
tried_one entries signal (fails why) is = absurd is
tried_one entries signal none_true is = absurd is

-- A continuous signal that was found begins this body.
pub record BeginsFound (process : Process) (p : Behaviour) (means : Means process p) (here : Environment)
    (state : StateMeaning) (signal : Continuous) : Type 0 where
  pub number : ℕ
  pub tries : tried here state.continuous ≡ begins signal.number number
  pub begun : Begins process p means number signal.begin

pub found_begins : (process : Process) (p : Behaviour) (means : Means process p) (here : Environment)
    (state : StateMeaning) (signal : Continuous)
    → IsTried means.entries (Some signal) (tried here state.continuous)
    → BeginsFound process p means here state signal
found_begins process p means here state signal found =
    let one = tried_one means.entries signal (tried here state.continuous) found in
    record {
      number = one.0;
      tries = one.1;
      begun = body_begins process p means one.0 signal.begin one.2;
    }

no_table : (process : Process) (entries : List NodeId) (one : declared.State) (meant : Option StateMeaning)
    → IsSomeAnd meant (MeansState process entries one) → slice_get process.tables.items one.table.0 ≡ None → ⊥
no_table process entries one None means none = means
no_table process entries one (Some meaning) means none =
    let same : Some means.table ≡ None = sym means.listed ∙ none in cc

-- each state has a table
pub has_table : (process : Process) (p : Behaviour) (means : Means process p) (n : StateId)
    → n.0 < length process.states.items → table_of process n ≡ None → ⊥
has_table process p means n within none =
    let one : (x : declared.State) × (slice_get process.states.items n.0 ≡ Some x) =
    there_is process.states.items n.0 within in
    no_table process means.entries one.0 (slice_get p.states n.0)
    (subst (λ (o : Option declared.State). MatchOption o (Unit {0})
    (λ x. IsSomeAnd (slice_get p.states n.0) (MeansState process means.entries x))) one.1
    (AllZip-left (MeansState process means.entries) process.states.items p.states means.states_are n.0))
    (subst (λ (o : Option declared.State). table_in process o ≡ None) one.1 none)

inside_by : (process : Process) (n : StateId) (table : StateTable) (o : Option declared.State)
    → slice_get process.states.items n.0 ≡ o → table_in process o ≡ Some table → n.0 < length process.states.items
inside_by process n table None got listed = let same : None ≡ Some table = listed in cc
inside_by process n table (Some one) got listed = slice_get_within process.states.items n.0 one got

-- what has a table is a state of the process
pub is_inside : (process : Process) (n : StateId) (table : StateTable) → table_of process n ≡ Some table
    → n.0 < length process.states.items
is_inside process n table listed = inside_by process n table (slice_get process.states.items n.0) refl listed
