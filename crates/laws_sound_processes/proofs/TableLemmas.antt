-- The tables of states hold numbers of something.
use Rattle.std.proofs.Common.{◌≡◌, ◌∙◌, ◌<◌, ◌≤◌, ℕ, zero, suc, All, IfSome, List, [], ◌∷◌, Option, None, Some, ap, arith, length, map, refl, slice_get, subst, sym}
use Rattle.std.proofs.lemmas.List.Elements.{All-cons, All-head, All-nil, All-tail}
use Rattle.std.proofs.lemmas.Option.{slice_get_within}
use Rattle.std.specs.List.{AllZip}
use Rattle.port_model.specs.declared.values.item.SignalId.{SignalId}
use Rattle.build_process.proofs.EndLemmas.{map-some, some-same}
use Rattle.build_names.specs.FaultLaws.{Each}
use Rattle.laws_sound_processes.specs.Behaviours.{IsSoundBehaviour}
use Rattle.laws_sound_processes.specs.States as states
use Rattle.laws_sound_processes.specs.States.{IsSoundInput, IsSoundResponse, IsSoundState, TakeAll}
use Rattle.laws_sound_processes.specs.Tables.{IsSoundStateTable, StateTablesAreSound}
use Rattle.sdl_system.specs.Behaviour.{Behaviour, ContinuousSignal, Means, MeansCondition, MeansContinuous, MeansResponse, MeansState, Response, StateMeaning, condition_in, input, priority_input, save}
use Rattle.sdl_system.specs.Body as body
use Rattle.sdl_system.specs.Body.{Body, Ends}
use Rattle.sdl_system.specs.Process.{table_in}
use Rattle.sdl_system.specs.Soundness.{IsCondition, IsNode, IsSoundReaction, IsSoundReception, IsSoundRest, IsVariable}
use Rattle.sdl_system.specs.State.{named_reaction}
use Rattle.sdl_system.specs.System.{SystemValue}
use Rattle.sdl_system.specs.Table.{At, Has}
use Rattle.sdl_system.specs.Term.{Term, term_of}
use Rattle.sdl_system.specs.declared.id.ConditionId.{ConditionId}
use Rattle.sdl_system.specs.declared.id.NodeId.{NodeId}
use Rattle.sdl_system.specs.declared.id.StateId.{StateId}
use Rattle.sdl_system.specs.declared.id.VariableId.{VariableId}
use Rattle.sdl_system.specs.declared.process.Process.{Process}
use Rattle.sdl_system.specs.declared.process.State.{State}
use Rattle.sdl_system.specs.declared.sort.Sort.{Sort}
use Rattle.sdl_system.specs.declared.state.Continuous.{Continuous}
use Rattle.sdl_system.specs.declared.state.Enabling.{Enabling}
use Rattle.sdl_system.specs.declared.state.Reaction.{Reaction}
use Rattle.sdl_system.specs.declared.state.Reaction.TheVariants as react
use Rattle.sdl_system.specs.declared.state.Reception.{Reception}
use Rattle.sdl_system.specs.declared.state.StateTable.{StateTable}
use Rattle.sdl_system.specs.declared.statement.Node.{Node}
use Rattle.sdl_system.specs.declared.statement.Statement.{Statement}

-- ---- lists

each-all : {A : Type 0} (P : A → Type 0) (xs : List A) → Each P xs → All P xs
each-all P [] each = All-nil P
each-all P (x ∷ xs) each = All-cons P x xs each.0 (each-all P xs each.1)

all-each : {A : Type 0} (P : A → Type 0) (xs : List A) → All P xs → Each P xs
all-each P [] all = tt
all-each P (x ∷ xs) all = (All-head P x xs all, all-each P xs (All-tail P x xs all))

each-at : {A : Type 0} (P : A → Type 0) (xs : List A) (n : ℕ) (x : A) → Each P xs → slice_get xs n ≡ Some x → P x
each-at P [] zero x each at = absurd (let never : ⊥ = cc in never)
each-at P [] (suc n) x each at = absurd (let never : ⊥ = cc in never)
each-at P (y ∷ xs) zero x each at = let same : y ≡ x = cc in subst P same each.0
each-at P (y ∷ xs) (suc n) x each at = each-at P xs n x each.1 at

-- what holds of each element that gives something
each-source : {A B : Type 0} (P : A → Type 0) (f : A → Option B) (xs : List A) (ys : List B) →
    map f xs ≡ map Some ys → ((x : A) (y : B) → f x ≡ Some y → P x) → Each P xs
each-source P f [] ys is by = tt
each-source P f (x ∷ xs) [] is by = absurd (let never : ⊥ = cc in never)
each-source P f (x ∷ xs) (y ∷ ys) is by =
    let first : f x ≡ Some y = cc in
    let rest : map f xs ≡ map Some ys = cc in
    (by x y first, each-source P f xs ys rest by)

zip-source : {A B : Type 0} (R : A → B → Type 0) (P : A → Type 0) (xs : List A) (ys : List B) → AllZip R xs ys →
    ((x : A) (y : B) → R x y → P x) → Each P xs
zip-source R P [] [] zip by = tt
zip-source R P [] (y ∷ ys) zip by = tt
zip-source R P (x ∷ xs) [] zip by = absurd zip
zip-source R P (x ∷ xs) (y ∷ ys) zip by = (by x y zip.0, zip-source R P xs ys zip.1 by)

zip-at : {A B : Type 0} (R : A → B → Type 0) (xs : List A) (ys : List B) (n : ℕ) (x : A) → AllZip R xs ys →
    slice_get xs n ≡ Some x → (y : B) × (slice_get ys n ≡ Some y) × R x y
zip-at R [] ys zero x zip at = absurd (let never : ⊥ = cc in never)
zip-at R [] ys (suc n) x zip at = absurd (let never : ⊥ = cc in never)
zip-at R (z ∷ xs) [] n x zip at = absurd zip
zip-at R (z ∷ xs) (y ∷ ys) zero x zip at =
    let same : z ≡ x = cc in (y, refl, subst (λ w. R w y) same zip.0)
zip-at R (z ∷ xs) (y ∷ ys) (suc n) x zip at = zip-at R xs ys n x zip.1 at

get-some : {A : Type 0} (xs : List A) (n : ℕ) → n < length xs → (x : A) × (slice_get xs n ≡ Some x)
get-some [] n below = absurd (let never : ⊥ = omega (arith, below) in never)
get-some (x ∷ xs) zero below = (x, refl)
get-some (x ∷ xs) (suc n) below = get-some xs n (omega (arith, below))

-- ---- nodes

node-at : (nodes : List Node) (n : NodeId) (statement : Statement) (next : Option NodeId) →
    At nodes (Some n) statement next → n.0 < length nodes
node-at nodes n statement next at =
    let same : at.node ≡ n = sym (some-same n at.node at.here) in
    subst (λ (m : NodeId). m.0 < length nodes) same
    (slice_get_within nodes at.node.0 (record { statement = statement; next = next }) at.stands)

-- where statements stand that end, a node stands
node-of : (nodes : List Node) (marks : List (Option NodeId)) (n : NodeId) (b : Body) (to : Option NodeId) →
    Has nodes marks (Some n) b to → Ends b → n.0 < length nodes
node-of nodes marks n body.nothing to has ends = absurd ends
node-of nodes marks n (body.action first rest) to has ends =
    node-at nodes n (has.1).statement has.0 (has.1).at
node-of nodes marks n (body.decision question parts rest) to has ends = node-at nodes n _ has.1 (has.2).at
node-of nodes marks n (body.label number rest) to has ends = node-of nodes marks n rest to has.1 ends
node-of nodes marks n (body.ending terminator) to has ends = node-at nodes n has.statement has.next has.at

module _ (system : SystemValue) (process : Process) (p : Behaviour) (means : Means process p) where
  -- each body begins at a node
  entry-node : (number : ℕ) (entry : NodeId) → slice_get means.entries number ≡ Some entry → IsNode process entry
  entry-node number entry listed =
      let below = slice_get_within means.entries number entry listed in
      let sized = means.sized in
      let whole = get-some p.bodies number (omega (arith, below, sized)) in
      let begins = means.bodies_are.begins number whole.0 whole.1 in
      let same : begins.entry ≡ entry = some-same begins.entry entry (sym begins.listed ∙ listed) in
      subst (IsNode process) same
      (node-of process.nodes.items means.bodies_are.marks begins.entry whole.0 None begins.stands.has
      begins.stands.ends)

  -- ---- conditions

  condition-there : (number : ConditionId) (term : Term) → condition_in process number ≡ Some term →
      IsCondition process number
  condition-there number term is =
      let r = map-some term_of (slice_get process.conditions.items number.0) term is in
      slice_get_within process.conditions.items number.0 r.0 r.1

  means-condition : (number : Option ConditionId) (term : Option Term) → MeansCondition process number term →
      IfSome number (IsCondition process)
  means-condition None term is = tt
  means-condition (Some number) None is = absurd is
  means-condition (Some number) (Some term) is = condition-there number term is

  -- ---- inputs

  takes-few : (sorts : List Sort) (variables : List (Option VariableId)) → TakeAll process sorts variables →
      length variables ≤ length sorts
  takes-few sorts [] takes = omega arith
  takes-few [] (variable ∷ variables) takes = absurd takes
  takes-few (one ∷ sorts) (None ∷ variables) takes =
      let rest = takes-few sorts variables takes in omega (arith, rest)
  takes-few (one ∷ sorts) (Some number ∷ variables) takes =
      let rest = takes-few sorts variables takes.1 in omega (arith, rest)

  takes-there : (sorts : List Sort) (variables : List (Option VariableId)) → TakeAll process sorts variables →
      Each (λ (variable : Option VariableId). IfSome variable (IsVariable process)) variables
  takes-there sorts [] takes = tt
  takes-there [] (variable ∷ variables) takes = absurd takes
  takes-there (one ∷ sorts) (None ∷ variables) takes = (tt, takes-there sorts variables takes)
  takes-there (one ∷ sorts) (Some number ∷ variables) takes = (
    slice_get_within process.variables.items number.0 (takes.0).variable (takes.0).listed,
    takes-there sorts variables takes.1,
  )

  reception-sound : (signal : SignalId) (reception : Reception) (variables : List (Option VariableId)) (b : ℕ) →
      reception.variables.items ≡ variables → IsSoundInput system process signal variables →
      slice_get means.entries b ≡ Some reception.begin → IsSoundReception system process signal reception
  reception-sound signal reception variables b same sound listed =
      let takes = subst (TakeAll process (sound.signal).sorts.items) (sym same) sound.takes in
      record {
        signal = sound.signal;
        listed = sound.listed;
        fits = takes-few (sound.signal).sorts.items reception.variables.items takes;
        variables = each-all (λ (variable : Option VariableId). IfSome variable (IsVariable process))
            reception.variables.items (takes-there (sound.signal).sorts.items reception.variables.items takes);
        begins = entry-node b reception.begin listed;
      }

  module _ (count : ℕ) where
    reaction-sound : (signal : SignalId) (reaction : Option Reaction) (response : Option Response) →
        MeansResponse process means.entries reaction response →
        ((r : Response) → response ≡ Some r → IsSoundResponse system process count signal r) →
        IfSome reaction (IsSoundReaction system process signal)
    reaction-sound signal None None is sound = tt
    reaction-sound signal (Some (react.Input reception condition)) (Some (input variables term b)) is sound = (
      reception-sound signal reception variables b is.0 (sound (input variables term b) refl).0 is.2,
      means-condition condition term is.1,
    )
    reaction-sound signal (Some (react.Priority reception)) (Some (priority_input variables b)) is sound =
        reception-sound signal reception variables b is.0 (sound (priority_input variables b) refl).0 is.1
    reaction-sound signal (Some react.Save) (Some save) is sound = sound save refl
    reaction-sound signal reaction response is sound = absurd is

    no-places : (variables : List (Option VariableId)) (list : List (Option VariableId)) → list ≡ variables →
        variables ≡ [] → length list ≡ 0
    no-places variables list same none = ap length (same ∙ none)

    rest-sound : (reaction : Option Reaction) (response : Option Response) →
        MeansResponse process means.entries reaction response →
        IfSome response (states.IsSoundRest system process count) → IfSome reaction (IsSoundRest process)
    rest-sound None None is sound = tt
    rest-sound (Some (react.Input reception condition)) (Some (input variables term b)) is sound = (
      no-places variables reception.variables.items is.0 sound.0,
      entry-node b reception.begin is.2,
      means-condition condition term is.1,
    )
    rest-sound (Some (react.Priority reception)) (Some (priority_input variables b)) is sound = absurd sound
    rest-sound (Some react.Save) (Some save) is sound = tt
    rest-sound reaction response is sound = absurd is

    found-reaction : (signal : SignalId) (found : Option Reaction) (reaction : Reaction) → found ≡ Some reaction →
        IfSome found (IsSoundReaction system process signal) → IsSoundReaction system process signal reaction
    found-reaction signal found reaction is sound =
        subst (λ o. IfSome o (IsSoundReaction system process signal)) is sound

    -- ---- the table of a state

    continuous-there : (one : Continuous) (meaning : ContinuousSignal) →
        MeansContinuous process means.entries one meaning → IsCondition process one.condition × IsNode process one.begin
    continuous-there one meaning is = (
      condition-there one.condition meaning.condition is.condition_is,
      entry-node meaning.body one.begin is.begins,
    )

    table-sound : (state : State) (meaning : StateMeaning) (is : MeansState process means.entries state meaning) →
        IsSoundState system process count meaning → IsSoundStateTable system process is.table
    table-sound state meaning is sound = record {
      named = λ signal reaction found.
          found-reaction signal (named_reaction is.table.reactions signal) reaction found
          (reaction-sound signal (named_reaction is.table.reactions signal) (meaning.named signal)
          (is.does.named_is signal) (sound.named signal));
      rest = rest-sound is.table.rest meaning.rest is.does.rest_is sound.rest;
      conditions = each-all (λ (e : Enabling). IsCondition process e.condition) is.table.conditions.items
          (each-source (λ (e : Enabling). IsCondition process e.condition)
          (λ (e : Enabling). condition_in process e.condition) is.table.conditions.items meaning.enabling
          is.does.enabling_is (λ e term found. condition-there e.condition term found));
      continuous = each-all (λ (c : Continuous). IsCondition process c.condition × IsNode process c.begin)
          is.table.continuous.items
          (zip-source (MeansContinuous process means.entries)
          (λ (c : Continuous). IsCondition process c.condition × IsNode process c.begin) is.table.continuous.items
          meaning.continuous is.does.continuous_is continuous-there);
    }

  state-table : (sound : IsSoundBehaviour system process p) (number : StateId) (found : Option State)
      (table : StateTable) → slice_get process.states.items number.0 ≡ found → table_in process found ≡ Some table →
      IsSoundStateTable system process table
  state-table sound number None table at is = absurd (let never : ⊥ = cc in never)
  state-table sound number (Some state) table at is =
      let meant = zip-at (MeansState process means.entries) process.states.items p.states number.0 state
      means.states_are at in
      let same : (meant.2).table ≡ table = some-same (meant.2).table table (sym (meant.2).listed ∙ is) in
      subst (IsSoundStateTable system process) same
      (table-sound (length p.bodies) state meant.0 meant.2
      (each-at (IsSoundState system process (length p.bodies)) p.states number.0 meant.0
      (all-each (IsSoundState system process (length p.bodies)) p.states sound.states) meant.1))

pub state-tables-are-sound : StateTablesAreSound
state-tables-are-sound system process p means sound = (
  entry-node system process p means p.start process.start means.start_is,
  λ number table is.
      state-table system process p means sound number (slice_get process.states.items number.0) table refl is,
)
