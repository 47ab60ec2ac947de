-- The readers of a process answer what it means.
use Rattle.std.proofs.Common.{◌≡◌, Bool, true, false, IsSomeAnd, List, MatchOption, Option, None, Some, slice_get, subst, sym}
use Rattle.std.proofs.lemmas.Slice.Zip.{AllZip-right}
use Rattle.port_model.specs.declared.values.item.SignalId.{SignalId}
use Rattle.sdl_system.specs.Behaviour.{Behaviour, Means, MeansResponse, MeansState, Response, StateMeaning, response_to}
use Rattle.sdl_system.specs.Process.{reaction_by, reaction_in, table_in}
use Rattle.sdl_system.specs.Signal.{is_member}
use Rattle.sdl_system.specs.State.{named_reaction, or_rest}
use Rattle.sdl_system.specs.declared.id.NodeId.{NodeId}
use Rattle.sdl_system.specs.declared.id.StateId.{StateId}
use Rattle.sdl_system.specs.declared.process.Process.{Process}
use Rattle.sdl_system.specs.declared.process.State as declared
use Rattle.sdl_system.specs.declared.state.Reaction.{Reaction}
use Rattle.sdl_system.specs.declared.state.Reaction.TheVariants as react
use Rattle.sdl_system.specs.declared.state.StateTable.{StateTable}

module _ (process : Process) (entries : List NodeId) where
  chosen : (b : Bool) (rest : Option Reaction) (rest' : Option Response) → MeansResponse process entries rest rest'
      → MeansResponse process entries (or_rest None b rest) (or_rest None b rest')
  chosen true rest rest' means = means
  chosen false rest rest' means = tt

  either : (b : Bool) (named rest : Option Reaction) (named' rest' : Option Response)
      → MeansResponse process entries named named'
      → MeansResponse process entries rest rest' → MeansResponse process entries (or_rest named b rest)
      (or_rest named' b rest')
  either b None rest None rest' by_name by_rest = chosen b rest rest' by_rest
  either b None rest (Some r) rest' by_name by_rest = absurd by_name
  either b (Some (react.Input reception condition)) rest None rest' by_name by_rest = absurd by_name
  either b (Some (react.Priority reception)) rest None rest' by_name by_rest = absurd by_name
  either b (Some react.Save) rest None rest' by_name by_rest = absurd by_name
  either b (Some named) rest (Some named') rest' by_name by_rest = by_name

  by_state : (state : Option declared.State) (meaning : StateMeaning) → IsSomeAnd state
      (λ one. MeansState process entries one meaning)
      → (valid : Bool) (signal : SignalId) → is_member process.valid signal ≡ valid
      → MeansResponse process entries (reaction_by process (table_in process state) signal)
      (or_rest (meaning.named signal) valid meaning.rest)
  by_state None meaning means valid signal is = absurd means
  by_state (Some one) meaning means valid signal is =
      let does = means.does in
      let at_table : MeansResponse process entries (reaction_by process (Some means.table) signal)
      (or_rest (meaning.named signal) valid meaning.rest) =
      subst (λ (b : Bool). MeansResponse process entries
      (or_rest (named_reaction means.table.reactions signal) b means.table.rest)
      (or_rest (meaning.named signal) valid meaning.rest)) (sym is)
      (either valid (named_reaction means.table.reactions signal) means.table.rest (meaning.named signal) meaning.rest
      (does.named_is signal) does.rest_is) in
      subst (λ (t : Option StateTable). MeansResponse process entries (reaction_by process t signal)
      (or_rest (meaning.named signal) valid meaning.rest)) (sym means.listed) at_table

pub reacts_as_meant : (process : Process) (behaviour : Behaviour) (means : Means process behaviour) (number : StateId)
    (state : StateMeaning)
    → slice_get behaviour.states number.0 ≡ Some state → (signal : SignalId)
    → MeansResponse process means.entries (reaction_in process number signal) (response_to behaviour state signal)
reacts_as_meant process behaviour means number state got signal =
    let found : IsSomeAnd (slice_get process.states.items number.0)
    (λ one. MeansState process means.entries one state) =
    subst (λ (o : Option StateMeaning). MatchOption o (Unit {0})
    (λ y. IsSomeAnd (slice_get process.states.items number.0) (λ one. MeansState process means.entries one y)))
    got (AllZip-right
    (MeansState process means.entries) process.states.items behaviour.states means.states_are number.0) in
    by_state process means.entries (slice_get process.states.items number.0) state found
    (behaviour.is_valid signal) signal (means.valid_is signal)
