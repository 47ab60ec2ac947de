-- What an instance makes of what its port gives (Z.102: input).
use Rattle.std.specs.Prelude.{◌≡◌, ℕ, List, Option, Some, slice_get, slice_set}
use Rattle.std.specs.Option.{option_map}
use Rattle.port_model.specs.declared.got.Got.{Got}
use Rattle.port_model.specs.declared.got.Got.TheVariants.{Signal, Timer}
use Rattle.port_model.specs.declared.values.pid.Pid.{Pid}
use Rattle.port_model.specs.declared.values.pid.Pid.TheVariants.{Of}
use Rattle.port_model.specs.declared.values.value.Value.{Value}
use Rattle.run_record.specs.declared.evaluation.identity.Identity.{Identity}
use Rattle.run_record.specs.declared.evaluation.store.Store.{Store}
use Rattle.sdl_system.specs.Behaviour.{Behaviour, Response, VariableMeaning, input, priority_input}
use Rattle.sdl_system.specs.Body.{Body}
use Rattle.sdl_system.specs.Term.{Term}
use Rattle.sdl_system.specs.declared.id.VariableId.{VariableId}
use Rattle.sdl_system.specs.declared.sort.Sort.{Sort}

-- the sender of a timer's signal is the instance itself
abbrev pub sender_of : Identity → Got → Pid
sender_of who (Signal item) = item.sender
sender_of who (Timer key) = Of who.pid

-- what is known once something was taken from the port, at this time
abbrev pub taking : Identity → ℕ → Got → Store → Store
taking who at got s = record s { sender = sender_of who got; time = at }

-- and once its transition begins
abbrev pub receiving : Identity → ℕ → Got → Store → Store
receiving who at got s = record s { sender = sender_of who got; time = at; done = 0 }

-- what is known once the transition of a continuous signal begins
abbrev pub provided : Identity → ℕ → Store → Store
provided who at s = record s { sender = Of who.pid; time = at; done = 0 }

-- what is known once a variable has this value
abbrev pub assigned : VariableId → Value → Store → Store
assigned variable value s = record s { variables = slice_set s.variables variable.0 (Some value) }

-- the sort of a variable
abbrev pub sort_in : Behaviour → VariableId → Option Sort
sort_in p variable = option_map (λ (v : VariableMeaning). v.sort) (slice_get p.variables variable.0)

-- an input, and the same for a priority input: its variables, and the body that begins
pub record Inputs (p : Behaviour) (response : Option Response) (variables : List (Option VariableId))
    (body : Body) : Type 0 where
  pub number : ℕ
  pub condition : Option Term
  pub is : response ≡ Some (input variables condition number)
  pub begins : slice_get p.bodies number ≡ Some body

pub record IsPriorityInput (p : Behaviour) (response : Option Response) (variables : List (Option VariableId))
    (body : Body) : Type 0 where
  pub number : ℕ
  pub is : response ≡ Some (priority_input variables number)
  pub begins : slice_get p.bodies number ≡ Some body
