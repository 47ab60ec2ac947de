-- What a transition does, as plain data (Z.102: transition, task, output, set, reset, create, decision, join,
-- nextstate, stop).
use Rattle.std.specs.Prelude.{◌⊎◌, ℤ, List, Option, Some, None, if◌then◌else◌}
use Rattle.port_model.specs.declared.values.item.SignalId.{SignalId}
use Rattle.port_model.specs.declared.values.value.Value.{Value}
use Rattle.sdl_system.specs.Answer.{meets_one}
use Rattle.sdl_system.specs.Term.{Term}
use Rattle.sdl_system.specs.declared.answer.Answer.{Answer}
use Rattle.sdl_system.specs.declared.id.LabelId.{LabelId}
use Rattle.sdl_system.specs.declared.id.ProcessId.{ProcessId}
use Rattle.sdl_system.specs.declared.id.StateId.{StateId}
use Rattle.sdl_system.specs.declared.id.VariableId.{VariableId}

-- variable := value
pub record Assigning : Type 0 where
  pub variable : VariableId
  pub value : Term

-- a signal with its values
pub record Sending : Type 0 where
  pub signal : SignalId
  pub values : List Term

-- where signals are sent to
pub data Whither : Type 0 where
  to_process : (process : ProcessId) → Whither
  to_pid : (pid : Term) → Whither

-- a timer with its values
pub record Timing : Type 0 where
  pub timer : SignalId
  pub values : List Term

-- when a timer is due: at a time, or so many ticks from now
pub data When : Type 0 where
  at : (time : Term) → When
  after : (ticks : ℤ) → When

pub record Setting : Type 0 where
  pub timer : Timing
  pub due : When

-- what a statement does before the flow goes on behind it; one with a list is one action
pub data Action : Type 0 where
  task : (assignments : List Assigning) → Action
  output : (signals : List Sending) (to : Option Whither) → Action
  set : (timers : List Setting) → Action
  reset : (timers : List Timing) → Action
  create : (process : ProcessId) (values : List Term) → Action

-- what ends a path
pub data Terminator : Type 0 where
  join : (label : LabelId) → Terminator
  to_state : (state : StateId) → Terminator
  -- to the state from which the transition began
  to_same : Terminator
  stop : Terminator

-- A body is a list that carries its end: what follows a terminator isn't there.
mutual
  pub data Body : Type 0 where
    nothing : Body
    action : (first : Action) (rest : Body) → Body
    decision : (question : Term) (parts : Parts) (rest : Body) → Body
    label : (number : LabelId) (rest : Body) → Body
    ending : (terminator : Terminator) → Body

  -- the parts of a decision in the order of the text; behind them `else`, where it stands
  pub data Parts : Type 0 where
    no_part : Parts
    otherwise : (body : Body) → Parts
    part : (answers : List Answer) (body : Body) (rest : Parts) → Parts

-- b stands behind a: that is so of each path of a that has no end of its own
abbrev pub followed : Body → Body → Body
followed nothing b = b
followed (action first rest) b = action first (followed rest b)
followed (decision question parts rest) b = decision question parts (followed rest b)
followed (label number rest) b = label number (followed rest b)
followed (ending terminator) b = ending terminator

-- the part of a decision that the value of its question chooses: the first that has an answer which it meets
abbrev pub chosen : Value → Parts → Option Body
chosen value no_part = None
chosen value (otherwise body) = Some body
chosen value (part answers body rest) = if meets_one value answers then Some body else chosen value rest

-- no path runs off the end
abbrev mutual
  pub Ends : Body → Type 0
  Ends nothing = ⊥
  Ends (action first rest) = Ends rest
  Ends (decision question parts rest) = AllEnd parts ⊎ Ends rest
  Ends (label number rest) = Ends rest
  Ends (ending terminator) = Unit {0}

  pub AllEnd : Parts → Type 0
  AllEnd no_part = Unit {0}
  AllEnd (otherwise body) = Ends body
  AllEnd (part answers body rest) = Ends body × AllEnd rest

-- the statements from a label on, with all that follows them
mutual
  pub data FromLabel (l : LabelId) : Body → Body → Type 0 where
    here : (rest : Body) → FromLabel l (label l rest) rest
    past_action : (first : Action) (rest on : Body) → FromLabel l rest on → FromLabel l (action first rest) on
    past_label : (number : LabelId) (rest on : Body) → FromLabel l rest on → FromLabel l (label number rest) on
    past_decision : (question : Term) (parts : Parts) (rest on : Body) → FromLabel l rest on
        → FromLabel l (decision question parts rest) on
    within : (question : Term) (parts : Parts) (rest on : Body) → InParts l parts on
        → FromLabel l (decision question parts rest) (followed on rest)

  pub data InParts (l : LabelId) : Parts → Body → Type 0 where
    in_otherwise : (body on : Body) → FromLabel l body on → InParts l (otherwise body) on
    in_first : (answers : List Answer) (body : Body) (rest : Parts) (on : Body) → FromLabel l body on
        → InParts l (part answers body rest) on
    in_later : (answers : List Answer) (body : Body) (rest : Parts) (on : Body) → InParts l rest on
        → InParts l (part answers body rest) on
