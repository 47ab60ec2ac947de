-- When the parts of a table agree with one another.
use Rattle.std.specs.Prelude.{◌≡◌, ◌↔◌, ◌≤◌, ℕ, Bool, List, Option, None, Some, Contains, length}
use Rattle.std.specs.List.{AllZip}
use Rattle.port_model.specs.Selection as selection
use Rattle.port_model.specs.declared.values.item.SignalId.{SignalId}
use Rattle.build_states.specs.Mentions.{Response, input, priority_input, save}
use Rattle.build_states.specs.Context.{Context}
use Rattle.build_states.specs.Reading.{body_read}
use Rattle.build_states.specs.States.{Table, named_in, table_named}
use Rattle.sdl_system.specs.Process.{choice_in}
use Rattle.sdl_system.specs.Soundness.{WaitsFor}
use Rattle.sdl_system.specs.declared.id.ConditionId.{ConditionId}
use Rattle.sdl_system.specs.declared.process.Process.{Process}
use Rattle.sdl_system.specs.declared.state.StateTable.{StateTable}
use Rattle.sdl_tree.specs.Tree.{BodyPart}
use Rattle.sdl_tree.specs.Words.{Spot}

-- the condition without which a signal waits of which this is said
abbrev pub said_condition : Option Response → Option ConditionId
said_condition None = None
said_condition (Some (input variables condition begin)) = condition
said_condition (Some (priority_input variables begin)) = None
said_condition (Some save) = None

-- Each condition of a state stands among its enabling conditions, and that of an asterisk with no signal that is named.
pub record AreEnabling (said : Table) : Type 0 where
  pub named : (signal : SignalId) (condition : ConditionId) →
      said_condition (named_in said.answers.named signal) ≡ Some condition → Contains said.enabling condition
  pub rest : (condition : ConditionId) → said_condition said.answers.rest ≡ Some condition →
      Contains said.enabling condition
  pub apart : (signal : SignalId) (condition : ConditionId) →
      said_condition (named_in said.answers.named signal) ≡ Some condition →
      said_condition said.answers.rest ≡ Some condition → ⊥

-- It is so with what each state of a text says, whatever rules are broken in it.
abbrev pub StatesAreEnabling : Type 0
StatesAreEnabling = (context : Context) (body : List BodyPart) (name : Spot) →
    AreEnabling (table_named (body_read context body).parts name)

-- The selection has the class of each signal, and the conditions stand with the signals that are inputs under them.
pub record Agrees (process : Process) (said : Table) (table : StateTable) : Type 0 where
  pub selects : (signal : SignalId) →
      selection.class_of table.selection signal ≡ (choice_in process table signal).class
  pub waits : AreEnabling said → (signal : SignalId) (condition : ConditionId) →
      ((choice_in process table signal).condition ≡ Some condition) ↔ WaitsFor process table signal condition

-- in each process with this valid input set, of so many signals
abbrev pub TablesAgree : List Bool → ℕ → List Table → List StateTable → Type 0
TablesAgree valid count said made = (process : Process) → process.valid ≡ valid → length valid ≤ count →
    AllZip (Agrees process) said made
