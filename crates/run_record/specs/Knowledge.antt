-- What an expression is evaluated by.
use Rattle.port_model.specs.Port.{PortState}
use Rattle.run_record.specs.Environment.{Environment, environment}
use Rattle.run_record.specs.declared.evaluation.identity.Identity.{Identity}
use Rattle.run_record.specs.declared.evaluation.store.Store.{Store}
use Rattle.sdl_system.specs.System.{SystemValue}

-- The system, who the instance is, what it knows, and its port.
pub record KnowledgeValue : Type 0 where
  pub system : SystemValue
  pub who : Identity
  pub store : Store
  pub port : PortState

-- what the words of an expression stand for then
abbrev pub environment_of : KnowledgeValue → Environment
environment_of k = environment k.system k.who k.store k.port
