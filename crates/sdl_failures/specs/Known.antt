-- What an instance knows.
use Rattle.port_model.specs.Port.{PortState}
use Rattle.run_record.specs.Environment.{Environment, environment}
use Rattle.run_record.specs.declared.evaluation.identity.Identity.{Identity}
use Rattle.run_record.specs.declared.evaluation.store.Store.{Store}
use Rattle.sdl_system.specs.System.{SystemValue}

-- its store, and its port, of which only the active timers count
pub record KnownValue : Type 0 where
  pub store : Store
  pub port : PortState

-- what the words of an expression stand for then
abbrev pub here_by : SystemValue → Identity → KnownValue → Environment
here_by system who known = environment system who known.store known.port
