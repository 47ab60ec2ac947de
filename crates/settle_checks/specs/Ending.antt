-- How a run ends (Z.101: system).
use Rattle.std.specs.Prelude.{ℕ, Bool, List, All}
use Rattle.run_record.specs.Record.{RecordValue}
use Rattle.sdl_script.specs.declared.script.ScriptLine.{ScriptLine}
use Rattle.settle_meaning.specs.Closed.{AreBy, Ends}
use Rattle.settle_meaning.specs.Puts.{Heard}
use Rattle.settle_meaning.specs.Settled.{IsEndOf}

-- The run ends as it is to, nothing happens after its end, and if it was cut, that is the latest time of all.
pub record IsEnding (whole : Bool) (lines : List ScriptLine) (limit : ℕ) (heard : List Heard)
    (records : List RecordValue) (end : ℕ) : Type 0 where
  pub ends : Ends whole lines limit heard records end
  pub ended : All (AreBy end) records
  pub is_end : IsEndOf whole records end
