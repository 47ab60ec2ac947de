-- With which values of their parameters instances begin (Z.102: create, formal parameter).
use Rattle.std.specs.Prelude.{◌≡◌, ℕ, List, [], All}
use Rattle.port_model.specs.declared.values.pid.Pid.TheVariants.{Null}
use Rattle.port_model.specs.declared.values.value.Value.{Value}
use Rattle.run_record.specs.Record.{RecordValue}
use Rattle.run_semantics.specs.Effect.{Create, Deed, Effect, effects_of}

-- an instance that is created gets the values of its number
abbrev pub GivesThese : (ℕ → List Value) → Effect → Type 0
GivesThese given (Create process number parent values) = values ≡ given number
GivesThese given effect = Unit {0}

-- The instance of this record began with these values, and has done this. They are the values of its number, and it gave
-- those of theirs to all that it created. An instance with which the system begins has none.
pub record AreGiven (given : ℕ → List Value) (trace : RecordValue) (values : List Value) (deeds : List Deed)
    : Type 0 where
  pub begins : values ≡ given trace.pid
  pub first : trace.parent ≡ Null → values ≡ []
  pub gives : All (GivesThese given) (effects_of deeds)
