-- What instances were given as they were created, by what each keeps of it (Z.102: create, formal parameter).
use Rattle.std.specs.Prelude.{◌≡◌, ℕ, List, [], All, map, slice_index_or}
use Rattle.port_model.specs.declared.values.pid.Pid.TheVariants.{Null}
use Rattle.port_model.specs.declared.values.value.Value.{Value}
use Rattle.run_record.specs.Record.{RecordValue}
use Rattle.settle_checks.specs.Account.{AllAt}
use Rattle.threads_instance.specs.declared.doings.Child.{Child}
use Rattle.threads_instance.specs.declared.doings.Gifts.{Gifts}

-- the values with which the instance at a place began, and its children
abbrev pub given_at : List Gifts → ℕ → List Value
given_at gifts k = slice_index_or (map (λ (one : Gifts). one.given) gifts) k []

abbrev pub children_at : List Gifts → ℕ → List Child
children_at gifts k = slice_index_or (map (λ (one : Gifts). one.children.items) gifts) k []

-- the values with which the instance of a number began, by the place of its record
abbrev pub given_by : List ℕ → List Gifts → ℕ → List Value
given_by places gifts number = given_at gifts (slice_index_or places number 0)

-- a child got the values of its number
abbrev pub GetsThese : (ℕ → List Value) → Child → Type 0
GetsThese given child = child.values ≡ given child.number

-- The instance of this record began with the values of its number, with none if the system begins with it, and its children
-- got those of theirs.
pub record IsGivenOne (given : ℕ → List Value) (trace : RecordValue) (own : List Value) (children : List Child)
    : Type 0 where
  pub begins : own ≡ given trace.pid
  pub first : trace.parent ≡ Null → own ≡ []
  pub gives : All (GetsThese given) children

-- so it is of each record, for some values of each number
pub record AreAllGiven (records : List RecordValue) (gifts : List Gifts) : Type 0 where
  pub given : ℕ → List Value
  pub each : AllAt (λ k (trace : RecordValue). IsGivenOne given trace (given_at gifts k) (children_at gifts k)) records
