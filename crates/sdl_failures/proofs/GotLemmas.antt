-- What an entry got, by where it came from.
use Rattle.std.proofs.Common.{◌≡◌, List, refl}
use Rattle.port_model.specs.Take.{name_of}
use Rattle.port_model.specs.declared.values.item.SignalId.{SignalId}
use Rattle.port_model.specs.declared.values.value.Value.{Value}
use Rattle.run_record.specs.Entry.{got_from}
use Rattle.run_record.specs.Event.{values_got}
use Rattle.run_record.specs.declared.entry.Origin as origin
use Rattle.run_record.specs.declared.entry.Origin.TheVariants as from

-- it has the name
pub name-got : (where_from : origin.Origin) (name : SignalId) (values : List Value)
    → name_of (got_from where_from name values) ≡ name
name-got from.Timer name values = refl
name-got from.Null name values = refl
name-got from.Env name values = refl
name-got (from.Instance number) name values = refl

-- and the values
pub values-got : (where_from : origin.Origin) (name : SignalId) (values : List Value)
    → values_got (got_from where_from name values) ≡ values
values-got from.Timer name values = refl
values-got from.Null name values = refl
values-got from.Env name values = refl
values-got (from.Instance number) name values = refl
