-- Ports that were counted, of records that close as the run ends.
use Rattle.std.proofs.Common.{subst, ℕ, Bool, List}
use Rattle.port_model.specs.Ends.{OwnerState}
use Rattle.port_model.specs.declared.values.item.Item.{Item}
use Rattle.run_record.specs.Record.{RecordValue}
use Rattle.settle_checks.specs.Account.{IsCountOf}
use Rattle.settle_checks.specs.Gathering.{CountedState}
use Rattle.settle_run.specs.Parts.{IsSettledPort}

-- what was seen of a count is so of the port of the record at this place
pub port_at : (puts : ℕ → ℕ → List Item) (owners : ℕ → OwnerState) (places : ℕ) (whole : Bool) (end k : ℕ)
    (trace : RecordValue) (counted : CountedState) → IsCountOf places k trace counted
    → IsSettledPort (puts counted.number) counted.places whole end (owners counted.at) trace
    → IsSettledPort (puts trace.pid) places whole end (owners k) trace
port_at puts owners places whole end k trace counted is port =
    subst (λ n. IsSettledPort (puts n) places whole end (owners k) trace) is.number
    (subst (λ n. IsSettledPort (puts counted.number) n whole end (owners k) trace) is.places_are
    (subst (λ n. IsSettledPort (puts counted.number) counted.places whole end (owners n) trace) is.at port))
