-- Outputs, and the processes of those whom they reach.
use Rattle.std.proofs.Common.{◌≡◌, ◌<◌, get_or, length, refl, subst, sym, ℕ, List, None, Some}
use Rattle.std.specs.Prelude.{Contains}
use Rattle.std.proofs.lemmas.List.Elements.{All-get_or}
use Rattle.run_record.specs.Event as event
use Rattle.run_record.specs.Event.{Event}
use Rattle.run_record.specs.Record.{RecordValue}
use Rattle.sdl_system.specs.System.{SystemValue}
use Rattle.sdl_system.specs.declared.id.ProcessId.{ProcessId}
use Rattle.settle_checks.proofs.Lists.{all_mapped}
use Rattle.settle_checks.specs.Events.{IsProcessOf, routed_in}
use Rattle.settle_checks.specs.declared.targets.Routed.{Routed}
use Rattle.settle_meaning.specs.Identities.{identities_of, identity_of}
use Rattle.settle_meaning.specs.Living.{GoesBy, IsMeant}

module _ (system : SystemValue) (records : List RecordValue) (process : ProcessId) where
  pub no_output : (happened : Event) → routed_in process happened ≡ None → IsMeant system records process happened
  no_output (event.Output signal to values target) none = let wrong : ⊥ = cc in absurd wrong
  no_output (event.Start at) none = tt
  no_output happened none = tt

  pub output_meant : (happened : Event) (r : Routed) → routed_in process happened ≡ Some r
      → GoesBy system records r.signal r.from r.to r.target → IsMeant system records process happened
  output_meant (event.Output signal to values target) r is goes =
      subst (λ (r : Routed). GoesBy system records r.signal r.from r.to r.target) (sym (same_some is)) goes where
        same_some : {a b : Routed} → Some a ≡ Some b → a ≡ b
        same_some e = cc
  output_meant (event.Start at) r is goes = tt
  output_meant happened r is goes = tt

-- the record of this number
pub process_is : (records : List RecordValue) (i : ℕ) (trace : RecordValue) (number : ℕ) → i < length records
    → trace ≡ get_or records i trace → trace.pid ≡ number → IsProcessOf records number trace.process
process_is records i trace number within is same = record {
  who = identity_of trace;
  among = subst (λ t. Contains (identities_of records) (identity_of t)) (sym is)
      (All-get_or (λ t. Contains (identities_of records) (identity_of t)) records i trace within
      (all_mapped identity_of records));
  process_is = refl;
  number_is = same;
}
