-- Each output is one of those that were routed.
use Rattle.std.proofs.Common.{◌≡◌, refl, subst, sym, List, All, None, Option, Some}
use Rattle.std.specs.Prelude.{Contains, IfSome}
use Rattle.std.proofs.lemmas.List.Elements.{All-contains, All-weaker}
use Rattle.run_record.specs.Event as event
use Rattle.run_record.specs.Event.{Event}
use Rattle.run_record.specs.Record.{RecordValue}
use Rattle.sdl_system.specs.System.{SystemValue}
use Rattle.sdl_system.specs.declared.id.ProcessId.{ProcessId}
use Rattle.settle_checks.specs.Events.{routed_in}
use Rattle.settle_checks.specs.declared.targets.Routed.{Routed}
use Rattle.settle_meaning.specs.Living.{AreMeant, GoesBy, IsMeant}
use Rattle.settle_checks.specs.Routes.{IsRight}
use Rattle.settle_checks.specs.Summary.{IsAmong, IsSummary}
use Rattle.settle_checks.specs.declared.summing.summary.Summary.{Summary}

module _ (system : SystemValue) (records : List RecordValue) (process : ProcessId) where
  no_output : (happened : Event) → routed_in process happened ≡ None → IsMeant system records process happened
  no_output (event.Output signal to values target) none = let wrong : ⊥ = cc in absurd wrong
  no_output (event.Start at) none = tt
  no_output happened none = tt

  output_meant : (happened : Event) (r : Routed) → routed_in process happened ≡ Some r
      → GoesBy system records r.signal r.from r.to r.target → IsMeant system records process happened
  output_meant (event.Output signal to values target) r is goes =
      subst (λ (r : Routed). GoesBy system records r.signal r.from r.to r.target) (sym (same_some is)) goes where
        same_some : {a b : Routed} → Some a ≡ Some b → a ≡ b
        same_some e = cc
  output_meant (event.Start at) r is goes = tt
  output_meant happened r is goes = tt

  meant_one : (routed : List Routed) → All (IsRight system records) routed → (happened : Event)
      → IsAmong process routed happened → IsMeant system records process happened
  meant_one routed right happened among = by_output (routed_in process happened) refl among where
    by_output : (o : Option Routed) → routed_in process happened ≡ o → IfSome o (Contains routed)
        → IsMeant system records process happened
    by_output None is there = no_output happened is
    by_output (Some r) is there = output_meant happened r is (All-contains (IsRight system records) routed r right there)

pub record_meant : (system : SystemValue) (records : List RecordValue) (trace : RecordValue) (sum : Summary)
    → IsSummary trace sum → All (IsRight system records) sum.sending.routed.items → AreMeant system records trace
record_meant system records trace sum is right =
    All-weaker (IsAmong trace.process sum.sending.routed.items) (IsMeant system records trace.process)
    (meant_one system records trace.process sum.sending.routed.items right) trace.events is.sending.each
