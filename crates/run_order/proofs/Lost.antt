-- Nothing that a step does outside is lost.
use Rattle.std.proofs.Common.{◌≡◌, ◌∙◌, ◌++◌, ℕ, List, [], ◌∷◌, None, Some, ap, refl, sym}
use Rattle.run_order.specs.OrderLaws.{NothingIsLost, effects_in}
use Rattle.run_order.specs.Pending.{all_pending, pending_by}
use Rattle.run_order.specs.declared.pending.Pending.{Pending}
use Rattle.run_record.specs.Event as event
use Rattle.run_record.specs.Event.{Event}
use Rattle.run_semantics.proofs.Acting.{AreActs, AreActsOf, runs_effects}
use Rattle.run_semantics.specs.Effect.{Deed, Effect, effects_of}

by_effects : (e : Event) (done known : List Effect) (rest : List Pending) → done ≡ known
    → effects_in (pending_by e known ∷ rest) ≡ known ++ effects_in rest
    → effects_in (pending_by e done ∷ rest) ≡ done ++ effects_in rest
by_effects e done known rest is goes =
    ap (λ all. effects_in (pending_by e all ∷ rest)) is ∙ goes ∙ ap (λ all. all ++ effects_in rest) (sym is)

-- an event of an instance does what is pending of it
one_event : (pid : ℕ) (e : Event) (done : List Effect) (rest : List Pending) → AreActsOf pid e done
    → effects_in (pending_by e done ∷ rest) ≡ done ++ effects_in rest
one_event pid (event.Output signal to values target) done rest are =
    by_effects (event.Output signal to values target) done _ rest are.1 refl
one_event pid (event.Set key due) done rest are = by_effects (event.Set key due) done _ rest are.1 refl
one_event pid (event.Create id None) done rest are = by_effects (event.Create id None) done [] rest are.1 refl
one_event pid (event.Create id (Some number)) done rest are =
    by_effects (event.Create id (Some number)) done _ rest are.1 refl
one_event pid (event.Start at) done rest are = by_effects (event.Start at) done [] rest are refl
one_event pid (event.Consumed at got) done rest are = by_effects (event.Consumed at got) done [] rest are refl
one_event pid (event.Prior at got) done rest are = by_effects (event.Prior at got) done [] rest are refl
one_event pid (event.Discarded at got) done rest are = by_effects (event.Discarded at got) done [] rest are refl
one_event pid (event.Provided at number) done rest are = by_effects (event.Provided at number) done [] rest are refl
one_event pid (event.FailedAt at why) done rest are = by_effects (event.FailedAt at why) done [] rest are refl
one_event pid (event.Task variable value) done rest are = by_effects (event.Task variable value) done [] rest are refl
one_event pid (event.Reset key) done rest are = by_effects (event.Reset key) done [] rest are refl
one_event pid (event.NextState state) done rest are = by_effects (event.NextState state) done [] rest are refl
one_event pid event.Stop done rest are = by_effects event.Stop done [] rest are refl
one_event pid (event.Failed why) done rest are = by_effects (event.Failed why) done [] rest are refl
one_event pid (event.Rest state) done rest are = by_effects (event.Rest state) done [] rest are refl
one_event pid (event.Cut state) done rest are = by_effects (event.Cut state) done [] rest are refl

all_events : (pid : ℕ) (deeds : List Deed) → AreActs pid deeds → effects_in (all_pending deeds) ≡ effects_of deeds
all_events pid [] are = refl
all_events pid (deed ∷ rest) are =
    one_event pid deed.event deed.effects (all_pending rest) are.0
    ∙ ap (λ more. deed.effects ++ more) (all_events pid rest are.1)

pub nothing_is_lost : NothingIsLost
nothing_is_lost = λ d who from to s t q r deeds history runs.
    all_events who.pid deeds (runs_effects d who from s q runs)
