-- One event more is looked at.
use Rattle.std.proofs.Common.{◌≡◌, ◌∙◌, ◌++◌, ◌∷◌, [], List, ap, rules, subst, sym}
use Rattle.run_record.specs.Event.{Event}
use Rattle.run_record.specs.Told.{event_told}
use Rattle.settle_checks.proofs.LateLemmas.{sight_none}
use Rattle.settle_checks.proofs.SummingLists.{done_all, done_more}
use Rattle.settle_checks.specs.Flows.{sent_passes}
use Rattle.settle_checks.specs.Late.{IsSightOf}
use Rattle.settle_checks.specs.declared.summing.flows.Pass.{Pass}
use Rattle.settle_checks.proofs.summing.late.passes_of.Goals as goal

pub loop-told-init : goal.loop-told-init
loop-told-init c =
    let read : c.into_iter-told-iterator.result ≡ c.args.trace.now.events = search rules in
    ([], sym read, subst (λ (l : List Pass). IsSightOf [] 0 l) (sym c.new.ensures.items) sight_none)

pub loop-told-preserved : goal.loop-told-preserved
loop-told-preserved c =
    let done : List Event = c.loop-told.invariant.0 in
    let one : Event = event_told c.in-Some.told in (
      done ++ one ∷ [],
      done_more done c.next.new.self one _ _ c.loop-told.invariant.1 c.in-Some.ensures.steps,
      c.in_ok-note.ensures done c.in-Some.told.values.now c.loop-told.invariant.2,
    )

pub returns : goal.returns
returns c =
    let done : List Event = c.loop-told.invariant.0 in
    c.loop-told.invariant.2.passes_are
    ∙ ap (λ (l : List Event). sent_passes 0 l)
    (done_all done _ _ c.loop-told.invariant.1 c.in-None.ensures.steps.0)
