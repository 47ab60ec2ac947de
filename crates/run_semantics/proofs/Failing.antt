-- A transition that fails ends its instance, wherever it is.
use Rattle.std.proofs.Common.{refl, None, Some, [], ◌∷◌}
use Rattle.port_model.specs.History.{Stop}
use Rattle.port_model.specs.Port.{PortState}
use Rattle.run_record.specs.declared.evaluation.identity.Identity.{Identity}
use Rattle.run_record.specs.declared.evaluation.store.Store.{Store}
use Rattle.run_record.specs.Event as event
use Rattle.run_record.specs.declared.failure.Failure.{Failure}
use Rattle.run_semantics.specs.Fails.{Fails}
use Rattle.run_semantics.specs.Leads.{Leads}
use Rattle.run_semantics.specs.ControlPoint.{Amid, AtStart, Closed, Definition, Doing, Ended, In, ControlPoint, Receiving}
use Rattle.sdl_system.specs.Body as body

pub leads_failed : (d : Definition) (who : Identity) (q : PortState) (at : ControlPoint) (s : Store) (why : Failure)
    → Fails d who q at s why
    → Leads d who q at s (record { event = event.Failed why; calls = Stop ∷ []; effects = [] }) Ended s
leads_failed d who q AtStart s why fails = (refl, refl, fails, refl, refl)
leads_failed d who q (In n) s why fails = (refl, refl, fails, refl, refl)
leads_failed d who q (Receiving origin variables values rest) s why fails = (refl, refl, fails, refl, refl)
leads_failed d who q (Doing origin body.nothing) s why fails = (refl, refl, fails, refl, refl)
leads_failed d who q (Doing origin (body.action first rest)) s why fails = (refl, refl, fails, refl, refl)
leads_failed d who q (Doing origin (body.decision question parts rest)) s why fails = (refl, refl, fails, refl, refl)
leads_failed d who q (Doing origin (body.label number rest)) s why fails = (refl, refl, fails, refl, refl)
leads_failed d who q (Doing origin (body.ending (body.join label))) s why fails = (refl, refl, fails, refl, refl)
leads_failed d who q (Doing origin (body.ending (body.to_state n))) s why fails = (refl, refl, fails, refl, refl)
leads_failed d who q (Doing None (body.ending body.to_same)) s why fails = (refl, refl, fails, refl, refl)
leads_failed d who q (Doing (Some n) (body.ending body.to_same)) s why fails = (refl, refl, fails, refl, refl)
leads_failed d who q (Doing origin (body.ending body.stop)) s why fails = (refl, refl, fails, refl, refl)
leads_failed d who q (Amid origin (body.task []) rest) s why fails = (refl, refl, fails, refl, refl)
leads_failed d who q (Amid origin (body.task (one ∷ more)) rest) s why fails = (refl, refl, fails, refl, refl)
leads_failed d who q (Amid origin (body.output [] whom) rest) s why fails = (refl, refl, fails, refl, refl)
leads_failed d who q (Amid origin (body.output (one ∷ more) whom) rest) s why fails = (refl, refl, fails, refl, refl)
leads_failed d who q (Amid origin (body.set []) rest) s why fails = (refl, refl, fails, refl, refl)
leads_failed d who q (Amid origin (body.set (one ∷ more)) rest) s why fails = (refl, refl, fails, refl, refl)
leads_failed d who q (Amid origin (body.reset []) rest) s why fails = (refl, refl, fails, refl, refl)
leads_failed d who q (Amid origin (body.reset (one ∷ more)) rest) s why fails = (refl, refl, fails, refl, refl)
leads_failed d who q (Amid origin (body.create process terms) rest) s why fails = (refl, refl, fails, refl, refl)
leads_failed d who q Ended s why fails = (refl, refl, fails, refl, refl)
leads_failed d who q Closed s why fails = (refl, refl, fails, refl, refl)
