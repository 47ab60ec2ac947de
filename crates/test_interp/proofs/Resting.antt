-- An instance that found nothing to do is at rest.
use Rattle.std.proofs.Common.{◌≡◌, subst, sym}
use Rattle.run_record.specs.declared.evaluation.identity.Identity.{Identity}
use Rattle.run_record.specs.declared.evaluation.store.Store.{Store}
use Rattle.sdl_interp.specs.Instance.{InstanceValue, IsAtRest, IsIdle, IsQuietAt, Keeps, Steps, work_of}
use Rattle.sdl_interp.specs.declared.instance.Stepped.{Stepped}
use Rattle.sdl_interp.specs.declared.instance.Stepped.TheVariants as stepped
use Rattle.sdl_interp.specs.Stimulus.{WaitsAt}
use Rattle.run_semantics.specs.Leads.{IsQuiet}
use Rattle.run_semantics.specs.ControlPoint.{Definition}
use Rattle.run_semantics.specs.World.{WorldValue}
use Rattle.sdl_interp.specs.Work.{IsOf}
use Rattle.sdl_interp.specs.declared.transitions.machine.Position.{Position}
use Rattle.sdl_interp.specs.declared.transitions.machine.Position.TheVariants as position
use Rattle.sdl_system.specs.System.{SystemValue}
use Rattle.sdl_system.specs.declared.process.Process.{Process}

quiet_at : (d : Definition) (at : Position) (old new : InstanceValue) (w v : WorldValue)
    → WaitsAt d at (work_of old) w (work_of new) v → IsQuietAt d at new
quiet_at d position.BeforeStart old new w v waits = absurd waits
quiet_at d (position.In n) old new w v waits = (
  waits.classes,
  subst (λ (who : Identity). IsQuiet d who new.owner.state n new.store waits.classes) (sym waits.who)
      (subst (λ (s : Store). IsQuiet d old.who new.owner.state n s waits.classes) (sym waits.store) waits.quiet),
)
quiet_at d position.Ended old new w v waits = absurd waits

pub at_rest : (old new : InstanceValue) (w v : WorldValue) → Keeps old new → IsIdle old w new v → IsAtRest new
at_rest old new w v keeps idle = λ d is.
    subst (λ (at : Position). IsQuietAt d at new) (sym idle.0)
    (quiet_at d old.position old new w v
    (idle.1 d
    (subst (λ (system : SystemValue). IsOf system old.process d) keeps.system
    (subst (λ (process : Process). IsOf new.system process d) keeps.process is))))

-- what a step found that had nothing to do
pub idle_rests : (how : Stepped) (old : InstanceValue) (w : WorldValue) (new : InstanceValue) (v : WorldValue)
    → how ≡ stepped.Idle → Keeps old new → Steps how old w new v → IsAtRest new
idle_rests how old w new v is keeps steps =
    at_rest old new w v keeps (subst (λ (h : Stepped). Steps h old w new v) is steps)
