-- What a step leaves: one that found nothing to do rests, and one that ended has ended.
use Rattle.std.proofs.Common.{◌≡◌, ◌∙◌, ap, inl, inr, subst, sym}
use Rattle.run_record.specs.declared.evaluation.identity.Identity.{Identity}
use Rattle.run_record.specs.declared.evaluation.store.Store.{Store}
use Rattle.run_semantics.specs.ControlPoint.{Definition}
use Rattle.run_semantics.specs.Leads.{IsQuiet}
use Rattle.run_semantics.specs.World.{WorldValue}
use Rattle.sdl_interp.specs.Work.{IsOf}
use Rattle.sdl_interp.specs.declared.transitions.machine.Position.{Position}
use Rattle.sdl_interp.specs.declared.transitions.machine.Position.TheVariants as at
use Rattle.sdl_interp.specs.Instance.{InstanceValue, IsAtRest, IsIdle, IsQuietAt, IsRunAs, Keeps, Steps, work_of}
use Rattle.sdl_interp.specs.Stimulus.{WaitsAt}
use Rattle.sdl_interp.specs.declared.instance.Stepped.{Stepped}
use Rattle.sdl_interp.specs.declared.instance.Stepped.TheVariants as stepped
use Rattle.sdl_system.specs.System.{SystemValue}
use Rattle.sdl_system.specs.declared.process.Process.{Process}
use Rattle.threads_workers.specs.Left.{HasStepped}

quiet_at : (d : Definition) (position : Position) (old new : InstanceValue) (w v : WorldValue)
    → WaitsAt d position (work_of old) w (work_of new) v → Keeps old new → IsQuietAt d position new
quiet_at d at.BeforeStart old new w v waiting keeps = absurd waiting
quiet_at d at.Ended old new w v waiting keeps = absurd waiting
quiet_at d (at.In n) old new w v waiting keeps = (
  waiting.classes,
  subst (λ (store : Store). IsQuiet d new.who new.owner.state n store waiting.classes) (sym waiting.store)
      (subst (λ (who : Identity). IsQuiet d who new.owner.state n old.store waiting.classes) (sym keeps.who)
      waiting.quiet),
)

-- what is run as an instance was run as it before
was_run : (d : Definition) (old new : InstanceValue) → Keeps old new → IsRunAs new d → IsRunAs old d
was_run d old new keeps is_run =
    subst (λ (system : SystemValue). IsOf system old.process d) keeps.system
    (subst (λ (process : Process). IsOf new.system process d) keeps.process is_run)

idle_rests : (old new : InstanceValue) (w v : WorldValue) → Keeps old new → IsIdle old w new v → IsAtRest new
idle_rests old new w v keeps idle = λ d is_run.
    subst (λ (position : Position). IsQuietAt d position new) (sym idle.0)
    (quiet_at d old.position old new w v (idle.1 d (was_run d old new keeps is_run)) keeps)

pub has_stepped : (made : Stepped) (old new : InstanceValue) (w v : WorldValue) → Keeps old new
    → Steps made old w new v → HasStepped made new
has_stepped stepped.Moved old new w v keeps steps = steps.1
has_stepped stepped.Idle old new w v keeps steps = idle_rests old new w v keeps steps
has_stepped (stepped.Ended counts) old new w v keeps (inl was) =
    ap (λ (i : InstanceValue). i.position) was.1 ∙ was.0
has_stepped (stepped.Ended counts) old new w v keeps (inr ends) = ends.1
