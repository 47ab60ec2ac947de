-- What a job or a step of it leaves: an instance that rests, one that has ended, or one that may have more to do.
use Rattle.std.specs.Prelude.{◌≡◌, ◌≢◌}
use Rattle.sdl_interp.specs.declared.transitions.machine.Position.TheVariants as at
use Rattle.sdl_interp.specs.Instance.{InstanceValue, IsAtRest}
use Rattle.sdl_interp.specs.declared.instance.Stepped.{Stepped}
use Rattle.sdl_interp.specs.declared.instance.Stepped.TheVariants as stepped
use Rattle.threads_workers.specs.declared.job.Left.{Left}
use Rattle.threads_workers.specs.declared.job.Left.TheVariants as left

-- who has nothing to do rests, and who makes no step any more has ended
abbrev pub IsLeft : Left → InstanceValue → Type 0
IsLeft left.Idle i = IsAtRest i
IsLeft left.Ended i = i.position ≡ at.Ended
IsLeft left.Signals i = Unit {0}
IsLeft left.More i = Unit {0}

-- the same of a step: who has moved has not ended
abbrev pub HasStepped : Stepped → InstanceValue → Type 0
HasStepped stepped.Moved i = i.position ≢ at.Ended
HasStepped stepped.Idle i = IsAtRest i
HasStepped (stepped.Ended counts) i = i.position ≡ at.Ended
