-- What a step was that was made and noted (Z.101: agent).
use Rattle.std.specs.Prelude.{◌≡◌, if◌then◌else◌}
use Rattle.sdl_interp.specs.declared.instance.Stepped.{Stepped}
use Rattle.sdl_interp.specs.declared.instance.Stepped.TheVariants.{Ended, Idle, Moved}
use Rattle.serial_sweeps.specs.declared.instance_set.Made.{Made}
use Rattle.serial_sweeps.specs.declared.instance_set.Made.TheVariants.{Failure, Nothing, Transition}
use Rattle.threads_instance.specs.ThreadInstance.{ThreadInstanceState}
use Rattle.threads_shared.specs.Noting.{HasNoted}

-- what a turn with this step comes to
abbrev pub made_by : Stepped → Made
made_by Moved = Transition
made_by Idle = Nothing
made_by (Ended counts) = if counts then Transition else Failure

-- A step that comes to this was made and noted.
pub record HasNotedAs (made : Made) (old new : ThreadInstanceState) : Type 0 where
  pub stepped : Stepped
  pub is : made ≡ made_by stepped
  pub noted : HasNoted stepped old new
