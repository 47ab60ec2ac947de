-- What was noted of an instance whose record is closed (Z.101: agent).
use Rattle.std.specs.Prelude.{◌≡◌, ◌⊎◌, false}
use Rattle.sdl_interp.specs.declared.instance.Stepped.{Stepped}
use Rattle.sdl_interp.specs.declared.instance.Stepped.TheVariants.{Ended, Idle}
use Rattle.settle_closing.specs.Left.{ClosingState}
use Rattle.threads_instance.specs.ThreadInstance.{ThreadInstanceState}
use Rattle.threads_shared.specs.Noting.{HasNoted}

-- A step was made and noted that found nothing to do, or by which an instance ended that made no transition.
pub record HasNotedRest (old new : ThreadInstanceState) : Type 0 where
  pub stepped : Stepped
  pub rests : (stepped ≡ Idle) ⊎ (stepped ≡ Ended false)
  pub noted : HasNoted stepped old new

-- An instance that was so was closed, as one to which it has come: with the owner of its port, its senders, and what is
-- kept of its course.
pub record IsClosedWith (Comes : ThreadInstanceState → ThreadInstanceState → Type 0) (old : ThreadInstanceState)
    (closing : ClosingState) : Type 0 where
  pub last : ThreadInstanceState
  pub comes : Comes old last
  pub owner : closing.owner ≡ last.instance.owner
  pub peers : closing.peers ≡ last.peers
  pub course : closing.course ≡ last.course
