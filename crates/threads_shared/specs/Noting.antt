-- What is noted of a look-up, and of a step in the course of its instance (Z.101: agent; Z.102: output, stop).
use Rattle.std.specs.Prelude.{◌≡◌, ◌<◌, ◌≤◌, ℕ, List, Option, length}
use Rattle.port_model.specs.KeptWords.{Notes, NotesAll, emptied}
use Rattle.sdl_interp.specs.Instance.{Steps}
use Rattle.sdl_interp.specs.declared.instance.Stepped.{Stepped}
use Rattle.sdl_interp.specs.declared.instance.Stepped.TheVariants.{Ended, Idle, Moved}
use Rattle.sdl_system.specs.declared.route.Dest.{Dest}
use Rattle.sdl_system.specs.declared.route.Dest.TheVariants as to
use Rattle.threads_instance.specs.ThreadInstance.{ThreadInstanceState}
use Rattle.threads_instance.specs.ThreadWorld.{world_of}

-- Of a look-up along a path or in a process the version is noted. A Pid is its own target: nothing is noted.
abbrev pub NotesLookUp : Dest → ℕ → Option (List ℕ) → Option (List ℕ) → Type 0
NotesLookUp to.Path version old new = Notes old version new
NotesLookUp (to.Process process) version old new = Notes old version new
NotesLookUp (to.Pid pid) version old new = new ≡ old

-- A step is noted: how many entries are drawn from the port by then, and the words that its thread has, which it has no
-- more.
pub record IsNotedStep (words left : Option (List ℕ)) (old new : ThreadInstanceState) : Type 0 where
  pub drawn : Notes old.course.drawn (length old.instance.owner.drawn) new.course.drawn
  pub seen : NotesAll old.course.versions words new.course.versions
  pub moved : left ≡ emptied words

-- So is the step by which an instance ends, with the version of the roster since.
pub record IsNotedEnd (words left : Option (List ℕ)) (old new : ThreadInstanceState) : Type 0 where
  pub version : ℕ
  pub more : Option (List ℕ)
  pub seen : Notes words version more
  pub noted : IsNotedStep more left old new

-- Nothing is noted.
pub record IsUnnoted (words left : Option (List ℕ)) (old new : ThreadInstanceState) : Type 0 where
  pub same : new ≡ old
  pub kept : left ≡ words

-- Each step that is recorded is noted, behind so many events of before. One that found nothing to do isn't, nor one of
-- an instance that had ended.
abbrev pub IsNoted : Stepped → ℕ → Option (List ℕ) → Option (List ℕ) → ThreadInstanceState → ThreadInstanceState
    → Type 0
IsNoted Moved told words left old new = IsNotedStep words left old new
IsNoted Idle told words left old new = IsUnnoted words left old new
IsNoted (Ended counts) told words left old new =
    (told < length old.instance.events → IsNotedEnd words left old new)
    × (length old.instance.events ≤ told → IsUnnoted words left old new)

-- A step that tells that it was so took an instance at this time from one state to another.
abbrev pub StepsAt : ℕ → Stepped → ThreadInstanceState → ThreadInstanceState → Type 0
StepsAt time stepped old new = Steps stepped old.instance (world_of old.instance.system time old.sent old.effects)
    new.instance (world_of old.instance.system time new.sent new.effects)

-- A step was made and noted as what it tells that it was, of an instance that was so before it. That it is noted changes
-- nothing but its course.
pub record HasNoted (stepped : Stepped) (old new : ThreadInstanceState) : Type 0 where
  pub words : Option (List ℕ)
  pub left : Option (List ℕ)
  pub made : ThreadInstanceState
  pub time : ℕ
  pub steps : StepsAt time stepped old made
  pub course : made.course ≡ old.course
  pub rest : new ≡ record made { course = new.course }
  pub noted : IsNoted stepped (length old.instance.events) words left made new
