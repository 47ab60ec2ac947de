-- What is noted of a step that was made.
use Rattle.std.proofs.Common.{◌≡◌, length, subst, ℕ, List, Option}
use Rattle.sdl_interp.specs.declared.instance.Stepped.{Stepped}
use Rattle.threads_instance.specs.ThreadInstance.{ThreadInstanceState}
use Rattle.threads_shared.specs.Noting.{HasNoted, IsNoted, StepsAt}

pub has_noted : (stepped : Stepped) (told : ℕ) (words left : Option (List ℕ)) (old made new : ThreadInstanceState)
    → (time : ℕ) → StepsAt time stepped old made → made.course ≡ old.course
    → new ≡ record made { course = new.course } → told ≡ length old.instance.events
    → IsNoted stepped told words left made new → HasNoted stepped old new
has_noted stepped told words left old made new time steps course rest told_is noted = record {
  words = words;
  left = left;
  made = made;
  time = time;
  steps = steps;
  course = course;
  rest = rest;
  noted = subst (λ (n : ℕ). IsNoted stepped n words left made new) told_is noted;
}
