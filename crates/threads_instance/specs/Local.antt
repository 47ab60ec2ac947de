-- What a worker's local queue gives to the injector.
use Rattle.std.specs.Prelude.{◌≡◌, ◌≤◌, ◌++◌, ℕ, List, length}
use Rattle.threads_instance.specs.Injector.{InjectorState}

-- some numbers more are at the end of the common queue, and all else is as it was
abbrev pub HasMore : InjectorState → InjectorState → Type 0
HasMore old new =
    (more : List ℕ) × (1 ≤ length more) × (new ≡ record old { queue = old.queue ++ more })
