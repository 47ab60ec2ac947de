use Rattle.std.proofs.Common.{◌≡◌, ◌++◌, ℕ, List}
use Rattle.std.specs.Prelude.{Contains}
use Rattle.settle_rest.specs.Woken.{AreAwake, AreNumbers}
use Rattle.settle_rest.proofs.waking.wake_all.Given as goal

abbrev pub invariant-loop-number : goal.invariant-loop-number
invariant-loop-number l =
    (done : List ℕ) × (l.initial.number-iterator ≡ done ++ l.number-iterator) × AreAwake l.ready done
    × ((n : ℕ) → Contains l.fn.ready n → Contains l.ready n) × (AreNumbers l.fn.ready → AreNumbers l.ready)
