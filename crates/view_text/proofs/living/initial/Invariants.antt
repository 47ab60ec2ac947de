use Rattle.std.proofs.Common.{◌≡◌, ℕ, nat_eq, take}
use Rattle.indexmap.specs.IndexSet.{contains}
use Rattle.view_timeline.specs.Lives.{is_initial}
use Rattle.view_text.proofs.living.initial.Given as goal

abbrev pub invariant-loop-record : goal.invariant-loop-record
invariant-loop-record l =
    (number : ℕ) → contains nat_eq l.numbers number ≡ is_initial (take l.record-index l.records) number
