use Rattle.std.proofs.Common.{◌≡◌, ◌<◌, ◌++◌, List, All, length}
use Rattle.port_model.specs.declared.inbox.entry.Fuse.{Fuse}
use Rattle.settle_rest.specs.Woken.{with_fuses}
use Rattle.settle_rest.proofs.waking.arm_all.Given as goal

-- the fuses that are armed already are the last ones of the step
abbrev pub invariant-loop-fuse : goal.invariant-loop-fuse
invariant-loop-fuse l = record {
  clock : l.agenda.clock ≡ l.fn.agenda.clock;
  ready : l.agenda.ready ≡ l.fn.agenda.ready;
  armed : with_fuses l.fuses.items l.agenda.fuses ≡ with_fuses l.fn.fuses.items l.fn.agenda.fuses;
  later : (last : List Fuse) × (l.fn.fuses.items ≡ l.fuses.items ++ last)
      × All (λ (fuse : Fuse). l.fn.agenda.clock < fuse.due) last;
}

abbrev pub decreases-loop-fuse : goal.decreases-loop-fuse
decreases-loop-fuse l = length l.fuses.items
