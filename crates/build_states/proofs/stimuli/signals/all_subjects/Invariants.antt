use Rattle.std.proofs.Common.{◌≡◌, map, take}
use Rattle.build_states.specs.declared.stimuli.subject.Subject.TheVariants.{Signal}
use Rattle.build_states.proofs.stimuli.signals.all_subjects.Given as goal

abbrev pub invariant-loop-signal : goal.invariant-loop-signal
invariant-loop-signal l = l.subjects.items ≡ map Signal (take l.signal-index l.signals)
