use Rattle.std.proofs.Common.{◌≡◌, ◌+◌, ◌<◌, ℕ, vec_len}
use Rattle.std.specs.List.{slice_index}
use Rattle.view_coverage.specs.Marks.{marks_of}
use Rattle.view_coverage.proofs.marks.count.add_marks.Given as goal

abbrev pub invariant-loop-told : goal.invariant-loop-told
invariant-loop-told l = record {
  counted : (part : ℕ) → part < vec_len l.initial.counts
      → slice_index l.counts.items part + marks_of l.variable l.told-iterator part
      ≡ slice_index l.initial.counts.items part + marks_of l.variable l.initial.told-iterator part;
  size : vec_len l.counts ≡ vec_len l.initial.counts;
}
