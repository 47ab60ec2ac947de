use Rattle.std.proofs.Common.{◌≡◌, ◌<◌, ℕ, take, vec_len}
use Rattle.std.specs.List.{slice_index}
use Rattle.view_coverage.specs.Marks.{passes_in}
use Rattle.view_coverage.proofs.marks.count.count_all.Given as goal

abbrev pub invariant-loop-one : goal.invariant-loop-one
invariant-loop-one l = record {
  counted : (part : ℕ) → part < l.fn.parts
      → slice_index l.counts.items part ≡ passes_in l.system (take l.one-index l.records) part;
  size : vec_len l.counts ≡ l.fn.parts;
}
