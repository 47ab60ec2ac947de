use Rattle.view_coverage.proofs.covered.answers.counted.Goals as goal

pub returns-in-Some : goal.returns-in-Some
returns-in-Some c = (
  c.requires.serial,
  record {
    marked = c.args.marked.now;
    is_run = c.requires.is_run;
    is_marked = rw c.in-Some.is at c.in_ok-passes.ensures.same;
    size = rw c.in-Some.is at c.in_ok-passes.ensures.size;
    are_counts = rw c.in-Some.is at c.in_ok-passes.ensures.counts;
  },
)
