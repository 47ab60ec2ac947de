use Rattle.std.proofs.Common.{refl}
use Rattle.sdl_tree.specs.Views.{tree_value}
use Rattle.view_coverage.proofs.covered.run.coverage.Goals as goal

pub returns : goal.returns
returns c =
    let goals = c.in_ok-goals.goals in
    record {
      tree = tree_value c.in_ok-tree.tree;
      spelled = c.in_ok-tree.ensures;
      goals = goals;
      are_goals = c.in_ok-goals.ensures;
      sources = record {
        system = c.args.run.now.system.now;
        counts = c.in_ok-counts.counts;
        answer_goals = goals.answers.items;
        answers = c.in_ok-answers.answers;
      };
      of_system = refl;
      of_goals = refl;
      are_counts = c.in_ok-counts.ensures;
      are_right = rw c.len.ensures at c.in_ok-answers.ensures;
      sections = c.in_ok-sections.sections.items;
      are_sections = c.in_ok-sections.ensures;
      is_text = rw c.deref.ensures.value at (rw c.knowledge.ensures at c.in_ok-text.ensures);
    }
