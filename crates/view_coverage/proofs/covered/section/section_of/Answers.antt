use Rattle.view_coverage.proofs.SectionLemmas.{section-rows}
use Rattle.view_coverage.proofs.covered.section.section_of.Goals as goal

pub returns : goal.returns
returns c = record {
  process = c.as_str.ensures.value;
  items =
      section-rows _ _ _ c.new-items.result.items c.add_states.new.items.items c.add_stimuli.new.items.items
      c.add_answers.new.items.items c.sort_by_key.new.self.items c.new-items.ensures.items
      c.in_ok-add_states.ensures c.in_ok-add_stimuli.ensures c.in_ok-add_answers.ensures
      c.sort_by_key.ensures.permutation;
}
