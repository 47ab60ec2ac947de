use Rattle.sdl_print.proofs.RoundTripLemmas.{reads_again}
use Rattle.sdl_print.proofs.laws.reads_again.Goals as goal

pub returns : goal.returns
returns c = reads_again c.one_list.ensures c.one_fault.ensures.no_list c.one_tree.ensures c.alike_spell.ensures
