use Rattle.std.proofs.Common.{ap, ◌∙◌, option_map}
use Rattle.sdl_tree.proofs.KeywordLemmas.{keyword_of_entry, keyword_found_in}
use Rattle.sdl_tree.proofs.keyword.keyword_in.Goals as goal

pub returns-in-None : goal.returns-in-None
returns-in-None c = ap (option_map keyword_of_entry) c.in-None.ensures ∙ keyword_found_in c.args.table.now c.args.word.now

pub returns-in-Some : goal.returns-in-Some
returns-in-Some c = ap (option_map keyword_of_entry) c.in-Some.ensures ∙ keyword_found_in c.args.table.now c.args.word.now
