use Rattle.std.proofs.Common.{ap, ◌∙◌, option_map, List, ℕ}
use Rattle.std.specs.Borrow.{Bor}
use Rattle.sdl_tree.proofs.KeywordLemmas.{lower_case_found}
use Rattle.sdl_tree.proofs.keyword.lower_of.Goals as goal

abbrev lower : Bor (List ℕ) × Bor (List ℕ) → List ℕ
lower e = e.0.now

pub returns-in-None : goal.returns-in-None
returns-in-None c = ap (option_map lower) c.in-None.ensures ∙ lower_case_found c.args.table.now c.args.word.now

pub returns-in-Some : goal.returns-in-Some
returns-in-Some c = ap (option_map lower) c.in-Some.ensures ∙ lower_case_found c.args.table.now c.args.word.now
