use Rattle.view_text.proofs.Words.{words-apart}
use Rattle.view_text.proofs.msc.names.gets_mark.Goals as goal

pub returns-then-is_keyword-clause-apart : goal.returns-then-is_keyword-clause-apart
returns-then-is_keyword-clause-apart c = λ other same. words-apart other c.args.name.now same

pub returns-else-is_keyword-clause-apart : goal.returns-else-is_keyword-clause-apart
returns-else-is_keyword-clause-apart c = λ other same. words-apart other c.args.name.now same
