use Rattle.view_text.specs.Keyword.{is_keyword}
use Rattle.view_text.proofs.msc.keyword.is_keyword.Goals as goal

pub returns : goal.returns
unfolding is_keyword
returns c = c.is_one_of.ensures
