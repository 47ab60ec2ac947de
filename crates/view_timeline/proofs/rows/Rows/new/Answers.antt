-- Nothing waits in an empty table.
use Rattle.view_timeline.proofs.RowLemmas.{no-rows}
use Rattle.view_timeline.proofs.rows.Rows.new.Goals as goal

pub returns : goal.returns
returns c = no-rows c.new.result c.new.ensures.empty
