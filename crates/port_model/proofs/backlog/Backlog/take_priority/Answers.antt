use Rattle.std.proofs.Common.{rules}
use Rattle.port_model.specs.Backlog.{waiting_in}
use Rattle.port_model.proofs.Backlogs.{priority_taken}
use Rattle.port_model.proofs.Searches.{all_ordinary}
use Rattle.port_model.proofs.backlog.Backlog.take_priority.Goals as goal

pub returns-then-not-has_priority : goal.returns-then-not-has_priority
returns-then-not-has_priority c = (search rules, all_ordinary c.args.selection.now _ (search rules))

pub returns : goal.returns
returns c = priority_taken c.args.selection.now (waiting_in c.args.self.now) (waiting_in c.take_wanted.new.self) c.take_wanted.result c.take_wanted.ensures
