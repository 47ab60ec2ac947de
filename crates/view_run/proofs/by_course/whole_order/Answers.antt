use Rattle.view_run.proofs.by_course.whole_order.Goals as goal

pub lost_signals-requires-clause-parts : goal.lost_signals-requires-clause-parts
lost_signals-requires-clause-parts c = c.requires.says.parts

pub lost_signals-requires-clause-begun : goal.lost_signals-requires-clause-begun
lost_signals-requires-clause-begun c = c.requires.says.begun

pub returns-clause-parts : goal.returns-clause-parts
returns-clause-parts c = c.requires.says.parts

pub returns-clause-begun : goal.returns-clause-begun
returns-clause-begun c = c.requires.says.begun
