use Rattle.view_text.proofs.msc.event_text.push_event_text.Goals as goal

pub returns-in-Rest : goal.returns-in-Rest
returns-in-Rest c =
    rw (c.in-Rest.is, ← c.process-process.ensures, ← c.state_name-in-Rest.ensures) c.push_closed.ensures
