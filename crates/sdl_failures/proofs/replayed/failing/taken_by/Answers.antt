-- What the event takes.
use Rattle.std.proofs.Common.{ap, inl, inr}
use Rattle.run_record.specs.Entry.{event_of}
use Rattle.run_record.specs.declared.entry.Entry.{Entry}
use Rattle.sdl_failures.proofs.replayed.failing.taken_by.Goals as goal

pub returns-in-Consumed : goal.returns-in-Consumed
returns-in-Consumed c = λ values. record {
  at = c.in-Consumed.at;
  is = inl (ap (λ (e : Entry). event_of e values) c.in-Consumed.is);
}

pub returns-in-Prior : goal.returns-in-Prior
returns-in-Prior c = λ values. record {
  at = c.in-Prior.at;
  is = inr (ap (λ (e : Entry). event_of e values) c.in-Prior.is);
}
