-- The event is one more.
use Rattle.std.proofs.Common.{refl}
use Rattle.run_record.specs.Entry.{event_of}
use Rattle.settle_checks.proofs.CreatingLemmas.{creating_child, creating_nothing, creating_null, sent_is}
use Rattle.settle_checks.specs.declared.summing.creating.Birth.{Birth}
use Rattle.settle_checks.specs.declared.summing.creating.Creating.{Creating}
use Rattle.settle_checks.proofs.summing.creating.Creating.note.Goals as goal

pub returns-in-Nothing : goal.returns-in-Nothing
returns-in-Nothing c = record {
  noted = λ done values at sent is.
      creating_nothing done (event_of c.args.entry values) c.args.self.now (c.in-Nothing.ensures values) is;
}

pub returns-in_ok-push-in-Null : goal.returns-in_ok-push-in-Null
returns-in_ok-push-in-Null c = record {
  noted = λ done values at sent is.
      let new : Creating = record { births = c.args.self.now.births; refused = c.push.new.self } in
      creating_null done (event_of c.args.entry values) c.in-Null.process c.args.self.now new (c.in-Null.ensures values)
      refl c.in_ok-push-in-Null.ensures.items is;
}

pub returns-in_ok-push-in-Child : goal.returns-in_ok-push-in-Child
returns-in_ok-push-in-Child c = record {
  noted = λ done values at sent is.
      let new : Creating = record { births = c.push-in-Child.new.self; refused = c.args.self.now.refused } in
      let birth : Birth = record {
        process = c.in-Child.process;
        number = c.in-Child.number;
        at = c.args.at;
        sent = c.args.sent;
      } in
      creating_child done (event_of c.args.entry values) birth c.args.self.now new (c.in-Child.ensures values) at
      (sent_is done c.args.entry values c.in-Child.process c.in-Child.number c.args.sent (c.in-Child.ensures values)
      sent)
      c.in_ok-push-in-Child.ensures.items refl is;
}
