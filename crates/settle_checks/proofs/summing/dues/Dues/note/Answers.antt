-- The event is one more.
use Rattle.std.proofs.Common.{ap}
use Rattle.run_record.specs.Entry.{event_of, got_of}
use Rattle.run_record.specs.Event as event
use Rattle.run_record.specs.declared.entry.Entry.{Entry}
use Rattle.settle_checks.proofs.DueLemmas.{due_consumed, due_discarded, due_other, due_prior, due_reset, due_set, got_so}
use Rattle.settle_checks.proofs.summing.dues.Dues.note.Goals as goal

pub returns-in_ok-set-in-Set : goal.returns-in_ok-set-in-Set
returns-in_ok-set-in-Set c = λ right done are.
    due_set done c.args.entry c.args.values.now c.in-Set.timer c.in-Set.due c.in_ok-key-in-Set.key
    c.args.self.now c.set.new.self c.in-Set.is c.in_ok-key-in-Set.ensures c.in_ok-set-in-Set.ensures are

pub returns-in_ok-key-in-Reset : goal.returns-in_ok-key-in-Reset
returns-in_ok-key-in-Reset c = λ right done are.
    due_reset done c.args.entry c.args.values.now c.in-Reset.timer c.in_ok-key-in-Reset.key
    c.args.self.now c.take.new.self c.in-Reset.is c.in_ok-key-in-Reset.ensures c.take.ensures.after are

pub returns-in-Consumed : goal.returns-in-Consumed
returns-in-Consumed c =
    let at = c.in-Consumed.at in
    let got = got_of c.in-Consumed.got c.args.values.now in
    got_so c.got.result c.args.self.now c.got.new.self at got (event_of c.args.entry c.args.values.now)
    (event.Consumed at got) (ap (λ (e : Entry). event_of e c.args.values.now) c.in-Consumed.is)
    (λ done next. due_consumed done at got c.got.new.self next) c.got.ensures

pub returns-in-Prior : goal.returns-in-Prior
returns-in-Prior c =
    let at = c.in-Prior.at in
    let got = got_of c.in-Prior.got c.args.values.now in
    got_so c.got-in-Prior.result c.args.self.now c.got-in-Prior.new.self at got
    (event_of c.args.entry c.args.values.now) (event.Prior at got)
    (ap (λ (e : Entry). event_of e c.args.values.now) c.in-Prior.is)
    (λ done next. due_prior done at got c.got-in-Prior.new.self next) c.got-in-Prior.ensures

pub returns-in-Discarded : goal.returns-in-Discarded
returns-in-Discarded c =
    let at = c.in-Discarded.at in
    let got = got_of c.in-Discarded.got c.args.values.now in
    got_so c.got-in-Discarded.result c.args.self.now c.got-in-Discarded.new.self at got
    (event_of c.args.entry c.args.values.now) (event.Discarded at got)
    (ap (λ (e : Entry). event_of e c.args.values.now) c.in-Discarded.is)
    (λ done next. due_discarded done at got c.got-in-Discarded.new.self next) c.got-in-Discarded.ensures

pub returns-in_default : goal.returns-in_default
returns-in_default c = λ right done are.
    due_other done c.args.entry c.args.values.now c.args.self.now c.in_default.not-Consumed c.in_default.not-Prior
    c.in_default.not-Discarded c.in_default.not-Set c.in_default.not-Reset are
