-- The node by the event.
use Rattle.std.proofs.Common.{◌∙◌, ap, sym}
use Rattle.run_record.specs.Entry.{event_of}
use Rattle.run_record.specs.declared.entry.Entry.{Entry}
use Rattle.sdl_failures.specs.Came.{begin_of}
use Rattle.sdl_failures.proofs.PartLemmas.{no-begin}
use Rattle.sdl_failures.proofs.replayed.begin.begin_of.Goals as goal

pub returns-in-Start : goal.returns-in-Start
returns-in-Start c = λ values.
    sym (ap (λ (e : Entry). begin_of c.args.process.now c.args.state (event_of e values)) c.in-Start.is)

pub returns-in-Consumed : goal.returns-in-Consumed
returns-in-Consumed c = λ values.
    c.begin_with.ensures values
    ∙ sym (ap (λ (e : Entry). begin_of c.args.process.now c.args.state (event_of e values)) c.in-Consumed.is)

pub returns-in-Prior : goal.returns-in-Prior
returns-in-Prior c = λ values.
    c.begin_with-in-Prior.ensures values
    ∙ sym (ap (λ (e : Entry). begin_of c.args.process.now c.args.state (event_of e values)) c.in-Prior.is)

pub returns-in-Provided : goal.returns-in-Provided
returns-in-Provided c = λ values.
    c.begin_by.ensures
    ∙ sym (ap (λ (e : Entry). begin_of c.args.process.now c.args.state (event_of e values)) c.in-Provided.is)

pub returns-in_default : goal.returns-in_default
returns-in_default c = λ values.
    sym (no-begin c.args.process.now c.args.state c.args.entry values c.in_default.not-Start c.in_default.not-Consumed
    c.in_default.not-Prior c.in_default.not-Provided)
