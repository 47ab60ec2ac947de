-- The last event tells it.
use Rattle.std.proofs.Common.{◌≡◌, ◌∙◌, ap, sym}
use Rattle.run_record.specs.Entry.{event_of}
use Rattle.run_record.specs.Told.{event_told}
use Rattle.run_record.specs.declared.entry.Entry.{Entry}
use Rattle.sdl_failures.specs.Ending.{failure_by, failure_in}
use Rattle.sdl_failures.proofs.EndingLemmas.{failure-last}
use Rattle.sdl_failures.proofs.PartLemmas.{no-failure}
use Rattle.sdl_failures.proofs.replayed.ending.failure_of.Goals as goal
use Rattle.sdl_failures.proofs.replayed.ending.failure_of.Goals.{In_ok-last}

by-last : (c : In_ok-last) → failure_in c.args.trace.now.events ≡ failure_by (event_told c.in_ok-last.last)
by-last c =
    ap failure_in c.in_ok-last.ensures.1 ∙ failure-last c.in_ok-last.ensures.0 (event_told c.in_ok-last.last)

pub returns-in-FailedAt : goal.returns-in-FailedAt
returns-in-FailedAt c =
    sym (by-last (goal.at.returns-in-FailedAt c).In_ok-last
    ∙ ap (λ (e : Entry). failure_by (event_of e c.in_ok-last.last.values.now)) c.in-FailedAt.is)

pub returns-in-Failed : goal.returns-in-Failed
returns-in-Failed c =
    sym (by-last (goal.at.returns-in-Failed c).In_ok-last
    ∙ ap (λ (e : Entry). failure_by (event_of e c.in_ok-last.last.values.now)) c.in-Failed.is)

pub returns-in_default : goal.returns-in_default
returns-in_default c =
    sym (by-last (goal.at.returns-in_default c).In_ok-last
    ∙ no-failure c.in_ok-last.last.entry c.in_ok-last.last.values.now c.in_default.not-FailedAt c.in_default.not-Failed)
