-- What an entry does is noted.
use Rattle.view_timeline.proofs.NoteLemmas.{living-same, misses-takes, notes-does, notes-takes}
use Rattle.view_timeline.specs.Traffic.{ledger_of}
use Rattle.view_timeline.specs.declared.entries.Effect.TheVariants as effect
use Rattle.view_timeline.proofs.traffic.Traffic.note.Goals as goal

pub returns-in-Takes-clause-noted : goal.returns-in-Takes-clause-noted
returns-in-Takes-clause-noted c =
    notes-takes c.args.own c.args.entry.now c.args.values.now c.in-Takes.got (ledger_of c.args.self.now)
    (ledger_of c.got.new.self) c.got.result c.requires c.in-Takes.ensures (living-same _ _ c.got.ensures.living)
    (living-same _ _ c.got.ensures.begun)
    c.got.ensures.noted

pub returns-in-Takes-clause-missing : goal.returns-in-Takes-clause-missing
returns-in-Takes-clause-missing c =
    misses-takes c.args.own c.args.entry.now c.args.values.now c.in-Takes.got (ledger_of c.args.self.now) c.got.result
    c.in-Takes.ensures c.got.ensures.missing

pub returns-in_ok-output-in-Sends-clause-noted : goal.returns-in_ok-output-in-Sends-clause-noted
returns-in_ok-output-in-Sends-clause-noted c = λ _.
    notes-does c.args.own c.args.entry.now c.args.values.now (effect.Sends c.in-Sends.signal c.in-Sends.target)
    (ledger_of c.args.self.now) (ledger_of c.output.new.self) c.requires c.in-Sends.ensures (
      c.in_ok-output-in-Sends.ensures.links,
      living-same _ _ c.in_ok-output-in-Sends.ensures.living,
      living-same _ _ c.in_ok-output-in-Sends.ensures.begun,
    )

pub returns-in_ok-create-in-Creates-clause-noted : goal.returns-in_ok-create-in-Creates-clause-noted
returns-in_ok-create-in-Creates-clause-noted c = λ _.
    notes-does c.args.own c.args.entry.now c.args.values.now (effect.Creates c.in-Creates.number)
    (ledger_of c.args.self.now) (ledger_of c.create.new.self) c.requires c.in-Creates.ensures (
      c.in_ok-create-in-Creates.ensures.passed,
      c.in_ok-create-in-Creates.ensures.living,
      c.in_ok-create-in-Creates.ensures.begun,
    )

pub returns-in_ok-end-in-Ends-clause-noted : goal.returns-in_ok-end-in-Ends-clause-noted
returns-in_ok-end-in-Ends-clause-noted c = λ _.
    notes-does c.args.own c.args.entry.now c.args.values.now effect.Ends
    (ledger_of c.args.self.now) (ledger_of c.end.new.self) c.requires c.in-Ends.ensures (
      c.in_ok-end-in-Ends.ensures.passed,
      c.in_ok-end-in-Ends.ensures.living,
      living-same _ _ c.in_ok-end-in-Ends.ensures.begun,
    )

pub returns-in_ok-pass-in-Nothing-clause-noted : goal.returns-in_ok-pass-in-Nothing-clause-noted
returns-in_ok-pass-in-Nothing-clause-noted c = λ _.
    notes-does c.args.own c.args.entry.now c.args.values.now effect.Nothing
    (ledger_of c.args.self.now) (ledger_of c.pass.new.self) c.requires c.in-Nothing.ensures (
      c.in_ok-pass-in-Nothing.ensures.passed,
      living-same _ _ c.in_ok-pass-in-Nothing.ensures.living,
      living-same _ _ c.in_ok-pass-in-Nothing.ensures.begun,
    )
