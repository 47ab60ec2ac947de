-- A signal waits, or is gone.
use Rattle.std.proofs.Common.{arith, refl, sym}
use Rattle.std.proofs.lemmas.Result.{on_ok_weaker}
use Rattle.view_timeline.proofs.NoteLemmas.{puts-gone, puts-waits}
use Rattle.view_timeline.specs.Traffic.{ledger_of}
use Rattle.view_timeline.proofs.traffic.Traffic.put.Goals as goal

pub returns-then-not-lives-clause-put : goal.returns-then-not-lives-clause-put
returns-then-not-lives-clause-put c =
    puts-gone (record { channel = c.args.channel; values = c.args.values.now }) (ledger_of c.args.self.now)
    (ledger_of (record c.args.self.now { links = c.push.new.self }))
    (sym c.if-not-lives.ensures) c.in_ok-push.ensures.items refl (λ channel. refl)

pub returns-clause-put : goal.returns-clause-put
returns-clause-put c =
    on_ok_weaker c.put.result
    (λ rows. puts-waits (record { channel = c.args.channel; values = c.args.values.now }) (ledger_of c.args.self.now)
    (ledger_of (record c.args.self.now { links = c.push-2.new.self; rows = c.put.new.self })) c.in_ok-event.event.0
    (sym c.if-not-lives.ensures) (omega (arith, c.in_ok-event.ensures, c.len.ensures, c.args.self.now.links.ok))
    c.in_ok-push-2.ensures.items refl rows)
    c.put.ensures
