-- The signals of the script went where they are to.
use Rattle.settle_checks.proofs.AccountRouteLemmas.{heard_right}
use Rattle.settle_meaning.specs.Puts.{signals_of}
use Rattle.settle_checks.proofs.account.routing.all_meant.Goals as goal

pub returns-clause-signals : goal.returns-clause-signals
returns-clause-signals c = λ heard signals targets.
    heard_right c.args.system.now c.args.records.now heard (signals_of c.args.lines.now) c.args.targets.now signals targets
    (c.signals_right.ensures c.if-not-signals_right.false)
