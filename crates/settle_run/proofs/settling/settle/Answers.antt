-- The lines of the script are as they were.
use Rattle.std.proofs.Common.{List, subst}
use Rattle.sdl_script.specs.declared.script.ScriptLine.{ScriptLine}
use Rattle.settle_meaning.specs.Settled.{IsSettledReport}
use Rattle.settle_run.proofs.settling.settle.Goals as goal

pub returns-clause-settled : goal.returns-clause-settled
returns-clause-settled g c =
    subst (λ (lines : List ScriptLine).
    IsSettledReport c.args.shared.now.system.now lines c.args.limit c.in_ok-settled.settled.report)
    c.in_ok-at.ensures c.in_ok-settled.ensures.settled
