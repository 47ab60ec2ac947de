-- Two runs are one: a lemma says so.
use Rattle.run_semantics.proofs.Runs.{Runs-append}
use Rattle.run_semantics.proofs.laws.runs_append.Goals as goal

pub returns : goal.returns
returns c d who from mid to s t u q r end deeds later history calls first then =
    Runs-append d who from s q deeds history mid t r first then
