-- Nobody is gathered so far.
use Rattle.std.proofs.Common.{◌∙◌, sym}
use Rattle.settle_checks.proofs.GivenLemmas.{gathers_first}
use Rattle.settle_checks.proofs.gathered.gathering.Gathering.new.Goals as goal

pub invariant_of-result : goal.invariant_of-result
invariant_of-result g c = (
  c.requires.port,
  gathers_first (g.K.Fixed.puts c.args.number) (g.K.Fixed.owners c.args.at) c.args.inbox.owner c.requires.owner
      (sym c.gathered.ensures ∙ c.if-gathered-ne0.false),
)
