-- One record more is done.
use Rattle.std.proofs.Common.{rules, subst}
use Rattle.std.proofs.lemmas.List.{take_all}
use Rattle.settle_checks.specs.Least.{HasLeast, lasting_of}
use Rattle.settle_checks.proofs.SummingLivingLemmas.{lasting_live}
use Rattle.settle_checks.proofs.Zips.{zip_of}
use Rattle.settle_checks.specs.Summary.{IsSummary}
use Rattle.settle_checks.proofs.summing.living.lived.Goals as goal

pub returns : goal.returns
returns c =
    let records = c.args.records.now in
    lasting_live records c.loop-k.first.items
    (subst (λ l. HasLeast (lasting_of l) c.loop-k.first.items) (take_all c.loop-k.k records (search rules))
    c.loop-k.invariant)

pub add_lasting-requires : goal.add_lasting-requires
add_lasting-requires c =
    zip_of IsSummary c.args.records.now c.args.sums.now c.loop-k.k c.index-records-k.result c.index-sums-k.result
    c.requires c.loop-k-test.true c.index-records-k.is c.index-sums-k.is
