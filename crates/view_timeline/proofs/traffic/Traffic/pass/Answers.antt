-- A link of no other event comes behind all.
use Rattle.std.proofs.Common.{refl}
use Rattle.view_timeline.proofs.traffic.Traffic.pass.Goals as goal

pub returns-clause-passed : goal.returns-clause-passed
returns-clause-passed c = record {
  links = c.in_ok-push.ensures.items;
  arrows = refl;
  rows = λ channel. refl;
}
