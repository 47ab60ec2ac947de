use Rattle.std.proofs.Common.{◌≡◌, flat_map, take}
use Rattle.build_flow.specs.Listed.{beginnings_listed, mentions_listed}
use Rattle.build_flow.specs.Mentions.{beginning_mentions}
use Rattle.build_flow.proofs.mentions.mentions_in.Given as goal

abbrev pub invariant-loop-beginning : goal.invariant-loop-beginning
invariant-loop-beginning l =
    mentions_listed l.list.items ≡ flat_map beginning_mentions (beginnings_listed (take l.beginning-index l.beginnings))
