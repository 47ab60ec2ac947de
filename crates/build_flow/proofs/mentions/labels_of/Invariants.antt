use Rattle.std.proofs.Common.{◌≡◌, flat_map, take}
use Rattle.build_flow.specs.Listed.{mentions_listed}
use Rattle.build_flow.specs.Mentions.{label_entries}
use Rattle.build_flow.proofs.mentions.labels_of.Given as goal

abbrev pub invariant-loop-mention : goal.invariant-loop-mention
invariant-loop-mention l = l.names ≡ flat_map label_entries (mentions_listed (take l.mention-index l.mentions))
