use Rattle.std.proofs.Common.{◌≡◌, flat_map, take}
use Rattle.build_flow.specs.Listed.{mentions_listed, texts}
use Rattle.build_flow.specs.Mentions.{join_names}
use Rattle.build_flow.proofs.mentions.joins_of.Given as goal

abbrev pub invariant-loop-mention : goal.invariant-loop-mention
invariant-loop-mention l = texts l.names ≡ flat_map join_names (mentions_listed (take l.mention-index l.mentions))
