use Rattle.std.proofs.Common.{◌≡◌, [], All, take}
use Rattle.run_order.proofs.replay.Replay.is_all_told.Given as goal
use Rattle.run_order.specs.declared.member.Member.{Member}

abbrev pub invariant-loop-member : goal.invariant-loop-member
invariant-loop-member l = All (λ (m : Member). m.pending ≡ []) (take l.member-index l.member-items)
