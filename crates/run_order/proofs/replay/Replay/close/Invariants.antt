use Rattle.std.proofs.Common.{false, map}
use Rattle.std.specs.List.{AllZip}
use Rattle.run_order.proofs.replay.Replay.close.Given as goal
use Rattle.run_order.specs.declared.member.Member.{Member}
use Rattle.sdl_interp.specs.Instance.{IsClosed}

abbrev pub invariant-loop-member : goal.invariant-loop-member
invariant-loop-member l =
    AllZip (IsClosed false l.whole) (map (λ (m : Member). m.instance) l.yielded) l.records.items
