use Rattle.std.proofs.Common.{◌≡◌, [], ◌++◌, drop, map, take}
use Rattle.view_text.specs.Lost.{untaken}
use Rattle.view_text.specs.Sending.{sending_value}
use Rattle.view_text.specs.Takes.{AreLeft}
use Rattle.view_text.specs.Walk.{all_steps}
use Rattle.view_text.proofs.lost.lost_signals.Given as goal

abbrev pub invariant-loop-sending : goal.invariant-loop-sending
invariant-loop-sending l =
    let steps = all_steps l.report.records.items l.told in
    let all = map sending_value l.sending-items in
    record {
      left : AreLeft steps (take l.sending-index all) l.takes;
      whole : map sending_value l.lost.items ++ untaken steps (take l.sending-index all) (drop l.sending-index all)
          ≡ untaken steps [] all;
    }
