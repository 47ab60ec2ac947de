use Rattle.std.proofs.Common.{subst}
use Rattle.view_timeline.specs.Parts.{IsStuck, IsUntold}
use Rattle.view_run.proofs.OrderLaws.{parts_begun}
use Rattle.view_run.proofs.by_tellers.order_by_tellers.Goals as goal

pub lost_signals-requires-clause-parts : goal.lost_signals-requires-clause-parts
lost_signals-requires-clause-parts c = c.in-Ok.ensures.each_once.parts

pub lost_signals-requires-clause-begun : goal.lost_signals-requires-clause-begun
lost_signals-requires-clause-begun c = parts_begun c.args.report.now.records.items c.in-Ok.told c.in-Ok.ensures.each_once

pub returns-in_ok-lost-in-Ok-clause-told : goal.returns-in_ok-lost-in-Ok-clause-told
returns-in_ok-lost-in-Ok-clause-told c = record {
  each_once = c.in-Ok.ensures.each_once;
  in_order = c.in-Ok.ensures.order;
  says = record {
    parts = c.in-Ok.ensures.each_once.parts;
    longest = c.in-Ok.ensures.longest;
    begun = parts_begun c.args.report.now.records.items c.in-Ok.told c.in-Ok.ensures.each_once;
    forward = c.in-Ok.ensures.forward;
    arrows = c.in-Ok.ensures.arrows;
    all_takes = c.in-Ok.ensures.all_takes;
    in_order = c.in-Ok.ensures.in_order;
    waiting = c.in-Ok.ensures.waiting;
    looked_up = c.in-Ok.ensures.looked_up;
    else_unlinked = c.in-Ok.ensures.else_unlinked;
    living = c.in-Ok.ensures.living;
  };
}

pub returns-in_ok-lost-in-Ok-clause-begun : goal.returns-in_ok-lost-in-Ok-clause-begun
returns-in_ok-lost-in-Ok-clause-begun c = parts_begun c.args.report.now.records.items c.in-Ok.told c.in-Ok.ensures.each_once

pub returns-in-Err-Stuck-clause-parts : goal.returns-in-Err-Stuck-clause-parts
returns-in-Err-Stuck-clause-parts c =
    let records = c.args.report.now.records.items in
    let stuck : IsStuck records c.args.tellers.now c.in-Err-Stuck.told c.in-Err-Stuck.number =
    subst (IsUntold records c.args.tellers.now) c.in-Err-Stuck.field-0-is c.in-Err-Stuck.ensures.untold in
    stuck.says.parts

pub returns-in-Err-Stuck-clause-begun : goal.returns-in-Err-Stuck-clause-begun
returns-in-Err-Stuck-clause-begun c =
    let records = c.args.report.now.records.items in
    let stuck : IsStuck records c.args.tellers.now c.in-Err-Stuck.told c.in-Err-Stuck.number =
    subst (IsUntold records c.args.tellers.now) c.in-Err-Stuck.field-0-is c.in-Err-Stuck.ensures.untold in
    stuck.says.begun
