use Rattle.std.proofs.Common.{subst}
use Rattle.view_run.specs.Finder.{job_with}
use Rattle.view_timeline.specs.Parts.{IsStuck, IsUntold}
use Rattle.view_run.proofs.OrderLaws.{as_far, one_begun, parts_begun}
use Rattle.view_run.proofs.by_course.told_order.Goals as goal

pub whole_order-requires : goal.whole_order-requires
whole_order-requires c =
    let records = c.args.report.now.records.items in
    record {
      tellers = c.args.tellers.now;
      one_order = c.requires;
      in_order = c.in-Ok.ensures.order;
      each_once = c.in-Ok.ensures.each_once;
      says = record {
        parts = c.in-Ok.ensures.each_once.parts;
        longest = c.in-Ok.ensures.longest;
        begun = parts_begun records c.in-Ok.told c.in-Ok.ensures.each_once;
        forward = c.in-Ok.ensures.forward;
        arrows = c.in-Ok.ensures.arrows;
        all_takes = c.in-Ok.ensures.all_takes;
        in_order = c.in-Ok.ensures.in_order;
        waiting = c.in-Ok.ensures.waiting;
        looked_up = c.in-Ok.ensures.looked_up;
        else_unlinked = c.in-Ok.ensures.else_unlinked;
        living = c.in-Ok.ensures.living;
      };
    }

pub returns-in-Err-Stuck-clause-told : goal.returns-in-Err-Stuck-clause-told
returns-in-Err-Stuck-clause-told c =
    let system = c.args.system.now in
    let lines = c.args.script.now.lines.items in
    let report = c.args.report.now in
    let stuck : IsStuck report.records.items c.args.tellers.now c.in-Err-Stuck.told c.in-Err-Stuck.number =
    subst (IsUntold report.records.items c.args.tellers.now) c.in-Err-Stuck.field-0-is c.in-Err-Stuck.ensures.untold in
    as_far system lines report c.args.tellers.now c.in-Err-Stuck.told c.in-Err-Stuck.number
    (one_begun (job_with system lines report) c.args.tellers.now c.requires) stuck

pub returns-in-Err-Stuck-clause-parts : goal.returns-in-Err-Stuck-clause-parts
returns-in-Err-Stuck-clause-parts c =
    let records = c.args.report.now.records.items in
    let stuck : IsStuck records c.args.tellers.now c.in-Err-Stuck.told c.in-Err-Stuck.number =
    subst (IsUntold records c.args.tellers.now) c.in-Err-Stuck.field-0-is c.in-Err-Stuck.ensures.untold in
    stuck.says.parts

pub returns-in-Err-Stuck-clause-begun : goal.returns-in-Err-Stuck-clause-begun
returns-in-Err-Stuck-clause-begun c =
    let records = c.args.report.now.records.items in
    let stuck : IsStuck records c.args.tellers.now c.in-Err-Stuck.told c.in-Err-Stuck.number =
    subst (IsUntold records c.args.tellers.now) c.in-Err-Stuck.field-0-is c.in-Err-Stuck.ensures.untold in
    stuck.says.begun
