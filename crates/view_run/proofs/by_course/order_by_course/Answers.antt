use Rattle.std.proofs.Common.{subst, sym}
use Rattle.view_run.specs.Finder.{IsOrderOf, IsPartOf, job_with}
use Rattle.view_run.specs.Found.{IsFound}
use Rattle.view_run.proofs.by_course.order_by_course.Goals as goal

pub told_order-requires : goal.told_order-requires
told_order-requires c =
    let system = c.args.system.now in
    let lines = c.args.script.now.lines.items in
    let report = c.args.report.now in
    let one : IsOrderOf (job_with system lines report) c.in-Told.tellers.items =
    subst (IsFound system lines report) c.in-Told.is c.in_ok-tellers.ensures in
    subst (IsOrderOf (job_with system lines report)) (sym c.deref.ensures.value) one

pub part_order-requires : goal.part_order-requires
part_order-requires c =
    let system = c.args.system.now in
    let lines = c.args.script.now.lines.items in
    let report = c.args.report.now in
    let part : IsPartOf (job_with system lines report) c.in-Stuck.told.items =
    subst (IsFound system lines report) c.in-Stuck.is c.in_ok-tellers.ensures in
    subst (IsPartOf (job_with system lines report)) (sym c.deref-in-Stuck.ensures.value) part
