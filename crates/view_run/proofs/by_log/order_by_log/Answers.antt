use Rattle.std.proofs.Common.{IfOk, subst, sym}
use Rattle.view_run.specs.Order.{IsOrderBy, IsToldInTo}
use Rattle.view_run.proofs.by_log.order_by_log.Goals as goal

pub returns-in-Tellers-clause-told : goal.returns-in-Tellers-clause-told
returns-in-Tellers-clause-told c =
    let records = c.args.report.now.records.items in
    subst
    (λ log. IfOk c.order_by_tellers.result
    (λ order. IsOrderBy log order.stuck c.args.system.now c.args.script.now.lines.items c.args.report.now order.told))
    (sym c.in-Tellers.is)
    (subst (λ tellers. IfOk c.order_by_tellers.result (λ order. IsToldInTo order.stuck records tellers order.told))
    c.deref.ensures.value c.order_by_tellers.ensures.told)

pub returns-in-Course-clause-told : goal.returns-in-Course-clause-told
returns-in-Course-clause-told c =
    subst
    (λ log. IfOk c.order_by_course.result
    (λ order. IsOrderBy log order.stuck c.args.system.now c.args.script.now.lines.items c.args.report.now order.told))
    (sym c.in-Course.is) c.order_by_course.ensures.told
