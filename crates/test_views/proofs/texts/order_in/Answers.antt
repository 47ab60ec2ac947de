-- The parts of each record are its entries up to the last one.
use Rattle.std.proofs.Common.{arith, length, subst}
use Rattle.view_timeline.specs.Parts.{IsStuck, IsUntold}
use Rattle.test_views.proofs.texts.order_in.Goals as goal

pub returns-in-Ok-clause-parts : goal.returns-in-Ok-clause-parts
returns-in-Ok-clause-parts c = c.in-Ok.ensures.each_once.parts

pub returns-in-Ok-clause-begun : goal.returns-in-Ok-clause-begun
returns-in-Ok-clause-begun c = λ place trace there. record {
  end = length trace.events;
  within = omega arith;
  whole = c.in-Ok.ensures.each_once.whole place trace there;
}

pub returns-in-Err-Stuck-clause-parts : goal.returns-in-Err-Stuck-clause-parts
returns-in-Err-Stuck-clause-parts c =
    let records = c.args.report.now.records.items in
    let stuck : IsStuck records c.args.tellers.now c.in-Err-Stuck.told c.in-Err-Stuck.number =
    subst (IsUntold records c.args.tellers.now) c.in-Err-Stuck.field-0-is c.in-Err-Stuck.ensures.untold in
    stuck.says.parts

pub returns-in-Err-Stuck-clause-begun : goal.returns-in-Err-Stuck-clause-begun
returns-in-Err-Stuck-clause-begun c =
    let records = c.args.report.now.records.items in
    let stuck : IsStuck records c.args.tellers.now c.in-Err-Stuck.told c.in-Err-Stuck.number =
    subst (IsUntold records c.args.tellers.now) c.in-Err-Stuck.field-0-is c.in-Err-Stuck.ensures.untold in
    stuck.says.begun
