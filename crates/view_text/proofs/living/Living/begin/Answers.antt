use Rattle.std.proofs.Common.{ap, true}
use Rattle.view_text.specs.Living.{IsLeast}
use Rattle.view_text.specs.declared.living.Living.{Living}
use Rattle.view_text.proofs.Least.{changed_one, found_anew, on_ok}
use Rattle.view_text.proofs.living.Living.begin.Goals as goal

pub returns-then-self-clause-least : goal.returns-then-self-clause-least
returns-then-self-clause-least c = λ was.
    let old = c.args.self.now in
    let mid = c.add.new.self in
    let rest = c.in_ok-add.ensures.rest in
    changed_one old mid c.lower.new.self true c.args.number was (ap (λ (l : Living). l.records) rest) (ap (λ
    (l : Living). l.processes) rest)
    (ap (λ (l : Living). l.least.items) rest) (ap (λ (l : Living). l.is_numbered) rest) c.in_ok-add.ensures.numbers
    (c.in_ok-add.ensures.most was.most) c.lower.ensures.rest c.if-self.true
    (λ all lives before is. c.lower.ensures.least all lives before)

pub returns-clause-least : goal.returns-clause-least
returns-clause-least c = λ was.
    let old = c.args.self.now in
    let mid = c.add.new.self in
    let rest = c.in_ok-add.ensures.rest in
    on_ok c.refresh.result _ (IsLeast c.refresh.new.self)
    (found_anew old mid c.refresh.new.self true c.args.number was (ap (λ (l : Living). l.records) rest) (ap (λ
    (l : Living). l.processes) rest)
    (ap (λ (l : Living). l.least.items) rest) (ap (λ (l : Living). l.is_numbered) rest) c.in_ok-add.ensures.numbers
    (c.in_ok-add.ensures.most was.most) c.refresh.ensures.rest) c.refresh.ensures.least
