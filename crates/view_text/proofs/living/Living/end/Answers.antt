use Rattle.std.proofs.Common.{ap, false}
use Rattle.view_text.specs.Living.{IsLeast, living_in}
use Rattle.view_text.specs.declared.living.Living.{Living}
use Rattle.view_text.proofs.Least.{changed_one, found_anew, most_removed_at, on_ok}
use Rattle.view_text.proofs.living.Living.end.Goals as goal

pub returns-then-self-clause-least : goal.returns-then-self-clause-least
returns-then-self-clause-least c = λ was.
    let old = c.args.self.now in
    let mid = c.remove.new.self in
    let rest = c.remove.ensures.rest in
    let most = most_removed_at old.most c.args.number (living_in old) mid was.most (ap (λ
    (l : Living). l.most) rest) c.remove.ensures.numbers in
    changed_one old mid c.raise.new.self false c.args.number was (ap (λ (l : Living). l.records) rest) (ap (λ
    (l : Living). l.processes) rest)
    (ap (λ (l : Living). l.least.items) rest) (ap (λ (l : Living). l.is_numbered) rest) c.remove.ensures.numbers
    most c.raise.ensures.rest c.if-self.true
    (λ all lives before is. c.raise.ensures.least all lives before is most)

pub returns-clause-least : goal.returns-clause-least
returns-clause-least c = λ was.
    let old = c.args.self.now in
    let mid = c.remove.new.self in
    let rest = c.remove.ensures.rest in
    let most = most_removed_at old.most c.args.number (living_in old) mid was.most (ap (λ
    (l : Living). l.most) rest) c.remove.ensures.numbers in
    on_ok c.refresh.result _ (IsLeast c.refresh.new.self)
    (found_anew old mid c.refresh.new.self false c.args.number was (ap (λ (l : Living). l.records) rest) (ap (λ
    (l : Living). l.processes) rest)
    (ap (λ (l : Living). l.least.items) rest) (ap (λ (l : Living). l.is_numbered) rest) c.remove.ensures.numbers
    most c.refresh.ensures.rest) c.refresh.ensures.least
