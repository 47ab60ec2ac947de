use Rattle.std.proofs.Common.{◌≡◌, ◌⊎◌, ◌∙◌, ap, inl, inr, subst, sym, IfOk, IsTrue, List, OnOk, ℕ}
use Rattle.serial_order.specs.RunState.{beginning}
use Rattle.serial_run.specs.Serial.{IsSerial, state_of}
use Rattle.serial_run.proofs.Report.{IsWhole, begins_so, report}
use Rattle.serial_run.specs.Advances.{Reaches}
use Rattle.serial_run.proofs.run.run_serial_noted.Goals as goal
use Rattle.serial_run.proofs.run.run_serial_noted.Goals.{else-whole, then-whole}
use Rattle.serial_sweeps.specs.Sweeps.{Moment, moment_of}

pub run-ran-requires-clause-fits : goal.run-ran-requires-clause-fits
run-ran-requires-clause-fits g c =
    subst (λ (ready : List ℕ). IsSerial ready c.in_ok-instances.instances) (sym c.new-sweeps.ensures.ready)
    c.in_ok-instances.ensures.serial

pub returns-clause-serial : goal.returns-clause-serial
returns-clause-serial g c = λ ps behaviours.
    let system = c.args.system.now in
    let lines = c.args.script.now.lines.items in
    let a = c.in_ok-instances.instances in
    let made = c.in_ok-instances.ensures in
    let m : Moment = moment_of c.new-sweeps.result in
    let n : Moment = moment_of c.run-ran.new.self in
    let b = c.run-ran.new.instances.instances in
    let k = c.order_of.result in
    let l = c.run-ran.new.instances.order in
    let first = c.new-sweeps.ensures.moment in
    let state : state_of m a ≡ beginning system lines =
    begins_so system lines m a
    (ap (λ (m : Moment). m.clock) first ∙ c.begin.ensures.clock ∙ c.new-agenda.ensures.clock)
    (ap (λ (m : Moment). m.begun) first) (ap (λ (m : Moment). m.turn) first)
    (ap (λ (m : Moment). m.bound) first ∙ c.given.ensures ∙ ap (λ living. living.given) made.serial.living)
    (ap (λ (m : Moment). m.fuses) first ∙ c.begin.ensures.fuses ∙ c.new-agenda.ensures.fuses)
    (ap (λ (m : Moment). m.script) first ∙ c.as_slice.ensures.value) made.system made.instances in
    let done = c.run-ran.ensures in
    let was = c.in_ok-whole.was in
    let runs = subst (λ ran. OnOk ran (Reaches c.end-last.result m a k n b l)) was done.runs in
    let fits = subst (λ ran. OnOk ran (IsSerial c.run-ran.new.self.agenda.ready b)) was done.fits in
    let rests = subst (λ ran. IfOk ran (λ whole. IsTrue whole → IsWhole c.end-last.result n b)) was done.whole in
    let cut = subst (λ ran. IfOk ran (λ whole. IsTrue whole ⊎ (n.left ≡ 0))) was done.cut in
    report ps system lines c.args.limit c.run-ran.new.self.agenda.ready m n a b c.args.keeps_order k l _ behaviours
    c.order_of.ensures state (ap (λ (m : Moment). m.left) first)
    (subst (λ last. Reaches last m a k n b l) c.end-last.ensures runs) fits
    (λ whole. subst (λ last. IsWhole last n b) c.end-last.ensures (rests whole)) cut c.in_ok-records.ensures
    (elim c.if-whole.branch [
      | then-whole w ↦ inl (w.if-whole.true, w.end-is ∙ c.end-last.ensures)
      | else-whole w ↦ inr (w.if-whole.false, w.end-is ∙ c.clock_of-clock.ensures)
    ])
