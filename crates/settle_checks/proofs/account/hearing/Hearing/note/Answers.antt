-- A line past all that was heard, one whose signal went to an instance, and one whose signal didn't.
use Rattle.std.proofs.Common.{◌∙◌, ap, get_or}
use Rattle.sdl_system.specs.declared.route.Target.TheVariants as target
use Rattle.settle_checks.proofs.HearLemmas.{note_other, note_pass, note_past}
use Rattle.settle_checks.specs.Flows.{passes_to}
use Rattle.settle_checks.proofs.account.hearing.Hearing.note.Goals as goal

pub returns-then-self-targets : goal.returns-then-self-targets
returns-then-self-targets c = λ heard rest all targets is.
    note_past c.args.line.now rest heard all c.args.self.now.place c.args.self.now.passes.items is c.args.targets.now
    targets c.if-self-targets.true

pub returns-in_default-pass_to : goal.returns-in_default-pass_to
returns-in_default-pass_to c = λ heard rest all targets is.
    let place = c.args.self.now.place in
    let signal = c.in-Some.signal in
    let to = get_or c.args.targets.now place (target.Instance 0) in
    note_other c.args.line.now rest heard all place c.args.self.now.passes.items is signal c.in-Some.is
    c.args.targets.now targets c.if-self-targets.false (target.Instance 0)
    (c.in_default-pass_to.ensures ∙ ap (λ at. passes_to at signal.item.name to) c.get.ensures)

pub returns : goal.returns
returns c = λ heard rest all targets is.
    let place = c.args.self.now.place in
    let signal = c.in-Some.signal in
    let to = get_or c.args.targets.now place (target.Instance 0) in
    note_pass c.args.line.now rest heard all place c.args.self.now.passes.items is signal c.in-Some.is
    c.args.targets.now targets c.if-self-targets.false (target.Instance 0) c.in-Some-pass_to.pass
    c.push.new.self.items (c.in-Some-pass_to.ensures ∙ ap (λ at. passes_to at signal.item.name to) c.get.ensures)
    c.in_ok-push.ensures.items
