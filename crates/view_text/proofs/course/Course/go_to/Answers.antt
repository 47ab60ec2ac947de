use Rattle.view_text.proofs.Going.{comes-more, comes-none, comes-to}
use Rattle.view_text.proofs.course.Course.go_to.Goals as goal

pub steps-init : goal.steps-init
steps-init c = λ system records told left now. comes-none system records told left c.args.at c.args.self.now now

pub steps-preserved : goal.steps-preserved
steps-preserved c = λ system records told left now.
    let so_far = c.steps.invariant system records told left now in
    comes-more system records told left c.args.at c.steps.self c.tell.new.self so_far
    (c.in_ok-told.ensures.told system records so_far.told' so_far.left' so_far.now c.if-not-told.false)

pub steps-smaller : goal.steps-smaller
steps-smaller c = c.in_ok-told.ensures.fewer c.if-not-told.false

pub returns-then-not-told : goal.returns-then-not-told
returns-then-not-told c = λ system records told left now.
    let so_far = c.steps.invariant system records told left now in
    comes-to system records told left c.args.at c.steps.self c.tell.new.self so_far
    (c.in_ok-told.ensures.not_told system records so_far.told' so_far.left' so_far.now c.if-not-told.true)
