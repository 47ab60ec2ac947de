use Rattle.std.proofs.Common.{◌≡◌, ◌∙◌, ◌+◌, Contains, Some, ap, arith, slice_get, subst, sym, true}
use Rattle.std.proofs.lemmas.Option.{slice_get-get_or}
use Rattle.run_tracks.proofs.Queues.{queued_more}
use Rattle.run_tracks.proofs.work_list.WorkList.wake.Goals as goal

pub invariant_of-self-then-not-queued : goal.invariant_of-self-then-not-queued
invariant_of-self-then-not-queued c =
    let e = c.in-Some.ensures in
    let is : c.args.number ≡ c.in-Some.place + 1 = omega (arith, e.0, e.1) in
    queued_more c.self.inside.queued.items c.self.inside.queue.items c.push_back.new.self.items c.in-Some.place
    c.args.number c.self.invariant is c.in_ok-push_back.ensures.items

pub returns-else-not-queued-clause-woken : goal.returns-else-not-queued-clause-woken
returns-else-not-queued-clause-woken c = λ some few.
    let e = c.in-Some.ensures in
    let is : c.args.number ≡ c.in-Some.place + 1 = omega (arith, e.0, e.1) in
    let there : slice_get c.self.inside.queued.items c.in-Some.place ≡ Some true =
    slice_get-get_or c.self.inside.queued.items c.in-Some.place c.in-Some-get_mut.queued.now
    c.in-Some-get_mut.ensures.item.3.0
    ∙ ap Some (sym c.in-Some-get_mut.ensures.value ∙ c.if-not-queued.false) in
    subst (λ n. Contains c.self.inside.queue.items n) (sym is) (c.self.invariant c.in-Some.place there)
