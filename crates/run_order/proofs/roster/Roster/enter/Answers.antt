use Rattle.std.proofs.Common.{◌≡◌, ◌∙◌, Some, ap, length, refl, rules, slice_get}
use Rattle.std.proofs.lemmas.Option.{slice_get_read}
use Rattle.run_order.proofs.Living.{entered_set, least_same, least_set}
use Rattle.run_order.proofs.roster.Roster.enter.Goals as goal
use Rattle.run_order.specs.Roster.{first_of}

-- for lack of memory
pub invariant_of-self : goal.invariant_of-self
invariant_of-self c =
    let lists = c.self.inside.numbers.items in
    let place = c.args.process.0 in
    let old = c.index_mut-numbers.result.now in
    let there : slice_get lists place ≡ Some old =
    slice_get_read lists (length lists) place old refl (search rules) c.index_mut-numbers.ensures.value in
    least_same c.self.inside.least.items lists place old c.push.new.self c.self.invariant there
    c.in_err-push.ensures.items

pub invariant_of-self-2 : goal.invariant_of-self-2
invariant_of-self-2 c =
    least_set c.self.inside.least.items c.self.inside.numbers.items c.args.process.0 c.push.new.self
    c.first_in-first.result c.self.invariant (c.first_in-first.ensures ∙ ap first_of c.deref.ensures.value)

pub returns : goal.returns
returns c =
    let lists = c.self.inside.numbers.items in
    let place = c.args.process.0 in
    let old = c.index_mut-numbers.result.now in
    let there : slice_get lists place ≡ Some old =
    slice_get_read lists (length lists) place old refl (search rules) c.index_mut-numbers.ensures.value in
    rw (← c.self.view_is)
    (entered_set lists c.args.process c.args.number old c.push.new.self there c.in_ok-push.ensures.items)
