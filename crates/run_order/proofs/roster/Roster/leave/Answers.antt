use Rattle.std.proofs.Common.{◌≡◌, ◌∙◌, ◌==◌, Some, ap, filter, length, not, refl, rules, slice_get}
use Rattle.std.proofs.lemmas.Fn.{filter_same}
use Rattle.std.proofs.lemmas.Option.{slice_get_read}
use Rattle.run_order.proofs.Living.{least_set, left_set}
use Rattle.run_order.proofs.roster.Roster.leave.Goals as goal
use Rattle.run_order.specs.Roster.{first_of}

pub invariant_of-self : goal.invariant_of-self
invariant_of-self c =
    least_set c.self.inside.least.items c.self.inside.numbers.items c.args.process.0 c.retain.new.self
    c.first_in-first.result c.self.invariant (c.first_in-first.ensures ∙ ap first_of c.deref.ensures.value)

pub returns : goal.returns
returns c =
    let lists = c.self.inside.numbers.items in
    let place = c.args.process.0 in
    let old = c.index_mut-numbers.result.now in
    let there : slice_get lists place ≡ Some old =
    slice_get_read lists (length lists) place old refl (search rules) c.index_mut-numbers.ensures.value in
    let kept : c.retain.new.self.items ≡ filter (λ n. not (n == c.args.number)) old.items =
    filter_same _ (λ n. not (n == c.args.number)) _ (λ x b f' k. search rules) _ _ c.retain.ensures.filtered in
    rw (← c.self.view_is) (left_set lists c.args.process c.args.number old c.retain.new.self there kept)
