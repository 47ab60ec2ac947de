use Rattle.std.proofs.Common.{◌≡◌, ◌<◌, ◌/◌, length, ap, ◌∙◌, arith}
use Rattle.threads_ports.specs.NumberSets.{is_in, without}
use Rattle.threads_ports.specs.Words.{members_below}
use Rattle.threads_ports.proofs.Members.{members-remove, length-remove}
use Rattle.threads_ports.proofs.instances.numbers.Numbers.remove.Goals as goal

pub overflow_sub-self : goal.overflow_sub-self
overflow_sub-self c =
    let word : c.args.number / 64 < length c.self.inside.words = omega arith in
    let present = ap (is_in c.args.number) c.self.view_is ∙ c.requires.1 in
    let fewer = length-remove 1024 c.self.inside.words c.args.number c.requires.0 word present in
    let count : c.self.inside.count ≡ length (members_below 1024 c.self.inside.words) = c.self.invariant in
    omega (arith, fewer, count)

pub invariant_of-self : goal.invariant_of-self
invariant_of-self c =
    let word : c.args.number / 64 < length c.self.inside.words = omega arith in
    let present = ap (is_in c.args.number) c.self.view_is ∙ c.requires.1 in
    let fewer = length-remove 1024 c.self.inside.words c.args.number c.requires.0 word present in
    let count : c.self.inside.count ≡ length (members_below 1024 c.self.inside.words) = c.self.invariant in
    omega (arith, fewer, count)

pub returns-clause-numbers : goal.returns-clause-numbers
returns-clause-numbers c =
    let word : c.args.number / 64 < length c.self.inside.words = omega arith in
    members-remove 1024 c.self.inside.words c.args.number c.requires.0 word ∙ ap (without c.args.number) c.self.view_is

pub returns-clause-count : goal.returns-clause-count
returns-clause-count c =
    let word : c.args.number / 64 < length c.self.inside.words = omega arith in
    let present = ap (is_in c.args.number) c.self.view_is ∙ c.requires.1 in
    length-remove 1024 c.self.inside.words c.args.number c.requires.0 word present
    ∙ ap length c.self.view_is
