use Rattle.std.proofs.Common.{◌≡◌, ◌<◌, ◌/◌, ◌+◌, length, sym, ap, ◌∙◌, arith}
use Rattle.threads_ports.specs.NumberSets.{is_in, with_number}
use Rattle.threads_ports.specs.Words.{members_below}
use Rattle.threads_ports.proofs.Members.{members-insert, length-insert, members-most}
use Rattle.threads_ports.proofs.instances.numbers.Numbers.insert.Goals as goal

pub overflow_add-self : goal.overflow_add-self
overflow_add-self c =
    let most = members-most 1024 c.self.inside.words in
    let count : c.self.inside.count ≡ length (members_below 1024 c.self.inside.words) = c.self.invariant in
    omega (arith, most, count)

pub invariant_of-self : goal.invariant_of-self
invariant_of-self c =
    let word : c.args.number / 64 < length c.self.inside.words = omega arith in
    let absent = ap (is_in c.args.number) c.self.view_is ∙ c.requires.1 in
    ap (λ n. n + 1) c.self.invariant
    ∙ sym (length-insert 1024 c.self.inside.words c.args.number c.requires.0 word absent)

pub returns-clause-numbers : goal.returns-clause-numbers
returns-clause-numbers c =
    let word : c.args.number / 64 < length c.self.inside.words = omega arith in
    members-insert 1024 c.self.inside.words c.args.number c.requires.0 word
    ∙ ap (with_number c.args.number) c.self.view_is

pub returns-clause-count : goal.returns-clause-count
returns-clause-count c =
    let word : c.args.number / 64 < length c.self.inside.words = omega arith in
    let absent = ap (is_in c.args.number) c.self.view_is ∙ c.requires.1 in
    length-insert 1024 c.self.inside.words c.args.number c.requires.0 word absent
    ∙ ap (λ l. length l + 1) c.self.view_is
