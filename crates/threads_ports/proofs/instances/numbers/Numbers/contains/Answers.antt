use Rattle.std.proofs.Common.{◌<◌, ◌/◌, ◌%◌, eqb, length, sym, ap, ◌∙◌, arith}
use Rattle.std.proofs.lemmas.Bool.{ltb-false, ltb-true}
use Rattle.std.proofs.lemmas.List.{get_or_read}
use Rattle.std.proofs.lemmas.Nat.Bits.{shr_and_one}
use Rattle.std.specs.Int.{bit_at}
use Rattle.threads_ports.specs.NumberSets.{is_in}
use Rattle.threads_ports.proofs.Members.{members-beyond, members-contain}
use Rattle.threads_ports.proofs.instances.numbers.Numbers.contains.Goals as goal

pub returns-in_default-clause-members : goal.returns-in_default-clause-members
returns-in_default-clause-members c =
    let past = ltb-false (c.args.number / 64) (length c.self.inside.words) (sym c.in_default.ensures.lookup.0) in
    sym (members-beyond 1024 c.self.inside.words c.args.number (omega arith))
    ∙ ap (is_in c.args.number) c.self.view_is

pub returns-clause-members : goal.returns-clause-members
returns-clause-members c =
    let word : c.args.number / 64 < length c.self.inside.words = ltb-true _ _ (sym c.in-Some.ensures.lookup.0) in
    ap (λ b. eqb b 1) (shr_and_one c.in-Some.word.now (c.args.number % 64))
    ∙ ap (λ w. eqb (bit_at w (c.args.number % 64)) 1)
    (get_or_read c.self.inside.words (c.args.number / 64) c.in-Some.word.now word c.in-Some.ensures.lookup.1 0)
    ∙ sym (members-contain 1024 c.self.inside.words c.args.number (omega arith))
    ∙ ap (is_in c.args.number) c.self.view_is

pub returns-clause-below : goal.returns-clause-below
returns-clause-below c = λ _.
    let word : c.args.number / 64 < length c.self.inside.words = ltb-true _ _ (sym c.in-Some.ensures.lookup.0) in
    omega arith
