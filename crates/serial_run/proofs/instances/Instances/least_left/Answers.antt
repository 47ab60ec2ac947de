use Rattle.std.proofs.Common.{◌∙◌, arith}
use Rattle.std.proofs.lemmas.Option.{slice_get_within}
use Rattle.serial_run.proofs.LivingLemmas.{left_behind, left_lesser, left_none}
use Rattle.serial_run.proofs.instances.Instances.least_left.Goals as goal

pub returns-in_default : goal.returns-in_default
returns-in_default c =
    left_none c.args.self.now c.args.place c.requires.ended c.args.who c.requires.who c.in_default.ensures

pub returns-then-least-who : goal.returns-then-least-who
returns-then-least-who c =
    left_lesser c.args.self.now c.args.place c.requires.ended c.args.who c.requires.who c.in-Some.least
    c.in-Some.ensures c.if-least-who.true

pub next_living-requires : goal.next_living-requires
next_living-requires c =
    let s = c.args.self.now in
    let within = slice_get_within s.instances.items c.args.place c.requires.ended.now c.requires.ended.is_there in
    omega (arith, within)

pub returns : goal.returns
returns c =
    c.next_living.ensures
    ∙ left_behind c.args.self.now c.args.place c.requires.ended c.args.who c.requires.who c.in-Some.least
    c.in-Some.ensures c.if-least-who.false
