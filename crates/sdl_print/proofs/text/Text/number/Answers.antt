use Rattle.std.proofs.Common.{rules, arith}
use Rattle.std.proofs.lemmas.Grind.{common_steps}
use Rattle.sdl_print.specs.Wrote.{followed_by}
use Rattle.sdl_print.proofs.DecimalLemmas.{blank_behind}
use Rattle.sdl_print.proofs.text.Text.number.Goals as goal

pub returns : goal.returns
unfolding followed_by
returns c =
    let gap = blank_behind c.args.value c.ranges.value.sfits in
    first_of (search rules, grind (arith, common_steps))
