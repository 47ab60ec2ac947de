use Rattle.std.proofs.Common.{◌∙◌, ap, arith}
use Rattle.std.specs.Prelude.{slice_get}
use Rattle.sdl_command_line.specs.Lines.{texts_of}
use Rattle.sdl_command_line.proofs.DifferenceLemmas.{difference_at}
use Rattle.sdl_command_line.proofs.expected.difference.first_difference.Goals as goal

pub returns-clause-first : goal.returns-clause-first
returns-clause-first c =
    difference_at c.args.wanted.now c.args.told.now c.same_lines-at.result _ c.same_lines-at.ensures.within_wanted
    c.split_at.ensures.front c.same_lines-at.ensures.same
    (c.first_of.ensures ∙ ap (λ l. slice_get (texts_of l) 0) c.split_at.ensures.back)
    (c.first_of-2.ensures ∙ ap (λ l. slice_get (texts_of l) 0) c.split_at-2.ensures.back) c.same_lines-at.ensures.next
    (λ equal. omega (arith, c.if-at-max.false, c.max.ensures, equal))
