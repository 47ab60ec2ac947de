use Rattle.std.proofs.Common.{◌++◌, ◌/◌, ◌%◌, ◌∙◌, ap, append_assoc, arith, sym, take}
use Rattle.std.specs.Fmt.{decimal}
use Rattle.sdl_report.specs.Digits.{three_digits}
use Rattle.sdl_report.proofs.DigitLemmas.{three_more}
use Rattle.sdl_report.proofs.put.put_digits.Goals as goal

pub returns-then-number-lt1000000-clause-put : goal.returns-then-number-lt1000000-clause-put
returns-then-number-lt1000000-clause-put c =
    let before = take c.args.end c.args.bytes.now in
    let first = decimal (c.args.number / 1000) in
    let last = three_digits (c.args.number % 1000) in
    c.put_three.ensures.put
    ∙ ap (λ l. l ++ last) c.put_short-next.ensures.put
    ∙ append_assoc before first last
    ∙ ap (λ l. before ++ l) (sym (three_more c.args.number (omega arith) (omega arith)))
