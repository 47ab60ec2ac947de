use Rattle.std.proofs.Common.{◌++◌, ◌%◌, ◌∙◌, ap, arith, sym, take}
use Rattle.std.specs.Fmt.{decimal}
use Rattle.sdl_report.proofs.DigitLemmas.{three_all}
use Rattle.sdl_report.proofs.PieceLemmas.{decimal_parts}
use Rattle.sdl_report.proofs.put.put_short.Goals as goal

pub returns-then-number-ge100-clause-put : goal.returns-then-number-ge100-clause-put
returns-then-number-ge100-clause-put c =
    c.put_three.ensures.put
    ∙ ap (λ l. take c.args.end c.args.bytes.now ++ l) (sym (three_all c.args.number (omega arith) (omega arith)))

pub returns-then-number-ge10-clause-put : goal.returns-then-number-ge10-clause-put
returns-then-number-ge10-clause-put c =
    c.put_digit.ensures.put
    ∙ ap (λ l. l ++ decimal (c.args.number % 10)) c.put_digit-next.ensures.put
    ∙ decimal_parts (take c.args.end c.args.bytes.now) c.args.number (omega arith) (omega arith)
