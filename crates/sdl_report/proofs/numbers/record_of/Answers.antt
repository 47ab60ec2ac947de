use Rattle.std.proofs.Common.{◌∙◌, sym}
use Rattle.sdl_report.proofs.NumberLemmas.{none-has, none-left}
use Rattle.sdl_report.proofs.numbers.record_of.Goals as goal

pub returns-clause-is : goal.returns-clause-is
returns-clause-is c = sym (none-left _ _ c.in_default.ensures.cases) ∙ c.loop-record.invariant

pub returns-clause-none : goal.returns-clause-none
returns-clause-none c =
    λ rising. none-has _ _ rising (sym c.loop-record.invariant ∙ none-left _ _ c.in_default.ensures.cases)
