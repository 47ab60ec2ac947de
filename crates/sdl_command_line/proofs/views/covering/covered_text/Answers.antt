use Rattle.std.proofs.Common.{refl, string_bytes}
use Rattle.view_coverage.specs.Covered.{IsCoverage}
use Rattle.sdl_command_line.specs.Covered.{SaysCovered}
use Rattle.sdl_command_line.proofs.CoveredLaws.{if_ok, says_covered}
use Rattle.sdl_command_line.proofs.views.covering.covered_text.Goals as goal

pub returns : goal.returns
returns c =
    let told = c.args.told.now in
    let form = c.args.form in
    if_ok c.coverage.result (λ text. IsCoverage _ form told.source.now (string_bytes text))
    (λ text. SaysCovered told form (string_bytes text)) c.coverage.ensures
    (λ text covered. says_covered told form _ (string_bytes text) covered (record {
      parts = c.parts.ensures;
      limit = refl;
      on_threads = c.is_some.ensures;
      system = refl;
      report = refl;
    }))
