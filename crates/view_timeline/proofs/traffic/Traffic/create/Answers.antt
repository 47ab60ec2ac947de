-- The new instance lives, and then the event has no link.
use Rattle.std.proofs.Common.{◌++◌, ◌∷◌, ◌∙◌, [], ap}
use Rattle.std.proofs.lemmas.Result.{on_ok_weaker}
use Rattle.view_timeline.proofs.NoteLemmas.{living-same, on-ok-always}
use Rattle.view_timeline.specs.Rows.{row_of}
use Rattle.view_timeline.specs.declared.moves.Link.TheVariants as is
use Rattle.view_timeline.proofs.traffic.Traffic.create.Goals as goal

pub returns-clause-passed : goal.returns-clause-passed
returns-clause-passed c =
    on_ok_weaker c.pass.result
    (λ passed. record {
      links = passed.links ∙ ap (λ links. links.items ++ is.Plain ∷ []) c.in_ok-begin.ensures.links;
      arrows = passed.arrows ∙ c.in_ok-begin.ensures.arrows;
      rows = λ channel. passed.rows channel
          ∙ ap (λ rows. row_of rows.rows channel) c.in_ok-begin.ensures.rows;
    })
    c.pass.ensures.passed

pub returns-clause-living : goal.returns-clause-living
returns-clause-living c =
    on-ok-always c.pass.result _
    (λ n. living-same _ _ c.pass.ensures.living n ∙ c.in_ok-begin.ensures.living n)

pub returns-clause-begun : goal.returns-clause-begun
returns-clause-begun c =
    on-ok-always c.pass.result _
    (λ n. living-same _ _ c.pass.ensures.begun n ∙ c.in_ok-begin.ensures.begun n)
