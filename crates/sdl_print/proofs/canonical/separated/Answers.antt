use Rattle.std.proofs.Common.{◌∙◌, ap}
use Rattle.sdl_print.specs.Wrote.{followed_by}
use Rattle.sdl_print.proofs.ListLemmas.{on_ok, separated_at}
use Rattle.sdl_print.proofs.canonical.separated.Goals as goal

pub returns-in_ok-write-in-len1-up : goal.returns-in_ok-write-in-len1-up
returns-in_ok-write-in-len1-up g c =
    on_ok c.after_commas.result (λ h j. h j ∙ c.in_ok-write-in-len1-up.ensures _
    ∙ ap (followed_by c.args.text.now)
    (separated_at g.T.Canonical.form c.args.items.now c.first-item.result c.in-len1-up.len_at_least c.first-item.is j)) c.after_commas.ensures
