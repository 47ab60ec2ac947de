use Rattle.std.proofs.Common.{◌≡◌, drop}
use Rattle.sdl_tree.specs.Canonical.{repeated}
use Rattle.sdl_tree.specs.Words.{Words}
use Rattle.sdl_print.specs.Form.{nodes}
use Rattle.sdl_print.specs.Wrote.{followed_by, after_comma}
use Rattle.sdl_print.proofs.canonical.after_commas.Given as goal

abbrev pub invariant-loop-item : goal.invariant-loop-item
invariant-loop-item g l = (j : Words) →
    followed_by l.text (repeated (after_comma g.T.Canonical.form.words) (nodes g.T.Canonical.form (drop l.item-index l.items)) j)
    ≡ followed_by l.initial.text (repeated (after_comma g.T.Canonical.form.words) (nodes g.T.Canonical.form l.items) j)
