use Rattle.std.proofs.Common.{◌≡◌, ◌∙◌, ap, count_by, rules}
use Rattle.sdl_engine.specs.Views.{has_signal}
use Rattle.sdl_engine.proofs.run.signals_of.Goals as goal

pub returns : goal.returns
returns c =
    let counted : c.count.result ≡ count_by has_signal c.deref.result.now = search rules in
    counted ∙ ap (λ lines. count_by has_signal lines) c.deref.ensures.value
