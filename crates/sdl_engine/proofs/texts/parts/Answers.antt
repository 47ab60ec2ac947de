use Rattle.std.proofs.Common.{◌++◌, [], refl, sym, ◌∙◌, ap, append_assoc}
use Rattle.sdl_engine.specs.Parts.{none, one_more}
use Rattle.sdl_engine.proofs.texts.parts.Goals as goal

pub loop-line-init : goal.loop-line-init
loop-line-init c = ([], none, refl)

pub loop-line-preserved : goal.loop-line-preserved
loop-line-preserved c =
    let text = c.loop-line.invariant.0 in
    let line = c.in-Some.line.now in
    let h = c.in-Some.ensures in (
      text ++ line,
      one_more c.loop-line.invariant.1 h.0 (λ is. let bad = c.if-is_script_line.ensures.1 is in cc),
      c.loop-line.invariant.2 ∙ ap (λ t. text ++ t) h.1 ∙ sym (append_assoc text line c.in-Some.after.now),
    )
