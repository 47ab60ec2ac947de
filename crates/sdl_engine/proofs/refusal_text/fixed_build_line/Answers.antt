use Rattle.std.proofs.Common.{◌≡◌, codes, refl, subst, sym}
use Rattle.sdl_build.specs.ErrorText.{build_text}
use Rattle.sdl_engine.specs.RefusalText.{line_of}
use Rattle.sdl_engine.proofs.refusal_text.fixed_build_line.Goals as goal

pub returns-in-Memory : goal.returns-in-Memory
returns-in-Memory c = subst (λ r. line_of (codes "build Memory") ≡ line_of (build_text r)) (sym c.in-Memory.is) refl
