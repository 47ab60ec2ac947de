use Rattle.std.proofs.Common.{◌≡◌, codes, refl, subst, sym}
use Rattle.run_record.specs.RunError.{run_text}
use Rattle.sdl_engine.specs.RefusalText.{line_of}
use Rattle.sdl_engine.proofs.refusal_text.fixed_run_line.Goals as goal

pub returns-in-Memory : goal.returns-in-Memory
returns-in-Memory c = subst (λ r. line_of (codes "run Memory") ≡ line_of (run_text r)) (sym c.in-Memory.is) refl
