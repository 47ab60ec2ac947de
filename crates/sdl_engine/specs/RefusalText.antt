-- The line that tells a refusal: the text of the layer that refuses, and a line end.
use Rattle.std.specs.Prelude.{ℕ, List, [], ◌∷◌, ◌++◌}
use Rattle.sdl_build.specs.ErrorText.{build_text}
use Rattle.run_record.specs.RunError.{run_text}
use Rattle.sdl_parse.specs.ErrorText.{parse_text}
use Rattle.sdl_script.specs.ErrorText.{script_text}
use Rattle.sdl_engine.specs.declared.refusal.Refusal.{Refusal}
use Rattle.sdl_engine.specs.declared.refusal.Refusal.TheVariants as refusal

abbrev pub refusal_text : Refusal → List ℕ
refusal_text (refusal.Parse error) = parse_text error
refusal_text (refusal.Build error) = build_text error
refusal_text (refusal.Script error) = script_text error
refusal_text (refusal.Run error) = run_text error

abbrev pub line_of : List ℕ → List ℕ
line_of text = text ++ 10 ∷ []

-- the line that tells a refusal
abbrev pub refusal_line : Refusal → List ℕ
refusal_line refusal = line_of (refusal_text refusal)
