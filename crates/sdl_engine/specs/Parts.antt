-- How an input is parted into a specification and a script.
use Rattle.std.specs.Prelude.{◌≡◌, ◌≢◌, ◌⊎◌, ℕ, List, [], ◌∷◌, ◌++◌, All, Option, None, Some, codes}
use Rattle.std.specs.Global.{Vec}
use Rattle.sdl_engine.specs.declared.texts.Texts.{Texts}

-- bytes without a line end, and the LF that ends them
abbrev pub IsLine : List ℕ → Type 0
IsLine line = (front : List ℕ) × (line ≡ front ++ 10 ∷ []) × All (λ b. b ≢ 10) front

-- the line that parts a script from its specification, with its end
abbrev pub IsScriptLine : List ℕ → Type 0
IsScriptLine line = (line ≡ codes "%script" ++ 10 ∷ []) ⊎ (line ≡ codes "%script" ++ 13 ∷ 10 ∷ [])

-- lines with their ends, none of which parts anything
pub data IsPlain : List ℕ → Type 0 where
  none : IsPlain []
  one_more : {text line : List ℕ} → IsPlain text → IsLine line → (IsScriptLine line → ⊥) → IsPlain (text ++ line)

-- The specification is what a text has before the first line that is exactly `%script`, the script what follows that
-- line. The last line may lack its end. Without such a line all of the text is the specification.
abbrev pub IsParted : List ℕ → List ℕ → List ℕ → Type 0
IsParted text specification script =
    (IsPlain specification × ((line : List ℕ) × IsScriptLine line × (text ≡ specification ++ (line ++ script))))
    ⊎ (IsPlain specification × (text ≡ specification ++ codes "%script") × (script ≡ []))
    ⊎ ((front last : List ℕ) × IsPlain front × (text ≡ front ++ last) × All (λ b. b ≢ 10) last
    × (last ≢ codes "%script") × (specification ≡ text) × (script ≡ []))

-- A script of its own takes the place of the one in the text: then nothing that follows the specification counts.
abbrev pub ArePartsOf : List ℕ → Option (Vec ℕ) → List ℕ → List ℕ → Type 0
ArePartsOf text None specification script = IsParted text specification script
ArePartsOf text (Some own) specification script =
    (script ≡ own.items) × ((after : List ℕ) × IsParted text specification after)

-- the specification and the script of an input
abbrev pub HasParts : Texts → List ℕ → List ℕ → Type 0
HasParts texts specification script = ArePartsOf texts.text.items texts.script specification script
