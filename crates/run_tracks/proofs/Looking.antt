-- The looks of a record, where words are wanting.
use Rattle.std.proofs.Common.{◌≡◌, ◌∙◌, ◌++◌, ℕ, Bool, List, [], ◌∷◌, Option, ap, refl, sym}
use Rattle.run_record.specs.Event.{Event}
use Rattle.run_tracks.specs.Looks.{found_in, looks_in}
use Rattle.run_tracks.specs.declared.looks.Look.{Look}
use Rattle.run_tracks.specs.declared.looks.MoreFound.{MoreFound}
use Rattle.sdl_system.specs.declared.id.StateId.{StateId}
use Rattle.sdl_system.specs.declared.process.Process.{Process}

no_words : (step : ℕ) (found : List MoreFound) → looks_in step found [] ≡ []
no_words step [] = refl
no_words step (one ∷ rest) = refl

-- a step of which no word is kept leaves no look, and no later one does
pub pass_unknown : (p : Process) (looked : Bool) (state after : Option StateId) (events rest : List Event)
    (looks all : List Look) (step : ℕ) (counts : List ℕ) → counts ≡ []
    → looks ++ looks_in step (found_in p looked state events) counts ≡ all
    → looks ++ looks_in step (found_in p looked after rest) counts ≡ all
pass_unknown p looked state after events rest looks all step counts none so_far =
    ap (λ (words : List ℕ). looks ++ looks_in step (found_in p looked after rest) words) none
    ∙ ap (λ (more : List Look). looks ++ more) (no_words step (found_in p looked after rest))
    ∙ sym (ap (λ (more : List Look). looks ++ more) (no_words step (found_in p looked state events)))
    ∙ sym (ap (λ (words : List ℕ). looks ++ looks_in step (found_in p looked state events) words) none)
    ∙ so_far
