-- Tables that are made entry by entry.
use Rattle.std.proofs.Common.{◌≡◌, ◌∙◌, ◌++◌, ◌⊎◌, inl, inr, List, [], ◌∷◌, Option, ap, map, refl, sym, ℤ}
use Rattle.build_states.proofs.AnswerLemmas.{append-nil}
use Rattle.sdl_build.specs.Signals.{Signal, signals_from}
use Rattle.build_definitions.specs.Rows.{SignalRow}
use Rattle.build_definitions.specs.Seen.{signal_seen}
use Rattle.build_definitions.specs.declared.entries.SignalEntry.{SignalEntry}

no-durations : (rows : List SignalRow) → signals_from rows [] ≡ []
no-durations [] = refl
no-durations (row ∷ rows) = refl

pub signals-done : (entries : List SignalEntry) (durations : List (Option ℤ)) (whole made : List Signal) →
    (entries ≡ []) ⊎ (durations ≡ []) → whole ≡ made ++ signals_from (map signal_seen entries) durations →
    made ≡ whole
signals-done entries durations whole made (inl none) is =
    sym (is ∙ ap (λ list. made ++ signals_from (map signal_seen list) durations) none ∙ append-nil made)
signals-done entries durations whole made (inr none) is =
    sym (is ∙ ap (λ list. made ++ signals_from (map signal_seen entries) list) none
    ∙ ap (λ list. made ++ list) (no-durations (map signal_seen entries)) ∙ append-nil made)
