-- The answers of a process, one after the other.
use Rattle.std.proofs.Common.{◌≡◌, ◌∙◌, ℕ, ◌+◌, ◌<◌, ◌++◌, List, ◌∷◌, Option, add-one, ap, append_assoc, drop, drop-cons, get_or, length, slice_get, suc, sym}
use Rattle.sdl_system.specs.declared.id.ProcessId.{ProcessId}
use Rattle.view_coverage.specs.declared.goals.goal.AnswerGoal.{AnswerGoal}
use Rattle.view_coverage.specs.Sections.{Row, answer_of, answer_rows}

-- one goal further
pub answers-step : (process : ProcessId) (counts : List ℕ) (number next : ℕ) (goals : List AnswerGoal) (i : ℕ)
    (goal : AnswerGoal) (times : Option ℕ) (before after all : List Row) → i < length goals
    → goal ≡ get_or goals i goal → next ≡ number + 1 → times ≡ slice_get counts number
    → after ≡ before ++ answer_of process goal times
    → before ++ answer_rows process counts number (drop i goals) ≡ all
    → after ++ answer_rows process counts next (drop (i + 1) goals) ≡ all
answers-step process counts number next goals i goal times before after all below is follows counted added was =
    let rest : answer_rows process counts number (drop i goals)
    ≡ answer_of process goal times ++ answer_rows process counts next (drop (i + 1) goals) =
    ap (answer_rows process counts number)
    (drop-cons goals i goal below ∙ ap (λ one. one ∷ drop (suc i) goals) (sym is))
    ∙ ap (λ t. answer_of process goal t ++ answer_rows process counts (number + 1) (drop (suc i) goals)) (sym counted)
    ∙ ap (λ n. answer_of process goal times ++ answer_rows process counts n (drop (suc i) goals)) (sym follows)
    ∙ ap (λ n. answer_of process goal times ++ answer_rows process counts next (drop n goals)) (sym (add-one i)) in
    ap (λ rows. rows ++ answer_rows process counts next (drop (i + 1) goals)) added
    ∙ append_assoc before (answer_of process goal times) (answer_rows process counts next (drop (i + 1) goals))
    ∙ ap (λ rows. before ++ rows) (sym rest)
    ∙ was
