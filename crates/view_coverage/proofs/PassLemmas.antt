-- Going along the events of a record.
use Rattle.std.proofs.Common.{◌≡◌, ℕ, ◌+◌, List, ◌∷◌, Option, sym, ◌∙◌, ap, arith}
use Rattle.run_record.specs.Event.{Event}
use Rattle.sdl_system.specs.declared.id.ProcessId.{ProcessId}
use Rattle.sdl_system.specs.declared.id.StateId.{StateId}
use Rattle.view_coverage.specs.Coverage.{once, point_of, state_after, times_from}
use Rattle.view_coverage.specs.declared.point.Point.{Point}

-- one event further
pub times-step : (process : ProcessId) (events rest : List Event) (one : Event) (state after : Option StateId)
    (passed : Option Point) (old new total : ℕ) (point : Point) → events ≡ one ∷ rest
    → passed ≡ point_of process state one → after ≡ state_after state one → new ≡ old + once passed point
    → old + times_from process state events point ≡ total
    → new + times_from process after rest point ≡ total
times-step process events rest one state after passed old new total point is passes moves adds was =
    let here : times_from process state events point ≡ once passed point + times_from process after rest point =
    ap (λ l. times_from process state l point) is
    ∙ ap (λ p. once p point + times_from process (state_after state one) rest point) (sym passes)
    ∙ ap (λ s. once passed point + times_from process s rest point) (sym moves) in
    omega arith
