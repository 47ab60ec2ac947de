-- The rule of the numbers, which holds at every moment of every schedule.
use Rattle.std.specs.Prelude.{◌≡◌, ℕ, ◌+◌, ◌≤◌, nat_le, min, List, [], ◌∷◌, sum_by, if◌then◌else◌}
use mathlib.Core.Option.{some}
use lib.ListN.{get_elem?}
use Rattle.atomic_table.specs.Table.{State}
use Rattle.threads_ports.specs.declared.instances.rule.View.{View}
use Rattle.threads_ports.specs.Numbers.{times, one_to}

-- How many numbers are drawn after so many draws: a draw past the 1,000th gives none.
abbrev pub given : ℕ → ℕ
given draws = min draws 1000

-- How many draws past the last number a seat may have made: one for each of its parts, once it has seen all numbers drawn.
abbrev pub allowance : View → ℕ
allowance v = if nat_le 1000 v.seen then v.parts else 0

-- a fact of each view, with the number of its seat
abbrev pub EachView : (ℕ → View → Type 0) → List View → Type 0
EachView F views = (seat : ℕ) (v : View) → get_elem? views seat ≡ some v → F seat v

-- A seat has seen no more numbers drawn than there are. A seat with no part of the right has drawn nothing.
pub record Fits (draws : ℕ) (v : View) : Type 0 where
  pub seen : v.seen ≤ given draws
  pub idle : v.parts ≡ 0 → v.drawn ≡ []

-- The rule of the numbers. The one word counts the draws. The seats share the right to draw, which has 64 parts, and few draws
-- were made past the last number. What all seats have drawn is 1, 2, .. up to as many numbers as are drawn, each once. What
-- each seat knows is so.
pub record Kept (s : State (Unit {0}) View) : Type 0 where
  pub draws : ℕ
  pub word : s.words ≡ draws ∷ []
  pub parts : sum_by (λ v. v.parts) s.views ≡ 64
  pub few : draws ≤ 1000 + sum_by allowance s.views
  pub once : (x : ℕ) → sum_by (λ v. times x v.drawn) s.views ≡ times x (one_to (given draws))
  pub fits : EachView (λ seat. Fits draws) s.views
