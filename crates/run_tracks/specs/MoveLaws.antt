-- Nothing is chosen: whatever is told next, the rest can be told as well as before.
use Rattle.std.specs.Prelude.{◌≡◌, ◌⊎◌, ℕ, []}
use Rattle.run_tracks.specs.Moves.{Left, May, Move, after}

-- all that instances do is told
abbrev pub IsAllTold : Left → Type 0
IsAllTold l = (number : ℕ) → l.acts number ≡ []

-- All that is left can be told in some order, in which each thing is permitted when its turn comes.
pub data HasOrder : Left → Type 0 where
  told : (l : Left) → IsAllTold l → HasOrder l
  moves : (l : Left) (one : Move) → May l one → HasOrder (after l one) → HasOrder l

-- This is left after things were told, each of which was permitted.
pub data Reaches (first : Left) : Left → Type 0 where
  begins : Reaches first first
  moves_on : (l : Left) → Reaches first l → (one : Move) → May l one → Reaches first (after l one)

-- something is left, and nothing may be told
pub record IsStuck (l : Left) : Type 0 where
  pub left : IsAllTold l → ⊥
  pub nothing : (one : Move) → May l one → ⊥

-- ---- the laws

-- each may come after the other, and the same is left, whichever comes first
pub record AreApart (l : Left) (one other : Move) : Type 0 where
  pub first : May (after l other) one
  pub second : May (after l one) other
  pub same : after (after l one) other ≡ after (after l other) one

-- Two things that may be told next leave the same, or each may be told after the other.
abbrev pub TwoAreApart : Type 0
TwoAreApart =
    (l : Left) (one other : Move) → May l one → May l other → (after l one ≡ after l other) ⊎ AreApart l one other

-- Where all can be told in some order, it can be told whatever was told first.
abbrev pub NothingIsChosen : Type 0
NothingIsChosen = (first l : Left) → HasOrder first → Reaches first l → HasOrder l

-- So whoever is stuck has found that there is no order.
abbrev pub StuckHasNoOrder : Type 0
StuckHasNoOrder = (first l : Left) → Reaches first l → IsStuck l → HasOrder first → ⊥
