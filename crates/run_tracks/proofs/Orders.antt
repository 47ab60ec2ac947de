-- Where all can be told in some order, it can be told whatever was told first.
use Rattle.std.proofs.Common.{◌≡◌, ℕ, List, [], ◌∷◌, inl, inr, subst, sym}
use Rattle.run_tracks.proofs.Apart.{two_are_apart}
use Rattle.run_tracks.specs.MoveLaws.{HasOrder, IsAllTold, IsStuck, NothingIsChosen, Reaches, StuckHasNoOrder, begins, moves, moves_on, told}
use Rattle.run_tracks.specs.Moves.{Act, Brings, Goes, Left, May, Move, Ticks, WaitsFor, after}

no_more : {X : Type 0} (all : List X) (first : X) (rest : List X) → all ≡ [] → all ≡ first ∷ rest → ⊥
no_more all first rest none some = let no : ⊥ = cc in no

-- where all is told, it stays so
told_kept : (l : Left) → IsAllTold l → (one : Move) → May l one → IsAllTold (after l one)
told_kept l all (Goes number one later) may = absurd (no_more (l.acts number) one later (all number) may.next)
told_kept l all (Brings receiver) may = all
told_kept l all (Ticks time) may = all

pub order_kept : {l : Left} → HasOrder l → (one : Move) → May l one → HasOrder (after l one)
order_kept (told l all) one may = told (after l one) (told_kept l all one may)
order_kept (moves l other also order) one may =
    elim (two_are_apart l one other may also) [
      | inl same ↦ subst HasOrder (sym same) order
      | inr both ↦
          moves (after l one) other both.second (subst HasOrder (sym both.same) (order_kept order one both.first))
    ]

reached : (first : Left) → HasOrder first → {l : Left} → Reaches first l → HasOrder l
reached first order begins = order
reached first order (moves_on l so one may) = order_kept (reached first order so) one may

pub nothing_is_chosen : NothingIsChosen
nothing_is_chosen = λ first l order so. reached first order so

-- where nothing may be told, all is
is_told : {l : Left} → HasOrder l → IsStuck l → ⊥
is_told (told l all) stuck = stuck.left all
is_told (moves l one may order) stuck = stuck.nothing one may

pub stuck_has_no_order : StuckHasNoOrder
stuck_has_no_order = λ first l so stuck order. is_told (reached first order so) stuck
