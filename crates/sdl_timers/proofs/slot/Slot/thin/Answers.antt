-- The closure tests alone, so the tree is filtered.
use Rattle.std.proofs.Common.{◌∙◌, Bool, ap, filter, not, rules, subst, sym}
use Rattle.std.proofs.lemmas.List.Elements.{All-filter}
use Rattle.std.proofs.lemmas.Map.Made.{filter_same_pairs}
use Rattle.sdl_timers.specs.Turns.{HasItsTurn, HaveTheirTurns}
use Rattle.sdl_timers.proofs.Turning.{Kept, fuses_in}
use Rattle.sdl_timers.proofs.Thinning.{values_filter}
use Rattle.sdl_timers.proofs.slot.Slot.thin.Goals as goal

pub invariant_of-self : goal.invariant_of-self
invariant_of-self g c =
    let passes : Kept → Bool = λ (entry : Kept). not (g.S.SpentFuses.spent c.args.known.now entry.1) in
    let left = filter_same_pairs _ passes _ (λ k v b w f t. search rules) _ _ c.retain.ensures.filtered in
    subst (HaveTheirTurns c.self.inside.armed) (sym left)
    (All-filter passes (HasItsTurn c.self.inside.armed) _ c.self.invariant)

pub returns : goal.returns
returns g c =
    let passes : Kept → Bool = λ (entry : Kept). not (g.S.SpentFuses.spent c.args.known.now entry.1) in
    let left = filter_same_pairs _ passes _ (λ k v b w f t. search rules) _ _ c.retain.ensures.filtered in
    ap fuses_in left ∙ values_filter (g.S.SpentFuses.spent c.args.known.now) c.self.inside.fuses.entries
    ∙ ap (filter (λ fuse. not (g.S.SpentFuses.spent c.args.known.now fuse))) c.self.view_is
