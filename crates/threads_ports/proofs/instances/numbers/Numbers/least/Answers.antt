use Rattle.std.proofs.Common.{◌≡◌, ℕ, ◌<◌, ◌≤◌, List, slice_get, get_or, sym, refl, ap, ◌∙◌, ⊎_elim, arith}
use Rattle.std.proofs.lemmas.Bool.{cases_lt}
use Rattle.std.proofs.lemmas.List.{get_or_past}
use Rattle.threads_ports.proofs.Members.{members-least, members-none}
use Rattle.threads_ports.proofs.instances.numbers.Numbers.least.Goals as goal

pub returns-then-word-ne0 : goal.returns-then-word-ne0
returns-then-word-ne0 c =
    let low = c.lowest.ensures.0 in
    sym (members-least 1024 c.self.inside.words c.loop-place.place _ c.lowest.result refl low
    c.lowest.ensures.1 c.lowest.ensures.2 c.loop-place.invariant (omega arith))
    ∙ ap (λ (l : List ℕ). slice_get l 0) c.self.view_is

pub returns : goal.returns
returns c =
    let none : (j : ℕ) → get_or c.self.inside.words j 0 ≡ 0 = λ j.
    ⊎_elim (λ (before : j < c.loop-place.place). c.loop-place.invariant j before)
    (λ (past : c.loop-place.place ≤ j). get_or_past c.self.inside.words j 0 (omega arith))
    (cases_lt j c.loop-place.place) in
    ap (λ (l : List ℕ). slice_get l 0) (sym (members-none 1024 c.self.inside.words none))
    ∙ ap (λ (l : List ℕ). slice_get l 0) c.self.view_is
