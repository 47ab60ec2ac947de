-- Lines in their order.
use Rattle.std.proofs.Common.{◌≡◌, ◌<◌, ◌≤◌, ◌++◌, ℕ, List, [], ◌∷◌, arith, get_or, length, subst}
use Rattle.std.specs.List.Sorted.{IsNonDecreasingBy}
use Rattle.std.proofs.lemmas.List.{get_or_default}
use Rattle.view_coverage.specs.Lcov.{AreInOrder, AreUpTo, RiseFrom, RiseUpTo}
use Rattle.view_coverage.specs.declared.sections.line_count.LineCount.{LineCount}

rise-from : (bound line : ℕ) (lines : List LineCount) → RiseUpTo bound line lines → RiseFrom line lines
rise-from bound line [] rise = tt
rise-from bound line (count ∷ rest) rise = (rise.0, rise-from bound count.line rest rise.1)

pub in-order : (bound : ℕ) (lines : List LineCount) → AreUpTo bound lines → AreInOrder lines
in-order bound [] up = tt
in-order bound (count ∷ rest) up = rise-from bound count.line rest up

-- ---- a later bound

rise-later : (bound later line : ℕ) (lines : List LineCount) → bound ≤ later → RiseUpTo bound line lines
    → RiseUpTo later line lines
rise-later bound later line [] most rise = omega (arith, most, rise)
rise-later bound later line (count ∷ rest) most rise =
    (rise.0, rise-later bound later count.line rest most rise.1)

pub up-to-later : (bound later : ℕ) (lines : List LineCount) → bound ≤ later → AreUpTo bound lines
    → AreUpTo later lines
up-to-later bound later [] most up = tt
up-to-later bound later (count ∷ rest) most up = rise-later bound later count.line rest most up

-- ---- one more

rise-joined : (bound line : ℕ) (lines : List LineCount) (last one : LineCount) → one.line ≡ last.line
    → RiseUpTo bound line (lines ++ last ∷ []) → RiseUpTo bound line (lines ++ one ∷ [])
rise-joined bound line [] last one same rise =
    let first = rise.0 in
    let most = rise.1 in (omega (arith, same, first), omega (arith, same, most))
rise-joined bound line (count ∷ rest) last one same rise =
    (rise.0, rise-joined bound count.line rest last one same rise.1)

-- the last one takes the place of another one of the same line
pub joined : (bound : ℕ) (lines : List LineCount) (last one : LineCount) → one.line ≡ last.line
    → AreUpTo bound (lines ++ last ∷ []) → AreUpTo bound (lines ++ one ∷ [])
joined bound [] last one same up = omega (arith, same, up)
joined bound (count ∷ rest) last one same up = rise-joined bound count.line rest last one same up

rise-more : (line : ℕ) (lines : List LineCount) (last count : LineCount) → (last.line ≡ count.line → ⊥)
    → RiseUpTo count.line line (lines ++ last ∷ []) → RiseUpTo count.line line (lines ++ last ∷ count ∷ [])
rise-more line [] last count other rise =
    let most = rise.1 in (rise.0, (omega (arith, other, most), omega arith))
rise-more line (first ∷ rest) last count other rise =
    (rise.0, rise-more first.line rest last count other rise.1)

-- one more after the last one
pub one_more : (lines : List LineCount) (last count : LineCount) → (last.line ≡ count.line → ⊥)
    → AreUpTo count.line (lines ++ last ∷ []) → AreUpTo count.line (lines ++ last ∷ count ∷ [])
one_more [] last count other up = (omega (arith, other, up), omega arith)
one_more (first ∷ rest) last count other up = rise-more first.line rest last count other up

-- ---- sorted counts

pub not-before : (counts : List LineCount) (i j : ℕ) (one d : LineCount) → IsNonDecreasingBy (λ count. count.line) counts
    → i ≤ j → j < length counts → (get_or counts i one).line ≤ (get_or counts j d).line
not-before counts i j one d sorted before within =
    subst (λ (count : LineCount). count.line ≤ (get_or counts j d).line)
    (get_or_default counts i d one (omega (arith, before, within))) (sorted i j d before within)
