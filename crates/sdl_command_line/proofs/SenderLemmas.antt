-- Lines in another order, and their texts.
use Rattle.std.proofs.Common.{◌≡◌, ◌∙◌, ℕ, ◌<◌, ◌≤◌, ◌∷◌, [], Bool, List, true, false, ap, arith, cond, get_or, is_lt, length, nat_cmp, refl, subst, sym}
use Rattle.std.proofs.lemmas.List.{get_or-map, length-map}
use Rattle.std.specs.Borrow.{Bor}
use Rattle.std.specs.List.{filter}
use Rattle.std.specs.List.Sorted.{IsNonDecreasingBy, IsStableByKey, ties}
use Rattle.sdl_command_line.specs.Lines.{texts_of}
use Rattle.sdl_command_line.specs.Sender.{ending_number}

-- texts ascend as their lines do
pub ascending_texts : (n : List ℕ → ℕ) (lines : List (Bor (List ℕ))) → IsNonDecreasingBy (λ line. n line.now) lines →
    IsNonDecreasingBy n (texts_of lines)
ascending_texts n [] up i j d before within = absurd (omega (arith, within))
ascending_texts n (line ∷ lines) up i j d before within =
    let all = line ∷ lines in
    let inside : j < length all = subst (λ len. j < len) (length-map all (λ (l : Bor (List ℕ)). l.now)) within in
    let earlier : i < length all = omega (arith, before, inside) in
    let view = λ (l : Bor (List ℕ)). l.now in
    subst (λ m. m ≤ n (get_or (texts_of all) j d)) (sym (ap n (get_or-map view all i line d earlier)))
    (subst (λ m. n (get_or all i line).now ≤ m) (sym (ap n (get_or-map view all j line d inside)))
    (up i j line before inside))

-- the texts that pass a test are those of the lines whose texts do
passing : (test : List ℕ → Bool) (lines : List (Bor (List ℕ))) →
    filter test (texts_of lines) ≡ texts_of (filter (λ line. test line.now) lines)
passing test [] = refl
passing test (line ∷ lines) =
    let rest = passing test lines in
    elim (test line.now) as (λ b. cond b (line.now ∷ filter test (texts_of lines)) (filter test (texts_of lines))
    ≡ texts_of (cond b (line ∷ filter (λ l. test l.now) lines) (filter (λ l. test l.now) lines)))
    [ true ↦ ap (λ l. line.now ∷ l) rest | false ↦ rest ]

-- texts keep their order as their lines do
pub stable_texts : (lines arranged : List (Bor (List ℕ))) →
    IsStableByKey (λ line. ending_number line.now) nat_cmp lines arranged →
    IsStableByKey ending_number nat_cmp (texts_of lines) (texts_of arranged)
stable_texts lines arranged stable text =
    let test = ties (λ (one other : List ℕ). is_lt (nat_cmp (ending_number one) (ending_number other))) text in
    let line : Bor (List ℕ) = record { ref_ptr = (0, 0); now = text } in
    passing test arranged ∙ ap texts_of (stable line) ∙ sym (passing test lines)
