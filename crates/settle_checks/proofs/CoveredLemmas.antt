-- What was taken uses up what was sent.
use Rattle.std.proofs.Common.{◌≡◌, ◌<◌, ◌≤◌, ◌+◌, ◌-◌, ap, arith, cond, get_or, length, subst, take, ℕ, List, None, Option, Some}
use Rattle.std.specs.Prelude.{IfSome, IsPermutation}
use Rattle.std.proofs.lemmas.List.Sorted.{sum_by-IsPermutation}
use Rattle.std.proofs.lemmas.List.Sums.{sum_by_more}
use Rattle.port_model.specs.declared.values.item.SignalId.{SignalId}
use Rattle.port_model.specs.declared.values.pid.Pid.{Pid}
use Rattle.settle_checks.specs.Crossings.{Covers, Uses, crossed, is_on}
use Rattle.settle_checks.specs.declared.summing.crossings.Crossing.{Crossing}
use Rattle.settle_checks.specs.declared.summing.crossings.Way.{Way}

-- ---- one that was taken

-- so many of its signals have used up what isn't left
abbrev pub HasUsed : Way → ℕ → List Crossing → List Crossing → Type 0
HasUsed taken count old new = Uses taken count old new

-- nothing is left of what was taken
pub used_all : (taken : Way) (count rest : ℕ) (old left : List Crossing) (place : Option ℕ) → rest ≤ count
    → IfSome place (λ at. rest ≡ 0) → HasUsed taken (count - rest) old left
    → IfSome place (λ at. Uses taken count old left)
used_all taken count rest old left None less none used = tt
used_all taken count rest old left (Some at) less none used =
    let same : count - rest ≡ count = omega (arith, none) in
    subst (λ n. HasUsed taken n old left) same used

-- ---- all of them

-- the first so many are covered by what isn't left
abbrev pub AreCoveredBy : List Crossing → List Crossing → List Crossing → Type 0
AreCoveredBy old left taken =
    (from : Pid) (to : ℕ) (name : SignalId) (until : ℕ)
    → crossed (is_on from to name until) taken + crossed (is_on from to name until) left
    ≤ crossed (is_on from to name until) old

pub covered_more : (old left new taken : List Crossing) (i : ℕ) (d : Crossing) → i < length taken
    → Uses (get_or taken i d).way (get_or taken i d).count left new → AreCoveredBy old left (take i taken)
    → AreCoveredBy old new (take (i + 1) taken)
covered_more old left new taken i d within uses are from to name until =
    let more : crossed (is_on from to name until) (take (i + 1) taken)
    ≡ crossed (is_on from to name until) (take i taken)
    + cond (is_on from to name until (get_or taken i d).way) (get_or taken i d).count 0 =
    sum_by_more (λ (one : Crossing). cond (is_on from to name until one.way) one.count 0) taken i d within in
    omega (arith, more, uses from to name until, are from to name until)

pub covered_all : (old left taken done : List Crossing) → done ≡ taken → AreCoveredBy old left done → Covers old taken
covered_all old left taken done is are from to name until =
    let same : crossed (is_on from to name until) done ≡ crossed (is_on from to name until) taken =
    ap (crossed (is_on from to name until)) is in
    omega (arith, same, are from to name until)

-- the order doesn't matter
pub covered_sorted : (sent taken left due : List Crossing) → IsPermutation sent left → IsPermutation taken due
    → Covers left due → Covers sent taken
covered_sorted sent taken left due sents takens covers from to name until =
    let weight = λ (one : Crossing). cond (is_on from to name until one.way) one.count 0 in
    let sent_is : crossed (is_on from to name until) left ≡ crossed (is_on from to name until) sent =
    sum_by-IsPermutation weight sent left sents in
    let taken_is : crossed (is_on from to name until) due ≡ crossed (is_on from to name until) taken =
    sum_by-IsPermutation weight taken due takens in
    omega (arith, sent_is, taken_is, covers from to name until)
