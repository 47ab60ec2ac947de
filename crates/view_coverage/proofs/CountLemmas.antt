-- A table of counts, with one more for a point.
use Rattle.std.proofs.Common.{◌≡◌, ◌∙◌, ◌+◌, ℕ, Bool, true, false, cond, List, Some, ap, arith, refl, sym, unwrap_or}
use Rattle.std.specs.Map.{lookup}
use Rattle.std.proofs.lemmas.Bool.{and_parts}
use Rattle.port_model.specs.declared.values.item.SignalId.{SignalId}
use Rattle.sdl_system.specs.declared.id.ProcessId.{ProcessId}
use Rattle.sdl_system.specs.declared.id.StateId.{StateId}
use Rattle.view_coverage.specs.Coverage.{counted, once, same_point}
use Rattle.view_coverage.specs.contracts.point.PassagePartialEq.TheImpl as passages
use Rattle.view_coverage.specs.declared.point.Passage.{Passage}
use Rattle.view_coverage.specs.declared.point.Passage.TheVariants.{Entered, Provided, Taken}
use Rattle.view_coverage.specs.declared.point.Point.{Point}

signal-same : (a b : SignalId) → passages.ghosts.eq (Taken a) (Taken b) ≡ true → a ≡ b
signal-same a b same =
    let numbers : a.0 ≡ b.0 = grind arith in
    ap (λ n. record { 0 = n }) numbers

passage-same : (a b : Passage) → passages.ghosts.eq a b ≡ true → a ≡ b
passage-same Entered Entered same = refl
passage-same Entered (Taken s) same = cc
passage-same Entered (Provided n) same = cc
passage-same (Taken r) Entered same = cc
passage-same (Taken r) (Taken s) same = ap Taken (signal-same r s same)
passage-same (Taken r) (Provided n) same = cc
passage-same (Provided m) Entered same = cc
passage-same (Provided m) (Taken s) same = cc
passage-same (Provided m) (Provided n) same =
    let numbers : m ≡ n = grind arith in
    ap Provided numbers

point-made : (a : Point) (process : ProcessId) (state : StateId) (passage : Passage) → a.process ≡ process
    → a.state ≡ state → a.passage ≡ passage → a ≡ record { process = process; state = state; passage = passage }
point-made a process state passage processes states passages =
    ap (λ p. record { process = p; state = a.state; passage = a.passage }) processes
    ∙ ap (λ s. record { process = process; state = s; passage = a.passage }) states
    ∙ ap (λ p. record { process = process; state = state; passage = p }) passages

point-same : (a b : Point) → same_point a b ≡ true → a ≡ b
point-same a b same =
    let here = and_parts _ _ same in
    let there = and_parts _ _ here.1 in
    let process : a.process.0 ≡ b.process.0 = let is = here.0 in grind arith in
    let state : a.state.0 ≡ b.state.0 = let is = there.0 in grind arith in
    point-made a b.process b.state b.passage (ap (λ n. record { 0 = n }) process) (ap (λ n. record { 0 = n }) state)
    (passage-same a.passage b.passage there.1)

-- the table with one more for a point, by what it says of another
pub counted-added : (table : List (Point × ℕ)) (passed point : Point) (times : ℕ) → times ≡ counted table passed + 1
    → unwrap_or (cond (same_point passed point) (Some times) (lookup (same_point point) table)) 0
    ≡ counted table point + once (Some passed) point
counted-added table passed point times is = by (same_point passed point) refl
  where
    by : (b : Bool) → same_point passed point ≡ b
        → unwrap_or (cond b (Some times) (lookup (same_point point) table)) 0
        ≡ counted table point + once (Some passed) point
    by true same =
        is ∙ ap (λ one. counted table one + 1) (point-same passed point same)
        ∙ ap (λ b. counted table point + cond b 1 0) (sym same)
    by false apart =
        (let more : counted table point ≡ counted table point + 0 = omega arith in more)
        ∙ ap (λ b. counted table point + cond b 1 0) (sym apart)
