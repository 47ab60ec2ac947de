-- Moments: what stays, the next time, and what is due.
use Rattle.std.proofs.Common.{◌≡◌, ◌∙◌, ◌+◌, ◌-◌, ◌<◌, ◌≤◌, Bool, true, ℕ, List, [], ◌∷◌, Option, None, Some, refl, ap, arith, map, slice_get, All, min}
use Rattle.std.proofs.lemmas.List.Elements.{All-cons, All-contains, All-head, All-map, All-nil, All-tail}
use Rattle.port_model.specs.declared.inbox.entry.Fuse.{Fuse}
use Rattle.port_model.specs.Timers.{IsLeast, earlier}
use Rattle.sdl_script.specs.declared.script.ScriptLine.{ScriptLine}
use Rattle.serial_sweeps.specs.Sweeps.{IsNextTime, IsNoFuseBefore, IsNoLineBefore, IsNothingDue, KeepsTime, moment_of, next_line, until_of}
use Rattle.serial_sweeps.specs.declared.scheduler.Scheduler.{Scheduler}

-- what stays from one to the next
pub keeps_time_on : (s m t : Scheduler) → KeepsTime s m → KeepsTime m t → KeepsTime s t
keeps_time_on s m t a b = record {
  script = b.script ∙ a.script;
  clock = b.clock ∙ a.clock;
  begun = b.begun ∙ a.begun;
}

pub until_is : (begun : Bool) (clock : ℕ) → begun ≡ true → until_of begun clock ≡ clock + 1
until_is begun clock is = ap (λ b. until_of b clock) is

-- nothing is due before the time 0
pub no_line_by_nought : (lines : List ScriptLine) → IsNoLineBefore 0 lines
no_line_by_nought [] = tt
no_line_by_nought (line ∷ later) = omega arith

-- nothing that is still to come has a time before the clock's
pub until_next : (until : ℕ) (fuses : List Fuse) (lines : List ScriptLine) (due : Option ℕ) (time : ℕ)
    → IsNoFuseBefore until fuses → IsNoLineBefore until lines → IsLeast (map (λ (fuse : Fuse). fuse.due) fuses) due
    → earlier due (next_line lines) ≡ Some time → until ≤ time
until_next until fuses [] None time no_fuse no_line least is = let no : ⊥ = cc in absurd no
until_next until fuses (line ∷ later) None time no_fuse no_line least is =
    let at : line.at ≡ time = cc in omega (arith, no_line, at)
until_next until fuses [] (Some due) time no_fuse no_line least is =
    let at : due ≡ time = cc in
    let above : until ≤ due = All-contains (λ n. until ≤ n) (map (λ (fuse : Fuse). fuse.due) fuses) due
    (All-map (λ n. until ≤ n) (λ (fuse : Fuse). fuse.due) fuses no_fuse) least.0 in
    omega (arith, above, at)
until_next until fuses (line ∷ later) (Some due) time no_fuse no_line least is =
    let at : min due line.at ≡ time = cc in
    let above : until ≤ due = All-contains (λ n. until ≤ n) (map (λ (fuse : Fuse). fuse.due) fuses) due
    (All-map (λ n. until ≤ n) (λ (fuse : Fuse). fuse.due) fuses no_fuse) least.0 in
    omega (arith, above, no_line, at)

-- no fuse that is left has a time before this
pub none_before : (clock : ℕ) (fuses : List Fuse) → All (λ (fuse : Fuse). clock < fuse.due) fuses
    → IsNoFuseBefore (clock + 1) fuses
none_before clock fuses all = λ k d below. omega (arith, all k d below)

-- where the least time of all is later, none has a time up to this
pub least_after : (time last : ℕ) (fuses : List Fuse) → All (λ n. time ≤ n) (map (λ (fuse : Fuse). fuse.due) fuses)
    → last < time → IsNoFuseBefore (last + 1) fuses
least_after time last [] all after = All-nil (λ (fuse : Fuse). last + 1 ≤ fuse.due)
least_after time last (first ∷ rest) all after =
    let times = map (λ (fuse : Fuse). fuse.due) rest in
    let here : time ≤ first.due = All-head (λ n. time ≤ n) first.due times all in
    All-cons (λ (fuse : Fuse). last + 1 ≤ fuse.due) first rest (omega (arith, here, after))
    (least_after time last rest (All-tail (λ n. time ≤ n) first.due times all) after)

-- a list without a first element is empty
pub first_gone : (lines : List ScriptLine) → slice_get lines 0 ≡ None → lines ≡ []
first_gone [] is = refl
first_gone (line ∷ later) is = let no : ⊥ = cc in absurd no

-- what is left of all times is less at a later one
less_left : (all time until later : ℕ) → until ≤ time → time < all → later ≡ time + 1 → all - later < all - until
less_left all time until later before within is = omega arith

pub clock_on : (all last time : ℕ) (s t u : Scheduler) → KeepsTime s t → IsNothingDue (moment_of t)
    → IsNextTime last (moment_of t) time → u.agenda.clock ≡ time → u.begun ≡ true → time < all
    → all - until_of u.begun u.agenda.clock < all - until_of s.begun s.agenda.clock
clock_on all last time s t u keeps due next clock begun within =
    let same : until_of t.begun t.agenda.clock ≡ until_of s.begun s.agenda.clock =
    ap (λ b. until_of b t.agenda.clock) keeps.begun ∙ ap (until_of s.begun) keeps.clock in
    let before : until_of t.begun t.agenda.clock ≤ time =
    until_next (until_of t.begun t.agenda.clock) t.agenda.fuses t.script.now next.due time due.fuses due.lines next.least
    next.is_next in
    let later : until_of u.begun u.agenda.clock ≡ time + 1 =
    until_is u.begun u.agenda.clock begun ∙ ap (λ n. n + 1) clock in
    less_left all time (until_of s.begun s.agenda.clock) (until_of u.begun u.agenda.clock) (omega (arith, same, before))
    within later
