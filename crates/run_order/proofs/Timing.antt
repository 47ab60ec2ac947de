-- What is due, by the least time of a fuse and the next line's.
use Rattle.std.proofs.Common.{◌≡◌, ◌∙◌, ◌+◌, ◌<◌, ◌≤◌, Bool, true, false, ℕ, List, [], ◌∷◌, Option, None, Some, MatchOption, ap, arith, map, refl, slice_get, subst, sym}
use Rattle.std.proofs.lemmas.List.Elements.{All-contains, All-map, All-nil}
use Rattle.port_model.specs.declared.inbox.entry.Fuse.{Fuse}
use Rattle.port_model.specs.Timers.{IsLeast}
use Rattle.run_order.specs.Interleaving.{IsNothingDue}
use Rattle.run_order.specs.OrderState.{OrderState}
use Rattle.sdl_script.specs.declared.script.ScriptLine.{ScriptLine}
use Rattle.serial_order.specs.Execution.{IsNoFuseBefore, IsNoLineBefore}
use Rattle.serial_sweeps.proofs.Moments.{least_after}
use Rattle.serial_sweeps.specs.Sweeps.{until_of}

-- ---- before all have rested nothing is due

pub until_not : (begun : Bool) (clock : ℕ) → begun ≡ false → until_of begun clock ≡ 0
until_not begun clock is = ap (λ b. until_of b clock) is

pub until_then : (begun : Bool) (clock : ℕ) → begun ≡ true → until_of begun clock ≡ clock + 1
until_then begun clock is = ap (λ b. until_of b clock) is

pub no_fuse_by_nought : (fuses : List Fuse) → IsNoFuseBefore 0 fuses
no_fuse_by_nought fuses = λ k d below. omega arith

pub no_line_by_nought : (lines : List ScriptLine) → IsNoLineBefore 0 lines
no_line_by_nought [] = tt
no_line_by_nought (line ∷ later) = omega arith

-- ---- by the least time

no_fuses : (fuses : List Fuse) → map (λ (fuse : Fuse). fuse.due) fuses ≡ [] → fuses ≡ []
no_fuses [] none = refl
no_fuses (fuse ∷ more) none = let no : ⊥ = cc in absurd no

-- no fuse is due up to a time that is before the least one
pub no_fuse_by : (last : ℕ) (fuses : List Fuse) (due : Option ℕ) → IsLeast (map (λ (fuse : Fuse). fuse.due) fuses) due
    → MatchOption due (Unit {0}) (λ time. last < time) → IsNoFuseBefore (last + 1) fuses
no_fuse_by last fuses None least after =
    subst (IsNoFuseBefore (last + 1)) (sym (no_fuses fuses least)) (All-nil (λ (fuse : Fuse). last + 1 ≤ fuse.due))
no_fuse_by last fuses (Some due) least after = least_after due last fuses least.1 after

-- a fuse is due up to a time that isn't before the least one
pub a_fuse_by : (last : ℕ) (fuses : List Fuse) (due : ℕ) → IsLeast (map (λ (fuse : Fuse). fuse.due) fuses) (Some due)
    → due ≤ last → IsNoFuseBefore (last + 1) fuses → ⊥
a_fuse_by last fuses due least come all =
    let above : last + 1 ≤ due = All-contains (λ n. last + 1 ≤ n) (map (λ (fuse : Fuse). fuse.due) fuses) due
    (All-map (λ n. last + 1 ≤ n) (λ (fuse : Fuse). fuse.due) fuses all) least.0 in
    omega (arith, above, come)

-- ---- now

pub nothing_yet : (begun : Bool) (g : OrderState) → begun ≡ false → g.until ≡ until_of begun g.clock → IsNothingDue g
nothing_yet begun g is until =
    let none : g.until ≡ 0 = until ∙ until_not begun g.clock is in
    record {
      fuses = subst (λ time. IsNoFuseBefore time g.fuses) (sym none) (no_fuse_by_nought g.fuses);
      lines = subst (λ time. IsNoLineBefore time g.script) (sym none) (no_line_by_nought g.script);
    }

pub nothing_now : (begun : Bool) (g : OrderState) → begun ≡ true → g.until ≡ until_of begun g.clock
    → IsNoFuseBefore (g.clock + 1) g.fuses → IsNoLineBefore (g.clock + 1) g.script → IsNothingDue g
nothing_now begun g is until fuses lines =
    let then : g.until ≡ g.clock + 1 = until ∙ until_then begun g.clock is in
    record {
      fuses = subst (λ time. IsNoFuseBefore time g.fuses) (sym then) fuses;
      lines = subst (λ time. IsNoLineBefore time g.script) (sym then) lines;
    }

-- where a fuse is due, or a line
pub due_fuse : (begun : Bool) (g : OrderState) → begun ≡ true → g.until ≡ until_of begun g.clock
    → (IsNoFuseBefore (g.clock + 1) g.fuses → ⊥) → IsNothingDue g → ⊥
due_fuse begun g is until come due =
    come (subst (λ time. IsNoFuseBefore time g.fuses) (until ∙ until_then begun g.clock is) due.fuses)

pub lines_now : (begun : Bool) (g : OrderState) → begun ≡ true → g.until ≡ until_of begun g.clock → IsNothingDue g
    → IsNoLineBefore (g.clock + 1) g.script
lines_now begun g is until due =
    subst (λ time. IsNoLineBefore time g.script) (until ∙ until_then begun g.clock is) due.lines

-- ---- lines

pub no_line_left : (time : ℕ) (lines : List ScriptLine) → slice_get lines 0 ≡ None → IsNoLineBefore time lines
no_line_left time [] none = tt
no_line_left time (line ∷ later) none = let no : ⊥ = cc in absurd no

pub no_line_at : (last : ℕ) (lines : List ScriptLine) (line : ScriptLine) → slice_get lines 0 ≡ Some line
    → last < line.at → IsNoLineBefore (last + 1) lines
no_line_at last [] line first after = tt
no_line_at last (one ∷ later) line first after =
    let is : one.at ≡ line.at = cc in
    omega (arith, after, is)

pub a_line_by : (last : ℕ) (lines : List ScriptLine) (line : ScriptLine) → slice_get lines 0 ≡ Some line
    → line.at ≤ last → IsNoLineBefore (last + 1) lines → ⊥
a_line_by last [] line first come after = cc
a_line_by last (one ∷ later) line first come after =
    let is : one.at ≡ line.at = cc in
    omega (arith, come, after, is)

-- ---- tests

-- what a test says no to
pub not_so : {P : Type 0} (r : Bool) → r ≡ false → (P → r ≡ true) → P → ⊥
not_so r never so p =
    let wrong : false ≡ true = sym never ∙ so p in
    cc
