-- The processes of a built system do what their texts say.
use Rattle.std.proofs.Common.{◌≡◌, ◌∙◌, ℕ, zero, suc, Bool, true, false, List, [], ◌∷◌, Some, ap, length, map, refl, slice_get, subst, sym, true≢false, unwrap_or}
use Rattle.std.proofs.lemmas.Option.{none-some}
use Rattle.std.specs.List.{AllZip}
use Rattle.sdl_build.specs.Built.{IsBuilt}
use Rattle.sdl_build.specs.Laws.{CanRun}
use Rattle.sdl_build.specs.ProcessScope.{process_scope}
use Rattle.sdl_build.specs.Context.{Context}
use Rattle.sdl_build.proofs.LawLemmas.{processes-can-run}
use Rattle.build_definitions.specs.Rows.{ProcessRow}
use Rattle.build_process.specs.Made.{IsHeaded}
use Rattle.build_process.specs.Meant.{IsBehaviour}
use Rattle.build_process.specs.ProcessScope.{ProcessScope}
use Rattle.build_process.specs.declared.heading.Heading.{Heading}
use Rattle.run_semantics.specs.Behaves.{AreBehaviours, Behaves}
use Rattle.sdl_system.specs.Behaviour.{Behaviour, variable_meaning}
use Rattle.sdl_system.specs.Signal.{is_member}
use Rattle.sdl_system.specs.System.{SystemValue}
use Rattle.sdl_system.specs.declared.id.ProcessId.{ProcessId}
use Rattle.sdl_system.specs.declared.process.Process.{Process}
use Rattle.sdl_tree.specs.Tree.{ProcessDefinition, Tree}
use Rattle.sdl_engine.specs.Behaviours.{AreOfText, IsOfText}

-- ---- lists

some-same : {A : Type 0} (x y : A) → Some x ≡ Some y → x ≡ y
some-same x y same = ap (λ o. unwrap_or o x) same

abbrev is-zero : ℕ → Bool
is-zero zero = true
is-zero (suc n) = false

abbrev before : ℕ → ℕ
before zero = zero
before (suc n) = n

-- what holds at each place holds of the lists
by-place : {A B : Type 0} (P : A → B → Type 0) (xs : List A) (ys : List B) → length ys ≡ length xs →
    ((n : ℕ) (x : A) (y : B) → slice_get xs n ≡ Some x → slice_get ys n ≡ Some y → P x y) → AllZip P xs ys
by-place P [] [] same each = tt
by-place P [] (y ∷ ys) same each = absurd (true≢false (sym (ap is-zero same)))
by-place P (x ∷ xs) [] same each = absurd (true≢false (ap is-zero same))
by-place P (x ∷ xs) (y ∷ ys) same each =
    (each 0 x y refl refl, by-place P xs ys (ap before same) (λ n. each (suc n)))

-- what holds at the first place, and at those behind it, holds at each
at-each : {A B : Type 0} (P : ℕ → A → B → Type 0) (x : A) (xs : List A) (y : B) → P 0 x y → (ys : List B) →
    ((n : ℕ) (here : A) (there : B) → slice_get xs n ≡ Some here → slice_get ys n ≡ Some there → P (suc n) here there) →
    (n : ℕ) (here : A) (there : B) → slice_get (x ∷ xs) n ≡ Some here → slice_get (y ∷ ys) n ≡ Some there →
    P n here there
at-each P x xs y holds ys rest zero here there at at' =
    subst (λ here. P 0 here there) (some-same x here at) (subst (λ there. P 0 x there) (some-same y there at') holds)
at-each P x xs y holds ys rest (suc n) here there at at' = rest n here there at at'

-- one of each place, where there is one
one-of-each : {A B : Type 0} (P : ℕ → A → B → Type 0) (xs : List A) →
    ((n : ℕ) (x : A) → slice_get xs n ≡ Some x → (y : B) × P n x y) →
    (ys : List B) × ((length ys ≡ length xs)
    × ((n : ℕ) (x : A) (y : B) → slice_get xs n ≡ Some x → slice_get ys n ≡ Some y → P n x y))
one-of-each P [] each = ([], (refl, λ n x y at. absurd (none-some x at)))
one-of-each P (x ∷ xs) each =
    let first = each 0 x refl in
    let rest = one-of-each (λ n. P (suc n)) xs (λ n. each (suc n)) in
    (first.0 ∷ rest.0, (ap suc rest.1.0, at-each P x xs first.0 first.1 rest.0 rest.1.1))

-- ---- behaviours

-- two headings of one process give it the same behaviours
same-behaviour : (around : ProcessScope) (definition : ProcessDefinition) (one other : Heading) (process : Process) →
    IsHeaded one process → IsHeaded other process → (p : Behaviour) → IsBehaviour around definition one p →
    IsBehaviour around definition other p
same-behaviour around definition one other process a b p is = record {
  variables = ap (λ list. map variable_meaning list.items) (sym b.variables ∙ a.variables) ∙ is.variables;
  parameters = sym b.parameters ∙ a.parameters ∙ is.parameters;
  valid = λ signal. ap (λ valid. is_member valid signal) (sym b.valid ∙ a.valid) ∙ is.valid signal;
  bodies = is.bodies;
  ends = is.ends;
  labels = is.labels;
  start = is.start;
  states = is.states;
  signals = is.signals;
}

-- the process behaves as its text says
behaves : (context : Context) (system : SystemValue) (number : ProcessId) (process : Process) (p : Behaviour) →
    CanRun context system number process → IsOfText context number process p → Behaves system process p
behaves context system number process p can of = record {
  means = can.means p
      (same-behaviour (process_scope context number can.row.definition) can.row.definition of.heading can.heading
      process
      of.headed can.headed p
      (subst (λ (row : ProcessRow). IsBehaviour (process_scope context number row.definition) row.definition of.heading
      p)
      (some-same of.row can.row (sym of.listed ∙ can.listed)) of.is));
  keeps = can.keeps;
}

pub behaviours_of_text : (tree : Tree) (system : SystemValue) (built : IsBuilt tree system) (ps : List Behaviour) →
    AreOfText built.context system ps → AreBehaviours system ps
behaviours_of_text tree system built ps are =
    by-place (Behaves system) system.processes ps are.count
    (λ n process p at at'. behaves built.context system (record { 0 = n }) process p
    (processes-can-run tree system built (record { 0 = n }) process at)
    (are.each (record { 0 = n }) process p at at'))

-- each process has a behaviour
pub some_behaviours : (tree : Tree) (system : SystemValue) (built : IsBuilt tree system) →
    (ps : List Behaviour) × AreOfText built.context system ps
some_behaviours tree system built = (found.0, record { count = found.1.0; each = λ number. found.1.1 number.0 })
  where
    found : (ps : List Behaviour) × ((length ps ≡ length system.processes)
        × ((n : ℕ) (process : Process) (p : Behaviour) → slice_get system.processes n ≡ Some process
        → slice_get ps n ≡ Some p → IsOfText built.context (record { 0 = n }) process p))
    found = one-of-each (λ n process p. IsOfText built.context (record { 0 = n }) process p) system.processes
        (λ n process at.
        let can = processes-can-run tree system built (record { 0 = n }) process at in (
          can.behaviour,
          record {
            row = can.row;
            listed = can.listed;
            heading = can.heading;
            said = can.said;
            headed = can.headed;
            is = can.is;
          },
        ))
