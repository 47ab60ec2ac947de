-- One process of a specification.
use Rattle.std.proofs.Common.{◌≡◌, ◌≤◌, List, [], ◌∷◌, Option, None, Some, All, IfNone, IfOk, IfSome, IsErrAnd, OnOk, Result, Ok, Err, ap, arith, length, map, refl, suc, subst}
use Rattle.build_definitions.specs.Rows.{ProcessRow}
use Rattle.build_process.specs.Faulty.{NotesBody}
use Rattle.build_process.specs.Made.{IsHeaded}
use Rattle.build_process.specs.Meant.{IsBehaviour}
use Rattle.build_process.specs.Refused.{IsRefused}
use Rattle.build_process.specs.ProcessScope.{ProcessScope}
use Rattle.build_process.specs.declared.heading.Heading.{Heading}
use Rattle.build_names.specs.Faults.{Diagnostic}
use Rattle.sdl_build.specs.Headings.{IsHeading}
use Rattle.sdl_build.specs.Processes.{IsMadeFrom}
use Rattle.sdl_build.specs.ProcessScope.{process_scope}
use Rattle.sdl_build.specs.Context.{Context}
use Rattle.sdl_system.specs.Behaviour.{Behaviour, Means}
use Rattle.sdl_system.specs.Soundness.{Keeps}
use Rattle.sdl_system.specs.declared.id.ProcessId.{ProcessId}
use Rattle.sdl_system.specs.declared.process.Process.{Process}

-- ---- nothing is made

pub not-made : {T E : Type 0} (result : Result T E) (P : T → Type 0) (Q : E → Type 0) → IsErrAnd result Q →
    IfOk result P
not-made (Ok made) P Q is = absurd is
not-made (Err why) P Q is = tt

pub not-noted : {T E : Type 0} (result : Result T E) (P : Type 0) (Q : E → Type 0) → IsErrAnd result Q → OnOk result P
not-noted (Ok made) P Q is = absurd is
not-noted (Err why) P Q is = tt

pub length-map : {A B : Type 0} (f : A → B) (xs : List A) → length (map f xs) ≡ length xs
length-map f [] = refl
length-map f (x ∷ xs) = ap suc (length-map f xs)

-- ---- one of them

pub made-from : (context : Context) (number : ProcessId) (row : ProcessRow) (around : ProcessScope) (heading : Heading)
    (result : Option Process) → around ≡ process_scope context number row.definition →
    IsHeading context number row heading → IfNone result (IsRefused around row.definition) →
    IfSome result (IsHeaded heading) →
    IfSome result (λ process. (behaviour : Behaviour) → IsBehaviour around row.definition heading behaviour
    → Means process behaviour) →
    IfSome result (λ process. length heading.valid ≤ around.signals
    → All (Keeps around.signals process) process.tables.items) → IsMadeFrom context number row result
made-from context number row around heading None same said refused headed means keeps =
    subst (λ a. IsRefused a row.definition) same refused
made-from context number row around heading (Some process) same said refused headed means keeps = record {
  heading = heading;
  said = said;
  headed = headed;
  means = subst (λ a. (behaviour : Behaviour) → IsBehaviour a row.definition heading behaviour
      → Means process behaviour) same means;
  keeps = subst (λ (a : ProcessScope). length heading.valid ≤ a.signals
      → All (Keeps a.signals process) process.tables.items) same keeps (omega (arith, said.valid.size));
}

pub made-if : {E : Type 0} (context : Context) (number : ProcessId) (row : ProcessRow) (around : ProcessScope)
    (heading : Heading) (result : Result (Option Process) E) → around ≡ process_scope context number row.definition →
    IsHeading context number row heading →
    IfOk result (λ made. IfNone made (IsRefused around row.definition)) →
    IfOk result (λ made. IfSome made (IsHeaded heading)) →
    IfOk result (λ made. IfSome made (λ process. (behaviour : Behaviour)
    → IsBehaviour around row.definition heading behaviour → Means process behaviour)) →
    IfOk result (λ made. IfSome made (λ process. length heading.valid ≤ around.signals
    → All (Keeps around.signals process) process.tables.items)) → IfOk result (IsMadeFrom context number row)
made-if context number row around heading (Ok made) same said refused headed means keeps =
    made-from context number row around heading made same said refused headed means keeps
made-if context number row around heading (Err why) same said refused headed means keeps = tt

pub noted-in : {A E : Type 0} (context : Context) (number : ProcessId) (row : ProcessRow) (around : ProcessScope)
    (old new : Option Diagnostic) (result : Result A E) → around ≡ process_scope context number row.definition →
    OnOk result (NotesBody around row.definition old new) →
    OnOk result (NotesBody (process_scope context number row.definition) row.definition old new)
noted-in context number row around old new result same noted =
    subst (λ a. OnOk result (NotesBody a row.definition old new)) same noted
