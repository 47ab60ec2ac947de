-- Labels with their numbers (Z.101: a label belongs to its process).
use Rattle.std.specs.Prelude.{◌≡◌, ◌+◌, ◌++◌, ℕ, List, [], ◌∷◌, Some, is_some, slice_get}
use Rattle.build_names.specs.Labels.{process_labels}
use Rattle.build_statements.specs.Contexts.{Context}
use Rattle.build_names.specs.Faults.{Diagnostic, fault_if}
use Rattle.build_names.specs.Names.{first_of}
use Rattle.build_names.specs.declared.faults.fault.Rule.TheVariants.{Duplicate}
use Rattle.sdl_system.specs.declared.id.LabelId.{LabelId}
use Rattle.sdl_tree.specs.Tree.{ProcessDefinition}
use Rattle.sdl_tree.specs.Words.{Spot}

-- labels by their names, numbered from this number on
abbrev pub numbered : ℕ → List Spot → List (List ℕ × LabelId)
numbered number [] = []
numbered number (label ∷ labels) = (label.text, record { 0 = number }) ∷ numbered (number + 1) labels

-- no name is that of two labels
abbrev pub AreDifferent : List Spot → Type 0
AreDifferent labels =
    (n m : ℕ) (one other : Spot) → slice_get labels n ≡ Some one → slice_get labels m ≡ Some other
    → one.text ≡ other.text → n ≡ m

-- The labels of the process are numbered in the order of the text, and no two of them have one name.
pub record AreNumbered (context : Context) (process : ProcessDefinition) : Type 0 where
  pub numbers : context.labels ≡ numbered 0 (process_labels process)
  pub different : AreDifferent (process_labels process)

-- ---- where labels are declared one after the other

-- Duplicate at each label whose name stands among these or before it
abbrev pub declared_faults : List (List ℕ × LabelId) → ℕ → List Spot → List Diagnostic
declared_faults names number [] = []
declared_faults names number (label ∷ labels) =
    fault_if (is_some (first_of names label.text)) Duplicate label
    ++ declared_faults (names ++ (label.text, record { 0 = number }) ∷ []) (number + 1) labels

-- Where none is noted, no two labels have one name.
abbrev pub DeclaredDiffer : Type 0
DeclaredDiffer = (labels : List Spot) → declared_faults [] 0 labels ≡ [] → AreDifferent labels
