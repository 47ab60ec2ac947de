-- Values on their way to the variables of an input.
use Rattle.std.proofs.Common.{◌≡◌, ◌⊎◌, ◌∙◌, List, [], ◌∷◌, Option, None, Some, Result, Ok, Err, ap, inl, inr, refl, sym}
use Rattle.port_model.specs.declared.values.value.Value.{Value}
use Rattle.run_record.specs.Value.{placed}
use Rattle.run_record.specs.declared.evaluation.store.Store.{Store}
use Rattle.run_record.specs.declared.failure.Failure.{Failure}
use Rattle.run_semantics.specs.Reception.{assigned}
use Rattle.sdl_system.specs.declared.id.VariableId.{VariableId}
use Rattle.sdl_system.specs.declared.process.Process.{Process}
use Rattle.sdl_failures.specs.Received.{received, received_on, sort_in}
use Rattle.sdl_failures.specs.declared.replayed.reception.Misfit.{Misfit}

module _ (process : Process) (variable : VariableId) (variables : List (Option VariableId)) (value : Value)
    (values : List Value) (s : Store) where
  -- a value that fits goes to its variable
  pub received-fits : (taken : Value) → placed (sort_in process variable) value ≡ Ok taken
      → received process (Some variable ∷ variables) (value ∷ values) s
      ≡ received process variables values (assigned variable taken s)
  received-fits taken fits =
      ap (λ (r : Result Value Failure). received_on (received process variables values) variable value r s) fits

  -- one that doesn't is told
  pub received-misfit : (why : Failure) → placed (sort_in process variable) value ≡ Err why
      → received process (Some variable ∷ variables) (value ∷ values) s
      ≡ Err (record { variable = variable; value = value; why = why })
  received-misfit why wrong =
      ap (λ (r : Result Value Failure). received_on (received process variables values) variable value r s) wrong

-- nothing is left to give, or nobody to get it
pub received-none : (process : Process) (variables : List (Option VariableId)) (values : List Value) (s : Store)
    → (variables ≡ []) ⊎ (values ≡ []) → received process variables values s ≡ Ok s
received-none process [] values s end = refl
received-none process (variable ∷ variables) [] s end = refl
received-none process (variable ∷ variables) (value ∷ values) s (inl is) = absurd cc
received-none process (variable ∷ variables) (value ∷ values) s (inr is) = absurd cc

-- ---- a turn of a loop over them, which begins with these lists

module _ (process : Process) (before : Result Store Misfit) (vs variables : List (Option VariableId))
    (ws values : List Value) (variable : VariableId) (value : Value) (s : Store)
    (came : before ≡ received process vs ws s) (first : vs ≡ Some variable ∷ variables)
    (second : ws ≡ value ∷ values) where
  turned : before ≡ received process (Some variable ∷ variables) (value ∷ values) s
  turned =
      came ∙ ap (λ (list : List (Option VariableId)). received process list ws s) first
      ∙ ap (λ (list : List Value). received process (Some variable ∷ variables) list s) second

  pub turn-fits : (taken : Value) (t : Store) → placed (sort_in process variable) value ≡ Ok taken
      → t ≡ assigned variable taken s → before ≡ received process variables values t
  turn-fits taken t fits is =
      turned ∙ received-fits process variable variables value values s taken fits
      ∙ ap (λ (x : Store). received process variables values x) (sym is)

  pub turn-misfit : (why : Failure) → placed (sort_in process variable) value ≡ Err why
      → before ≡ Err (record { variable = variable; value = value; why = why })
  turn-misfit why wrong = turned ∙ received-misfit process variable variables value values s why wrong

-- a value that nobody gets
pub turn-dropped : (process : Process) (before : Result Store Misfit) (vs variables : List (Option VariableId))
    (ws values : List Value) (value : Value) (s : Store) → before ≡ received process vs ws s
    → vs ≡ None ∷ variables → ws ≡ value ∷ values → before ≡ received process variables values s
turn-dropped process before vs variables ws values value s came first second =
    came ∙ ap (λ (list : List (Option VariableId)). received process list ws s) first
    ∙ ap (λ (list : List Value). received process (None ∷ variables) list s) second

-- all of them went
pub turned-all : (process : Process) (before : Result Store Misfit) (vs : List (Option VariableId)) (ws : List Value)
    (s : Store) → before ≡ received process vs ws s → (vs ≡ []) ⊎ (ws ≡ []) → before ≡ Ok s
turned-all process before vs ws s came end = came ∙ received-none process vs ws s end
