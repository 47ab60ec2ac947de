-- What stands around a process, as the code keeps it.
use Rattle.std.proofs.Common.{◌≡◌, ◌∙◌, ℕ, ℤ, Bool, List, Option, ap}
use Rattle.port_model.specs.declared.values.item.SignalId.{SignalId}
use Rattle.sdl_build.specs.ProcessScope.{process_scope_with}
use Rattle.sdl_build.specs.Context.{Context}
use Rattle.build_process.specs.ProcessScope.{ProcessScope}
use Rattle.build_expressions.specs.Scope.{Scope}
use Rattle.sdl_system.specs.declared.id.LabelId.{LabelId}
use Rattle.sdl_system.specs.declared.id.ProcessId.{ProcessId}
use Rattle.sdl_system.specs.declared.id.StateId.{StateId}

abbrev pub around_with : Scope → List (List ℕ × List SignalId) → List (List ℕ × StateId) → List (List ℕ × LabelId) →
    List Bool → List (Option ℤ) → ℕ → ProcessScope
around_with scope lists states labels reaches durations signals = record {
  scope = scope;
  lists = lists;
  states = states;
  labels = labels;
  reaches = reaches;
  durations = durations;
  signals = signals;
}

-- scopes of a process with the same parts
pub same-around : (a b : Scope) (l m : List (List ℕ × List SignalId)) (states : List (List ℕ × StateId))
    (labels : List (List ℕ × LabelId)) (r q : List Bool) (d e : List (Option ℤ)) (n k : ℕ) →
    a ≡ b → l ≡ m → r ≡ q → d ≡ e → n ≡ k →
    around_with a l states labels r d n ≡ around_with b m states labels q e k
same-around a b l m states labels r q d e n k scope lists reaches durations signals =
    ap (λ x. around_with x l states labels r d n) scope
    ∙ ap (λ x. around_with b x states labels r d n) lists
    ∙ ap (λ x. around_with b m states labels x d n) reaches
    ∙ ap (λ x. around_with b m states labels q x n) durations
    ∙ ap (around_with b m states labels q e) signals

pub same-with : (context : Context) (number : ProcessId) (a b : List (List ℕ × StateId)) (l m : List (List ℕ × LabelId))
    (r q : List Bool) → a ≡ b → l ≡ m → r ≡ q →
    process_scope_with context number a l r ≡ process_scope_with context number b m q
same-with context number a b l m r q states labels reaches =
    ap (λ x. process_scope_with context number x l r) states
    ∙ ap (λ x. process_scope_with context number b x r) labels
    ∙ ap (process_scope_with context number b m) reaches
