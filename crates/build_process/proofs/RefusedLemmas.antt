-- Why there is no process.
use Rattle.std.proofs.Common.{◌≡◌, ℕ, suc, true, false, All, Contains, IfNone, List, [], ◌∷◌, Option, None, Some, ap, arith, is_some, length, option_map, slice_get, subst}
use Rattle.build_process.specs.Sound.{AreTransitionsOf}
use Rattle.build_process.specs.declared.transitions.Transitions.{Transitions}
use Rattle.build_flow.specs.Beginnings.{beginnings}
use Rattle.build_states.specs.Shared.{IsOfName}
use Rattle.build_states.specs.Listed.{conditions_listed}
use Rattle.build_states.specs.Reading.{process_read}
use Rattle.sdl_system.specs.Term.{term_of}
use Rattle.sdl_system.specs.declared.expression.Expression.{Expression}
use Rattle.sdl_system.specs.declared.id.NodeId.{NodeId}
use Rattle.sdl_system.specs.declared.process.Process.{Process}
use Rattle.build_tables.specs.Linked.{Lacks}
use Rattle.build_tables.proofs.ListLemmas.{contains-at}
use Rattle.sdl_tree.specs.Tree.{ProcessDefinition}
use Rattle.build_process.specs.Made.{IsMissing, MadeOf, Said, no_condition, no_entry, no_start}
use Rattle.build_process.specs.Refused as refused
use Rattle.build_process.specs.Refused.{IsRefused}
use Rattle.build_process.specs.ProcessScope.{ProcessScope, for_stimuli, for_transitions}
use Rattle.build_process.specs.declared.heading.Heading.{Heading}

no-term : (conditions : List (Option Expression)) → Contains conditions None →
    Contains (conditions_listed conditions) None
no-term conditions (k, less, is) =
    subst (Contains (conditions_listed conditions)) (ap (option_map term_of) is)
    (contains-at (option_map term_of) conditions k None less)

has-first : (n : ℕ) (entries : List NodeId) → length entries ≡ suc n → slice_get entries 0 ≡ None → ⊥
has-first n [] long none = omega (arith, long)
has-first n (entry ∷ entries) long none = let never : true ≡ false = ap is_some none in cc

each-listed : {A : Type 0} (P : A → Type 0) (xs : List A) (x : A) → All P xs → Contains xs x → P x
each-listed P xs x all (k, less, is) = subst P is (all k x less)

module _ (around : ProcessScope) (process : ProcessDefinition) where
  pub no-flow : (found : Option Transitions) → found ≡ None →
      AreTransitionsOf (for_transitions around) process found → IsRefused around process
  no-flow found none flow =
      refused.no_flow (subst (AreTransitionsOf (for_transitions around) process) none flow)

  module _ (said : Said) (transitions : Transitions)
      (each : length transitions.entries.items ≡ length (beginnings process))
      (conditions : conditions_listed said.conditions
      ≡ (process_read (for_stimuli around) process).numbering.conditions)
      (tables : All (IsOfName (process_read (for_stimuli around) process).parts) said.tables) where
    missing-refused : IsMissing said transitions.entries.items → IsRefused around process
    missing-refused (no_condition listed) =
        refused.no_condition (subst (λ list. Contains list None) conditions (no-term said.conditions listed))
    missing-refused (no_start none) = absurd (has-first _ transitions.entries.items each none)
    missing-refused (no_entry some) =
        let of = each-listed (IsOfName (process_read (for_stimuli around) process).parts) said.tables some.one tables
        some.listed in
        refused.no_entry of.name transitions.entries.items each
        (subst (Lacks transitions.entries.items) of.is some.lacks)

    -- where none is made, the text is refused
    pub made-unless : (heading : Heading) (made : Option Process) →
        MadeOf around.signals said transitions heading made → IfNone made (IsRefused around process)
    made-unless heading None missing = missing-refused missing
    made-unless heading (Some one) made = tt
