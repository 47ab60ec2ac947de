-- As many instances of a process are counted as its text says there are at the start.
use Rattle.std.proofs.Common.{◌≡◌, ◌∙◌, ◌||◌, ◌++◌, ℤ, pos, Bool, true, false, Option, None, Some, ap, if◌then◌else◌, int_lt, refl, subst, sym}
use Rattle.port_model.specs.declared.values.value.Value.{Value}
use Rattle.laws_broken.specs.Instances.{InitialCounted, IsBounded, StartsWith, bounded, unbounded, unwritten, written}
use Rattle.build_constants.proofs.BrokenLaws.{listed-counts}
use Rattle.build_constants.specs.Broken.{BreaksCounts, IsBrokenInCounts, IsInitial, left_out, stated}
use Rattle.build_constants.specs.Counts.{accepted, allows_none, are_misfit, counts_faults, counts_in, exceeds, maximum_in, number_part, part_faults, part_in, with_maximum}
use Rattle.build_constants.specs.Limit.{taken_by}
use Rattle.build_constants.specs.Scopes.{scope_in}
use Rattle.build_names.proofs.FaultLemmas.{each-in, in-if, in-right}
use Rattle.build_names.specs.Faults.{Diagnostic, fault_if, diagnostic_at, mark_word}
use Rattle.build_names.specs.declared.faults.fault.Rule.TheVariants.{BadCount}
use Rattle.build_expressions.specs.Scope.{Scope}
use Rattle.build_expressions.specs.declared.scope.Constant.TheVariants as constants
use Rattle.sdl_system.specs.Operation.{number_of}
use Rattle.sdl_tree.specs.Tree.{Counts}
use Rattle.sdl_tree.specs.declared.mark.Mark.TheVariants as mark

both : {A B : Type 0} (f : A → A → B) (x y z w : A) → x ≡ z → y ≡ w → f x y ≡ f z w
both f x y z w one other = ap (λ a. f a y) one ∙ ap (λ a. f z a) other

first-false : (one other : Bool) → (one || other) ≡ false → one ≡ false
first-false true other is = cc
first-false false other is = refl

all-taken : (number : ℤ) (test : Bool) → test ≡ false → (if test then pos 0 else number) ≡ number
all-taken number true is = cc
all-taken number false is = refl

module _ (scope : Scope) where
  -- ---- with numbers before the comma and behind it, or without

  two-numbers : (value maximum : Value) →
      are_misfit (number_part (constants.Value value)) (number_part (constants.Value maximum)) ≡ false →
      taken_by (accepted (number_part (constants.Value value)) (number_part (constants.Value maximum)))
      ≡ number_of value
  two-numbers value maximum fit =
      ap (λ (test : Bool). taken_by
      (if test then None else with_maximum (number_of value) (number_part (constants.Value maximum)))) fit
      ∙ all-taken (number_of value) (int_lt (number_of value) (pos 0))
      (first-false (int_lt (number_of value) (pos 0)) (allows_none (number_part (constants.Value maximum))
      || exceeds (number_part (constants.Value value)) (number_part (constants.Value maximum))) fit)

  one-number : (value : Value) →
      are_misfit (number_part (constants.Value value)) (part_in scope None) ≡ false →
      taken_by (accepted (number_part (constants.Value value)) (part_in scope None)) ≡ number_of value
  one-number value fit =
      ap (λ (test : Bool). taken_by (if test then None else with_maximum (number_of value) (part_in scope None))) fit
      ∙ all-taken (number_of value) (int_lt (number_of value) (pos 0))
      (first-false (int_lt (number_of value) (pos 0)) (allows_none (part_in scope None)
      || exceeds (number_part (constants.Value value)) (part_in scope None)) fit)

  a-maximum : (maximum : Value) →
      are_misfit (part_in scope None) (number_part (constants.Value maximum)) ≡ false →
      taken_by (accepted (part_in scope None) (number_part (constants.Value maximum))) ≡ pos 1
  a-maximum maximum fit =
      ap (λ (test : Bool). taken_by
      (if test then None else with_maximum (pos 1) (number_part (constants.Value maximum)))) fit

  no-number : taken_by (accepted (part_in scope None) (part_in scope None)) ≡ pos 1
  no-number = refl

  -- ---- as they are written

  by-initial : (counts : Counts) (number : ℤ) → IsInitial scope counts number → IsBounded scope counts →
      are_misfit (part_in scope counts.initial) (part_in scope (maximum_in counts.bound)) ≡ false →
      taken_by (accepted (part_in scope counts.initial) (part_in scope (maximum_in counts.bound))) ≡ number
  by-initial counts number (stated part initial is to) (unbounded none) fit =
      let before : part_in scope counts.initial ≡ number_part (constants.Value to.value) =
      ap (part_in scope) is ∙ ap number_part to.constant in
      let behind : part_in scope (maximum_in counts.bound) ≡ part_in scope None = ap (part_in scope) none in
      both (λ p q. taken_by (accepted p q)) (part_in scope counts.initial) (part_in scope (maximum_in counts.bound))
      (number_part (constants.Value to.value)) (part_in scope None) before behind
      ∙ one-number to.value
      (sym (both are_misfit (part_in scope counts.initial) (part_in scope (maximum_in counts.bound))
      (number_part (constants.Value to.value)) (part_in scope None) before behind)
      ∙ fit)
      ∙ to.number_is
  by-initial counts number (stated part initial is to) (bounded maximum at) fit =
      let before : part_in scope counts.initial ≡ number_part (constants.Value to.value) =
      ap (part_in scope) is ∙ ap number_part to.constant in
      let behind : part_in scope (maximum_in counts.bound) ≡ number_part (constants.Value at.comes_to.value) =
      ap (part_in scope) at.part_is ∙ ap number_part at.comes_to.constant in
      both (λ p q. taken_by (accepted p q)) (part_in scope counts.initial) (part_in scope (maximum_in counts.bound))
      (number_part (constants.Value to.value)) (number_part (constants.Value at.comes_to.value)) before behind
      ∙ two-numbers to.value at.comes_to.value
      (sym (both are_misfit (part_in scope counts.initial) (part_in scope (maximum_in counts.bound))
      (number_part (constants.Value to.value)) (number_part (constants.Value at.comes_to.value)) before behind)
      ∙ fit)
      ∙ to.number_is
  by-initial counts number (left_out is) (unbounded none) fit =
      both (λ p q. taken_by (accepted p q)) (part_in scope counts.initial) (part_in scope (maximum_in counts.bound))
      (part_in scope None) (part_in scope None) (ap (part_in scope) is) (ap (part_in scope) none)
      ∙ no-number
  by-initial counts number (left_out is) (bounded maximum at) fit =
      let before : part_in scope counts.initial ≡ part_in scope None = ap (part_in scope) is in
      let behind : part_in scope (maximum_in counts.bound) ≡ number_part (constants.Value at.comes_to.value) =
      ap (part_in scope) at.part_is ∙ ap number_part at.comes_to.constant in
      both (λ p q. taken_by (accepted p q)) (part_in scope counts.initial) (part_in scope (maximum_in counts.bound))
      (part_in scope None) (number_part (constants.Value at.comes_to.value)) before behind
      ∙ a-maximum at.comes_to.value
      (sym (both are_misfit (part_in scope counts.initial) (part_in scope (maximum_in counts.bound))
      (part_in scope None) (number_part (constants.Value at.comes_to.value)) before behind)
      ∙ fit)

  -- ---- where no rule is broken

  broken-counts : (counts : Counts) (fault : Diagnostic) → IsBrokenInCounts scope (Some counts) fault →
      BreaksCounts scope counts fault
  broken-counts counts fault breaks =
      let same : counts ≡ breaks.written = cc in
      subst (λ (c : Counts). BreaksCounts scope c fault) (sym same) breaks.broken

  are-fit : (counts : Counts) → ((fault : Diagnostic) → BreaksCounts scope counts fault → ⊥) → (test : Bool) →
      are_misfit (part_in scope counts.initial) (part_in scope (maximum_in counts.bound)) ≡ test → test ≡ false
  are-fit counts unbroken true misfit =
      let told : Diagnostic = diagnostic_at BadCount (mark_word mark.Open counts.parenthesis) in
      let test : Bool = are_misfit (part_in scope counts.initial) (part_in scope (maximum_in counts.bound)) in
      absurd (unbroken told (broken-counts counts told
      (each-in (IsBrokenInCounts scope (Some counts)) (counts_faults scope (Some counts)) told
      (listed-counts scope (Some counts))
      (in-right told (part_faults scope counts.initial) (part_faults scope (maximum_in counts.bound)
      ++ fault_if test BadCount (mark_word mark.Open counts.parenthesis))
      (in-right told (part_faults scope (maximum_in counts.bound))
      (fault_if test BadCount (mark_word mark.Open counts.parenthesis))
      (in-if test BadCount (mark_word mark.Open counts.parenthesis) misfit))))))
  are-fit counts unbroken false misfit = refl

  starts-with : (counts : Option Counts) (number : ℤ) → StartsWith scope counts number →
      taken_by (counts_in scope counts) ≡ number
  starts-with counts number unwritten = refl
  starts-with counts number (written said initial initial_is bound unbroken) =
      by-initial said initial initial_is bound
      (are-fit said unbroken (are_misfit (part_in scope said.initial) (part_in scope (maximum_in said.bound))) refl)

pub initial-counted : InitialCounted
initial-counted rows symbols constants process number starts =
    starts-with (scope_in rows symbols constants process.scope) process.definition.counts number starts
