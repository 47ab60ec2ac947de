-- What is read and noted of the parts of the counts, put together.
use Rattle.std.proofs.Common.{◌≡◌, ◌∙◌, ◌++◌, List, Option, ap}
use Rattle.build_constants.specs.Counts.{accepted, are_misfit, part_faults, part_in}
use Rattle.build_constants.specs.declared.counts.InstanceCounts.{InstanceCounts}
use Rattle.build_constants.specs.declared.counts.Part.{Part}
use Rattle.build_names.proofs.FaultLemmas.{both_noted}
use Rattle.build_names.specs.Faults.{Diagnostic, fault_if, least_of}
use Rattle.build_names.specs.declared.faults.fault.Rule.TheVariants.{BadCount}
use Rattle.build_expressions.specs.Scope.{Scope}
use Rattle.sdl_tree.specs.Tree.{Expr}
use Rattle.sdl_tree.specs.Words.{Spot}

three_noted : (old one two three : Option Diagnostic) (xs ys zs : List Diagnostic) → one ≡ least_of old xs →
    two ≡ least_of one ys →
    three ≡ least_of two zs → three ≡ least_of old (xs ++ (ys ++ zs))
three_noted old one two three xs ys zs first second third =
    third ∙ ap (λ before. least_of before zs) second
    ∙ both_noted one ys zs
    ∙ ap (λ before. least_of before (ys ++ zs)) first
    ∙ both_noted old xs (ys ++ zs)

module _ (scope : Scope) (initial maximum : Option Expr) (first second : Part) (i m : Option Expr) (i_is : i ≡ initial)
    (m_is : m ≡ maximum) (first_is : first ≡ part_in scope i) (second_is : second ≡ part_in scope m) where
  initial_part : first ≡ part_in scope initial
  initial_part = first_is ∙ ap (part_in scope) i_is

  maximum_part : second ≡ part_in scope maximum
  maximum_part = second_is ∙ ap (part_in scope) m_is

  pub counts_accepted : (found : Option InstanceCounts) → found ≡ accepted first second →
      found ≡ accepted (part_in scope initial) (part_in scope maximum)
  counts_accepted found is =
      is ∙ ap (λ p. accepted p second) initial_part ∙ ap (λ p. accepted (part_in scope initial) p) maximum_part

  pub counts_noted : (word : Spot) (old one two three : Option Diagnostic) → one ≡ least_of old (part_faults scope i) →
      two ≡ least_of one (part_faults scope m) → three
      ≡ least_of two (fault_if (are_misfit first second) BadCount word) →
      three ≡ least_of old (part_faults scope initial ++ (part_faults scope maximum
      ++ fault_if (are_misfit (part_in scope initial) (part_in scope maximum)) BadCount word))
  counts_noted word old one two three of_initial of_maximum of_both =
      three_noted old one two three (part_faults scope initial) (part_faults scope maximum)
      (fault_if (are_misfit (part_in scope initial) (part_in scope maximum)) BadCount word)
      (of_initial ∙ ap (λ e. least_of old (part_faults scope e)) i_is)
      (of_maximum ∙ ap (λ e. least_of one (part_faults scope e)) m_is)
      (of_both
      ∙ ap (λ p. least_of two (fault_if (are_misfit p second) BadCount word)) initial_part
      ∙ ap (λ p. least_of two (fault_if (are_misfit (part_in scope initial) p) BadCount word)) maximum_part)
