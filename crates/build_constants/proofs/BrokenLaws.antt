-- The faults of a process's constants are the rules that they break.
use Rattle.std.proofs.Common.{◌≡◌, ◌∙◌, ◌⊎◌, inl, inr, ◌++◌, ◌||◌, ℤ, pos, Bool, true, false, Option, None, Some, ap, int_lt, refl, subst, sym}
use Rattle.build_constants.specs.Broken.{BreaksCounts, BrokenListedInCounts, BrokenListedInDurations, BrokenListedInValues, ComesTo, IsBrokenInCounts, IsBrokenInDurations, IsBrokenInValues, IsInitial, IsMaximum, ListedBrokenInCounts, ListedBrokenInDurations, ListedBrokenInValues, above_maximum, below_none, in_initial, in_maximum, left_out, none_ever, stated}
use Rattle.build_constants.specs.Counts.{allows_none, are_misfit, counts_faults, exceeds, is_negative, maximum_in, number_part, part_faults, part_in}
use Rattle.build_constants.specs.Timers.{duration_faults, timer_faults}
use Rattle.build_constants.specs.Variables.{group_faults, initial_faults}
use Rattle.build_constants.specs.declared.counts.Part.{Part}
use Rattle.build_constants.specs.declared.counts.Part.TheVariants.{LeftOut, Refused, Number}
use Rattle.build_names.proofs.FaultLemmas.{each-both, each-if, each-of, in-each, in-if, in-left, in-right}
use Rattle.build_names.specs.FaultLaws.{Each, In}
use Rattle.build_names.specs.Faults.{Diagnostic, fault_if, diagnostic_at, mark_word}
use Rattle.build_names.specs.declared.faults.fault.Rule.TheVariants.{BadCount}
use Rattle.build_expressions.proofs.ConstantLaws.{broken-listed-constant, listed-broken-constant}
use Rattle.build_expressions.proofs.ListedLaws.{each-weaker}
use Rattle.build_expressions.specs.Broken.{IsBrokenConstant}
use Rattle.build_expressions.specs.Constants.{constant_faults, constant_in}
use Rattle.build_expressions.specs.Scope.{Scope}
use Rattle.build_expressions.specs.declared.scope.Constant.{Constant}
use Rattle.build_expressions.specs.declared.scope.Constant.TheVariants as constants
use Rattle.sdl_system.specs.Operation.{number_of}
use Rattle.sdl_system.specs.declared.sort.Sort.{Sort}
use Rattle.sdl_system.specs.declared.sort.Sort.TheVariants as sort
use Rattle.sdl_tree.specs.Tree.{Counts, Expr}
use Rattle.sdl_tree.specs.declared.mark.Mark.TheVariants as mark

-- ---- conditions

either-true : (one other : Bool) → (one || other) ≡ true → (one ≡ true) ⊎ (other ≡ true)
either-true true other is = inl refl
either-true false other is = inr is

first-true : (one other : Bool) → one ≡ true → (one || other) ≡ true
first-true true other is = refl
first-true false other is = cc

second-true : (one other : Bool) → other ≡ true → (one || other) ≡ true
second-true true other is = refl
second-true false other is = is

-- ---- numbers of parts

comes-to : (scope : Scope) (part : Expr) (found : Constant) (number : ℤ) →
    constant_in scope (Some sort.Integer) part ≡ found → number_part found ≡ Number number → ComesTo scope part number
comes-to scope part (constants.Value value) number is same =
    let number_is : number_of value ≡ number = cc in
    record { value = value; constant = is; number_is = number_is }
comes-to scope part constants.NoValue number is same = cc
comes-to scope part constants.Refused number is same = cc

part-number : (scope : Scope) (part : Expr) (number : ℤ) → ComesTo scope part number →
    part_in scope (Some part) ≡ Number number
part-number scope part number to = ap number_part to.constant ∙ ap Number to.number_is

module _ (scope : Scope) (counts : Counts) where
  initial-is : (written : Option Expr) (number : ℤ) → counts.initial ≡ written → part_in scope written ≡ Number number →
      IsInitial scope counts number
  initial-is None number is same = cc
  initial-is (Some part) number is same =
      stated part number is (comes-to scope part (constant_in scope (Some sort.Integer) part) number refl same)

  maximum-is : (written : Option Expr) (number : ℤ) → maximum_in counts.bound ≡ written →
      part_in scope written ≡ Number number → IsMaximum scope counts number
  maximum-is None number is same = cc
  maximum-is (Some part) number is same = record {
    part = part;
    part_is = is;
    comes_to = comes-to scope part (constant_in scope (Some sort.Integer) part) number refl same;
  }

  maximum-number : (number : ℤ) → IsMaximum scope counts number →
      part_in scope (maximum_in counts.bound) ≡ Number number
  maximum-number number at = ap (part_in scope) at.part_is ∙ part-number scope at.part number at.comes_to

-- ---- counts

module _ (scope : Scope) (counts : Counts) where
  abbrev Breaks : Diagnostic → Type 0
  Breaks = BreaksCounts scope counts

  abbrev told : Diagnostic
  told = diagnostic_at BadCount (mark_word mark.Open counts.parenthesis)

  abbrev first : Part
  first = part_in scope counts.initial

  abbrev second : Part
  second = part_in scope (maximum_in counts.bound)

  negative-broken : (initial : Part) → first ≡ initial → is_negative initial ≡ true → Breaks told
  negative-broken (Number initial) is less =
      below_none initial (initial-is scope counts counts.initial initial refl is) less
  negative-broken LeftOut is less = cc
  negative-broken Refused is less = cc

  none-broken : (maximum : Part) → second ≡ maximum → allows_none maximum ≡ true → Breaks told
  none-broken (Number maximum) is less =
      none_ever maximum (maximum-is scope counts (maximum_in counts.bound) maximum refl is) less
  none-broken LeftOut is less = cc
  none-broken Refused is less = cc

  more-broken : (initial maximum : Part) → first ≡ initial → second ≡ maximum → exceeds initial maximum ≡ true →
      Breaks told
  more-broken (Number initial) (Number maximum) first_is second_is less =
      above_maximum initial maximum (initial-is scope counts counts.initial initial refl first_is)
      (maximum-is scope counts (maximum_in counts.bound) maximum refl second_is) less
  more-broken (Number initial) LeftOut first_is second_is less = cc
  more-broken (Number initial) Refused first_is second_is less = cc
  more-broken LeftOut maximum first_is second_is less = cc
  more-broken Refused maximum first_is second_is less = cc

  misfit-broken : are_misfit first second ≡ true → Breaks told
  misfit-broken misfit =
      elim (either-true (is_negative first) (allows_none second || exceeds first second) misfit) [
        | inl negative ↦ negative-broken first refl negative
        | inr other ↦ elim (either-true (allows_none second) (exceeds first second) other) [
          | inl none ↦ none-broken second refl none
          | inr more ↦ more-broken first second refl refl more
        ]
      ]

  part-broken : (written : Option Expr) →
      ((part : Expr) (fault : Diagnostic) → written ≡ Some part →
      IsBrokenConstant scope (Some sort.Integer) part fault →
      Breaks fault) →
      Each Breaks (part_faults scope written)
  part-broken None so = tt
  part-broken (Some part) so =
      each-weaker (IsBrokenConstant scope (Some sort.Integer) part) Breaks
      (constant_faults scope (Some sort.Integer) part)
      (λ fault is. so part fault refl is) (listed-broken-constant scope (Some sort.Integer) part)

  each-count : Each Breaks (part_faults scope counts.initial ++ (part_faults scope (maximum_in counts.bound)
      ++ fault_if (are_misfit first second) BadCount (mark_word mark.Open counts.parenthesis)))
  each-count =
      each-both Breaks (part_faults scope counts.initial) (part_faults scope (maximum_in counts.bound)
      ++ fault_if (are_misfit first second) BadCount (mark_word mark.Open counts.parenthesis))
      (part-broken counts.initial (λ part fault is broken. in_initial part fault is broken))
      (each-both Breaks (part_faults scope (maximum_in counts.bound))
      (fault_if (are_misfit first second) BadCount (mark_word mark.Open counts.parenthesis))
      (part-broken (maximum_in counts.bound) (λ part fault is broken. in_maximum part fault is broken))
      (each-if Breaks (are_misfit first second) BadCount (mark_word mark.Open counts.parenthesis) misfit-broken))

  in-misfit : are_misfit first second ≡ true → In told (counts_faults scope (Some counts))
  in-misfit misfit =
      in-right told (part_faults scope counts.initial) (part_faults scope (maximum_in counts.bound)
      ++ fault_if (are_misfit first second) BadCount (mark_word mark.Open counts.parenthesis))
      (in-right told (part_faults scope (maximum_in counts.bound))
      (fault_if (are_misfit first second) BadCount (mark_word mark.Open counts.parenthesis))
      (in-if (are_misfit first second) BadCount (mark_word mark.Open counts.parenthesis) misfit))

  negative-misfit : is_negative first ≡ true → are_misfit first second ≡ true
  negative-misfit is = first-true (is_negative first) (allows_none second || exceeds first second) is

  none-misfit : allows_none second ≡ true → are_misfit first second ≡ true
  none-misfit is =
      second-true (is_negative first) (allows_none second || exceeds first second)
      (first-true (allows_none second) (exceeds first second) is)

  more-misfit : exceeds first second ≡ true → are_misfit first second ≡ true
  more-misfit is =
      second-true (is_negative first) (allows_none second || exceeds first second)
      (second-true (allows_none second) (exceeds first second) is)

  first-number : (part : Expr) (number : ℤ) → counts.initial ≡ Some part → ComesTo scope part number →
      first ≡ Number number
  first-number part number is to = ap (part_in scope) is ∙ part-number scope part number to

  below-misfit : (initial : ℤ) → IsInitial scope counts initial → int_lt initial (pos 0) ≡ true →
      are_misfit first second ≡ true
  below-misfit initial (stated part number is to) less =
      negative-misfit (ap is_negative (first-number part number is to) ∙ less)
  below-misfit initial (left_out is) less = let never : false ≡ true = less in cc

  above-misfit : (initial maximum : ℤ) → IsInitial scope counts initial → second ≡ Number maximum →
      int_lt maximum initial ≡ true → are_misfit first second ≡ true
  above-misfit initial maximum (stated part number is to) most less =
      more-misfit
      (ap (λ p. exceeds p second) (first-number part number is to) ∙ ap (exceeds (Number number)) most ∙ less)
  above-misfit initial maximum (left_out is) most less = none-misfit (ap allows_none most ∙ less)

  listed-count : (fault : Diagnostic) → Breaks fault → In fault (counts_faults scope (Some counts))
  listed-count fault (in_initial part same is broken) =
      in-left fault (part_faults scope counts.initial) (part_faults scope (maximum_in counts.bound)
      ++ fault_if (are_misfit first second) BadCount (mark_word mark.Open counts.parenthesis))
      (subst (λ written. In fault (part_faults scope written)) (sym is)
      (broken-listed-constant scope (Some sort.Integer) part fault broken))
  listed-count fault (in_maximum part same is broken) =
      in-right fault (part_faults scope counts.initial) (part_faults scope (maximum_in counts.bound)
      ++ fault_if (are_misfit first second) BadCount (mark_word mark.Open counts.parenthesis))
      (in-left fault (part_faults scope (maximum_in counts.bound))
      (fault_if (are_misfit first second) BadCount (mark_word mark.Open counts.parenthesis))
      (subst (λ written. In fault (part_faults scope written)) (sym is)
      (broken-listed-constant scope (Some sort.Integer) part fault broken)))
  listed-count fault (below_none initial is less) = in-misfit (below-misfit initial is less)
  listed-count fault (none_ever maximum is less) =
      in-misfit (none-misfit (ap allows_none (maximum-number scope counts maximum is) ∙ less))
  listed-count fault (above_maximum initial maximum is most less) =
      in-misfit (above-misfit initial maximum is (maximum-number scope counts maximum most) less)

pub listed-counts : ListedBrokenInCounts
listed-counts scope None = tt
listed-counts scope (Some counts) =
    each-weaker (BreaksCounts scope counts) (IsBrokenInCounts scope (Some counts)) (counts_faults scope (Some counts))
    (λ fault is. record { written = counts; counts_are = refl; broken = is }) (each-count scope counts)

pub broken-counts : BrokenListedInCounts
broken-counts scope counts fault is =
    subst (λ written. In fault (counts_faults scope written)) (sym is.counts_are)
    (listed-count scope is.written fault is.broken)

-- ---- initial values and default durations

module _ (scope : Scope) (place : Option Sort) where
  value-broken : (P : Diagnostic → Type 0) (written : Option Expr) →
      ((value : Expr) (fault : Diagnostic) → written ≡ Some value → IsBrokenConstant scope place value fault →
      P fault) →
      Each P (initial_faults scope place written)
  value-broken P None so = tt
  value-broken P (Some value) so =
      each-weaker (IsBrokenConstant scope place value) P (constant_faults scope place value)
      (λ fault is. so value fault refl is) (listed-broken-constant scope place value)

duration-broken : (scope : Scope) (P : Diagnostic → Type 0) (written : Option Expr) →
    ((duration : Expr) (fault : Diagnostic) → written ≡ Some duration →
    IsBrokenConstant scope (Some sort.Duration) duration fault → P fault) →
    Each P (duration_faults scope written)
duration-broken scope P None so = tt
duration-broken scope P (Some duration) so =
    each-weaker (IsBrokenConstant scope (Some sort.Duration) duration) P
    (constant_faults scope (Some sort.Duration) duration)
    (λ fault is. so duration fault refl is) (listed-broken-constant scope (Some sort.Duration) duration)

pub listed-values : ListedBrokenInValues
listed-values scope groups =
    each-of (IsBrokenInValues scope groups) (group_faults scope) groups (λ sorted among.
    value-broken scope sorted.sort (IsBrokenInValues scope groups) sorted.group.initial (λ value fault is broken.
    record { sorted = sorted; among = among; value = value; value_is = is; broken = broken }))

pub broken-values : BrokenListedInValues
broken-values scope groups fault is =
    in-each fault (group_faults scope) groups is.sorted is.among
    (subst (λ written. In fault (initial_faults scope is.sorted.sort written)) (sym is.value_is)
    (broken-listed-constant scope is.sorted.sort is.value fault is.broken))

pub listed-durations : ListedBrokenInDurations
listed-durations scope timers =
    each-of (IsBrokenInDurations scope timers) (timer_faults scope) timers (λ definition among.
    duration-broken scope (IsBrokenInDurations scope timers) definition.duration (λ duration fault is broken.
    record {
      definition = definition;
      among = among;
      duration = duration;
      duration_is = is;
      broken = broken;
    }))

pub broken-durations : BrokenListedInDurations
broken-durations scope timers fault is =
    in-each fault (timer_faults scope) timers is.definition is.among
    (subst (λ written. In fault (duration_faults scope written)) (sym is.duration_is)
    (broken-listed-constant scope (Some sort.Duration) is.duration fault is.broken))
