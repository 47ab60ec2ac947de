-- What is noted of a constant expression is broken in it, and the other way round.
use Rattle.std.proofs.Common.{◌≡◌, ℤ, pos, negsuc, Bool, true, false, [], Option, None, Some, is_none, option_and_then, if◌then◌else◌, refl, sym, ap, subst}
use Rattle.port_model.specs.declared.values.value.Value.{Value}
use Rattle.build_names.proofs.FaultLemmas.{each-both, each-if, in-if, in-left, in-right}
use Rattle.build_names.specs.FaultLaws.{Each, In}
use Rattle.build_names.specs.Faults.{Diagnostic, fault_if, diagnostic_at}
use Rattle.build_names.specs.declared.faults.fault.Rule.TheVariants.{BadCount}
use Rattle.build_expressions.specs.Broken.{IsBrokenAt, IsBrokenConstant, LacksValue, TakesKind}
use Rattle.build_expressions.specs.Broken as broken
use Rattle.build_expressions.specs.Constants.{constant_faults, counted_faults, is_miscounted, value_of}
use Rattle.build_expressions.specs.OperandSorts.{fits}
use Rattle.build_expressions.specs.Misused.{place_faults}
use Rattle.build_expressions.specs.Scope.{Scope}
use Rattle.build_expressions.specs.Typing.{Typed, is_taken, taken_in, typed_in}
use Rattle.build_expressions.specs.Words.{first_word}
use Rattle.build_expressions.specs.declared.context.Context.TheVariants.{Constant}
use Rattle.build_expressions.specs.declared.operand_sort.OperandSort.{OperandSort}
use Rattle.build_expressions.proofs.BrokenLaws.{broken-listed-at}
use Rattle.build_expressions.proofs.ListedLaws.{each-weaker, listed-broken-at}
use Rattle.sdl_system.specs.Operation.{number_of}
use Rattle.sdl_system.specs.Sort.{as_natural}
use Rattle.sdl_system.specs.declared.sort.Sort as sorts
use Rattle.sdl_system.specs.declared.sort.Sort.TheVariants as the_sort
use Rattle.sdl_tree.specs.Tree.{Expr}
use Rattle.sdl_tree.specs.Words.{Spot}

lacks-natural : (value : Value) (number : ℤ) → number_of value ≡ number → is_none (as_natural number) ≡ true →
    LacksValue (Some the_sort.Natural) (Some value)
lacks-natural value (pos n) is none = cc
lacks-natural value (negsuc n) is none = broken.negative value n is

lacks : (place : Option sorts.Sort) (value : Option Value) → is_miscounted place value ≡ true → LacksValue place value
lacks place None is = broken.no_value place
lacks None (Some value) is = cc
lacks (Some the_sort.Boolean) (Some value) is = cc
lacks (Some the_sort.Integer) (Some value) is = cc
lacks (Some the_sort.Natural) (Some value) is = lacks-natural value (number_of value) refl is
lacks (Some the_sort.Pid) (Some value) is = cc
lacks (Some the_sort.Time) (Some value) is = cc
lacks (Some the_sort.Duration) (Some value) is = cc

miscounted : (place : Option sorts.Sort) (value : Option Value) → LacksValue place value →
    is_miscounted place value ≡ true
miscounted place value (broken.no_value at) = refl
miscounted place value (broken.negative found less_one is) = ap (λ number. is_none (as_natural number)) is

takes : (place : Option sorts.Sort) (typed : Typed) → is_taken place (Some typed) ≡ true → TakesKind place typed.kind
takes None typed is = broken.any typed.kind
takes (Some sort) typed is = broken.fitting sort typed.kind is

taken : (place : Option sorts.Sort) (kind : OperandSort) (typed : Typed) → TakesKind place kind → kind ≡ typed.kind →
    is_taken place (Some typed) ≡ true
taken place kind typed (broken.any k) same = refl
taken place kind typed (broken.fitting sort k is) same = subst (λ x. fits x sort ≡ true) same is

module _ (scope : Scope) (place : Option sorts.Sort) (whole : Expr) where
  each-value : (typed : Typed) → typed_in Constant scope whole ≡ Some typed → is_taken place (Some typed) ≡ true →
      (refused : Bool) → typed.is_refused ≡ refused →
      Each (IsBrokenConstant scope place whole) (if refused
      then []
      else fault_if (is_miscounted place (option_and_then value_of typed.term)) BadCount (first_word whole))
  each-value typed typed_is is true refused_is = tt
  each-value typed typed_is is false refused_is =
      each-if (IsBrokenConstant scope place whole) (is_miscounted place (option_and_then value_of typed.term)) BadCount
      (first_word whole) (λ lacking. broken.count (record {
        typed = typed;
        typed_is = typed_is;
        taken = takes place typed is;
        accepted = refused_is;
        lacks = lacks place (option_and_then value_of typed.term) lacking;
      }))

  each-taken : (typed : Typed) → typed_in Constant scope whole ≡ Some typed → (fit : Bool) →
      is_taken place (Some typed) ≡ fit →
      Each (IsBrokenConstant scope place whole)
      (counted_faults place (first_word whole) (if fit then Some typed else None))
  each-taken typed typed_is true is = each-value typed typed_is is typed.is_refused refl
  each-taken typed typed_is false is = tt

  each-counted : (typed : Option Typed) → typed_in Constant scope whole ≡ typed →
      Each (IsBrokenConstant scope place whole) (counted_faults place (first_word whole) (taken_in place typed))
  each-counted None is = tt
  each-counted (Some typed) is = each-taken typed is (is_taken place (Some typed)) refl

pub listed-broken-constant : (scope : Scope) (place : Option sorts.Sort) (whole : Expr) →
    Each (IsBrokenConstant scope place whole) (constant_faults scope place whole)
listed-broken-constant scope place whole =
    let P : Diagnostic → Type 0 = IsBrokenConstant scope place whole in
    each-both P (place_faults Constant scope place whole)
    (counted_faults place (first_word whole) (taken_in place (typed_in Constant scope whole)))
    (each-weaker (IsBrokenAt Constant scope place whole) P (place_faults Constant scope place whole)
    (λ fault is. broken.at_place fault is) (listed-broken-at Constant scope place whole))
    (each-counted scope place whole (typed_in Constant scope whole) refl)

in-value : (typed : Typed) (place : Option sorts.Sort) (word : Spot) (refused : Bool) → refused ≡ false →
    is_miscounted place (option_and_then value_of typed.term) ≡ true →
    In (diagnostic_at BadCount word) (if refused
    then []
    else fault_if (is_miscounted place (option_and_then value_of typed.term)) BadCount word)
in-value typed place word true accepted is = cc
in-value typed place word false accepted is =
    in-if (is_miscounted place (option_and_then value_of typed.term)) BadCount word is

in-taken : (typed : Typed) (place : Option sorts.Sort) (word : Spot) (fit : Bool) → fit ≡ true →
    In (diagnostic_at BadCount word) (counted_faults place word (Some typed)) →
    In (diagnostic_at BadCount word) (counted_faults place word (if fit then Some typed else None))
in-taken typed place word true is at = at
in-taken typed place word false is at = cc

pub broken-listed-constant : (scope : Scope) (place : Option sorts.Sort) (whole : Expr) (fault : Diagnostic) →
    IsBrokenConstant scope place whole fault → In fault (constant_faults scope place whole)
broken-listed-constant scope place whole fault (broken.at_place told is) =
    in-left told (place_faults Constant scope place whole)
    (counted_faults place (first_word whole) (taken_in place (typed_in Constant scope whole)))
    (broken-listed-at Constant scope place whole told is)
broken-listed-constant scope place whole fault (broken.count at) =
    let told = diagnostic_at BadCount (first_word whole) in
    in-right told (place_faults Constant scope place whole)
    (counted_faults place (first_word whole) (taken_in place (typed_in Constant scope whole)))
    (subst (λ typed. In told (counted_faults place (first_word whole) (taken_in place typed))) (sym at.typed_is)
    (in-taken at.typed place (first_word whole) (is_taken place (Some at.typed))
    (taken place at.typed.kind at.typed at.taken refl)
    (in-value at.typed place (first_word whole) at.typed.is_refused at.accepted
    (miscounted place (option_and_then value_of at.typed.term) at.lacks))))
