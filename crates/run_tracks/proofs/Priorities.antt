-- Whether some signal has a priority.
use Rattle.std.proofs.Common.{◌≡◌, true, false, List, Contains, get_or, refl, subst}
use Rattle.std.specs.List.{list_any}
use Rattle.std.proofs.lemmas.Bool.{false_from_ne_true}
use Rattle.std.proofs.lemmas.List.Folds.{Any-from_list_any}
use Rattle.port_model.specs.declared.selection.Class.{Class}
use Rattle.port_model.specs.declared.selection.Class.TheVariants as class
use Rattle.run_tracks.specs.Looks.{is_priority}

priority_is : (one : Class) → is_priority one ≡ true → one ≡ class.Priority
priority_is class.Priority is = refl
priority_is class.Input is = let no : ⊥ = cc in absurd no
priority_is class.Saved is = let no : ⊥ = cc in absurd no
priority_is class.Discard is = let no : ⊥ = cc in absurd no

pub no_priority : (classes : List Class) → (Contains classes class.Priority → ⊥) → list_any is_priority classes ≡ false
no_priority classes none =
    false_from_ne_true (list_any is_priority classes) (λ some.
    let one = Any-from_list_any is_priority classes some in
    let is : one.1 ≡ class.Priority = priority_is one.1 one.4 in
    none (one.0, one.2, subst (λ (c : Class). get_or classes one.0 c ≡ c) is one.3))
