-- A limit comes before what is none.
use Rattle.std.proofs.Common.{◌≡◌, ◌∙◌, ◌==◌, ◌&&◌, ◌||◌, ℕ, Bool, false, [], ◌∷◌, None, ap, arith, nat_lt, refl, sym}
use Rattle.std.proofs.lemmas.Bool.Decides.{nat_tests}
use Rattle.laws_broken.specs.Limits.{IsNoLimit, LimitFirst, LimitStays}
use Rattle.build_names.proofs.FaultLemmas.{both_noted}
use Rattle.build_names.specs.Faults.{Diagnostic, is_less, least_of, phase, precedes, rank}
use Rattle.build_names.specs.declared.faults.fault.Rule.{Rule}
use Rattle.build_names.specs.declared.faults.fault.Rule.TheVariants.{BadCount, Duplicate, Limit, NoEnd, NoLabel, NoRoute, NoState, Sort, TwiceInState, Unknown}

no-phase : (rule : Rule) → (rule ≡ Limit → ⊥) → phase rule ≡ 1
no-phase Unknown isnt = refl
no-phase Duplicate isnt = refl
no-phase Sort isnt = refl
no-phase TwiceInState isnt = refl
no-phase NoState isnt = refl
no-phase NoLabel isnt = refl
no-phase NoRoute isnt = refl
no-phase BadCount isnt = refl
no-phase NoEnd isnt = refl
no-phase Limit isnt = absurd (isnt refl)

behind : (x y : ℕ) (rest : Bool) → x ≡ 1 → y ≡ 0 → (nat_lt x y || (x == y && rest)) ≡ false
behind x y rest one none = grind (arith, nat_tests)

later : (limit fault : Diagnostic) → limit.rule ≡ Limit → IsNoLimit fault → precedes fault limit ≡ false
later limit fault is isnt =
    behind (phase fault.rule) (phase limit.rule)
    (is_less (fault.place.line ∷ fault.place.column ∷ rank fault.rule ∷ [])
    (limit.place.line ∷ limit.place.column ∷ rank limit.rule ∷ []))
    (no-phase fault.rule isnt) (ap phase is)

pub limit-stays : LimitStays
limit-stays limit [] is none = refl
limit-stays limit (fault ∷ more) is none = rw (later limit fault is none.0) (limit-stays limit more is none.1)

pub limit-first : LimitFirst
limit-first faults limit more told is none =
    sym (both_noted None faults more) ∙ ap (λ one. least_of one more) told ∙ limit-stays limit more is none
