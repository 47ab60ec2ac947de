-- How a record ends, by its last event.
use Rattle.std.proofs.Common.{◌≡◌, ◌∙◌, ap, refl, sym, Bool, true, false, List, [], ◌∷◌, ◌++◌}
use Rattle.std.specs.Prelude.{◌↔◌, IsTrue}
use Rattle.run_record.specs.Event.{Event}
use Rattle.settle_meaning.specs.Closed.{EndsIn, IsEnd}
use Rattle.settle_meaning.specs.Living.{is_end}

-- whether the last event is a stop or a failure
abbrev ends : List Event → Bool
ends [] = false
ends (one ∷ []) = is_end one
ends (one ∷ next ∷ rest) = ends (next ∷ rest)

ends_push : (before : List Event) (last : Event) → ends (before ++ last ∷ []) ≡ is_end last
ends_push [] last = refl
ends_push (one ∷ []) last = refl
ends_push (one ∷ next ∷ rest) last = ends_push (next ∷ rest) last

ends_as_is : (events : List Event) → EndsIn IsEnd events → ends events ≡ true
ends_as_is events is = ap ends is.events_are ∙ ends_push is.before is.last ∙ is.is_so

-- whether the record ends so, by its last event
pub ends_by_last : (events before : List Event) (last : Event) (is : Bool) → events ≡ before ++ last ∷ []
    → is ≡ is_end last → IsTrue is ↔ EndsIn IsEnd events
ends_by_last events before last is are by = (
  λ holds. record { before = before; last = last; events_are = are; is_so = sym by ∙ holds },
  λ so. by ∙ sym (ends_push before last) ∙ sym (ap ends are) ∙ ends_as_is events so,
)

-- no event is no end
pub ends_never : (events : List Event) → events ≡ [] → IsTrue false ↔ EndsIn IsEnd events
ends_never events none = (
  λ holds. let wrong : ⊥ = cc in absurd wrong,
  λ so. sym (ap ends none) ∙ ends_as_is events so,
)
