use Rattle.std.proofs.Common.{List, [], ◌∷◌, ◌++◌, subst, refl}
use Rattle.port_model.specs.History.{PortEvent, PortStep, IsLegal}
use Rattle.port_model.specs.Port.{PortState}

-- one event is a history
pub IsLegal-one : (old new : PortState) (event : PortEvent) → PortStep old event new → IsLegal old (event ∷ []) new
IsLegal-one old new event step = (new, step, refl)

-- two histories, one after the other
pub IsLegal-append : (old mid new : PortState) (events more : List PortEvent)
    → IsLegal old events mid → IsLegal mid more new → IsLegal old (events ++ more) new
IsLegal-append old mid new [] more first second = subst (λ p. IsLegal p more new) first second
IsLegal-append old mid new (event ∷ events) more first second =
    (first.0, first.1, IsLegal-append first.0 mid new events more first.2 second)
