-- The calls of an owner are all that happened to a port, where nothing is drawn.
use Rattle.std.proofs.Common.{◌≡◌, ap, refl, List, [], ◌∷◌, ◌++◌}
use Rattle.port_model.specs.History.{Expire, PortEvent, Put, Reset, Set, Stop, Take}
use Rattle.run_semantics.specs.Runs.{outside_of, own_of}

-- where nothing is drawn, all that happens to the port are the owner's calls
pub all_own : (history : List PortEvent) → outside_of history ≡ [] → own_of history ≡ history
all_own [] none = refl
all_own (Take classes taken ∷ rest) none =
    ap (λ (calls : List PortEvent). Take classes taken ∷ calls) (all_own rest none)
all_own (Set key due arm ∷ rest) none = ap (λ (calls : List PortEvent). Set key due arm ∷ calls) (all_own rest none)
all_own (Reset key ∷ rest) none = ap (λ (calls : List PortEvent). Reset key ∷ calls) (all_own rest none)
all_own (Stop ∷ rest) none = ap (λ (calls : List PortEvent). Stop ∷ calls) (all_own rest none)
all_own (Put item ∷ rest) none = let wrong : ⊥ = cc in absurd wrong
all_own (Expire key arm due at ∷ rest) none = let wrong : ⊥ = cc in absurd wrong

-- two lists that give none
pub later_none : {X : Type 0} (first later : List X) → first ++ later ≡ [] → later ≡ []
later_none [] later none = none
later_none (x ∷ rest) later none = let wrong : ⊥ = cc in absurd wrong
