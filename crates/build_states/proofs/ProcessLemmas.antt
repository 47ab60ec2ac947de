-- The states of a process, whole.
use Rattle.std.proofs.Common.{◌≡◌, ℕ, Bool, List, [], ◌∷◌, Some, ap, flat_map, map, refl}
use Rattle.sdl_tree.specs.Tree.{BodyPart}
use Rattle.sdl_tree.specs.Words.{Spot}
use Rattle.build_states.specs.Reading.{Part}
use Rattle.build_states.specs.States.{left_out_faults, state_of, tables_of}
use Rattle.build_states.specs.Tabled.{meanings_at}

-- what the states mean, by their tables
pub meanings-read : (parts : List Part) (names : List Spot) →
    meanings_at names (map (λ t. Some t) (tables_of parts names)) ≡ map (λ m. Some m) (map (state_of parts) names)
meanings-read parts [] = refl
meanings-read parts (name ∷ names) = ap (λ rest. Some (state_of parts name) ∷ rest) (meanings-read parts names)

-- the names that asterisks leave out, by two ways to tell the names of the states
pub left_out-same : (one other : List ℕ → Bool) → ((text : List ℕ) → one text ≡ other text) → (body : List BodyPart) →
    flat_map (left_out_faults one) body ≡ flat_map (left_out_faults other) body
left_out-same one other same body = ap (λ test. flat_map (left_out_faults test) body) (λ j text. same text j)
