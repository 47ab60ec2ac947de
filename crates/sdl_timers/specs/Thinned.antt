-- Fuses without some that have no effect any more.
use Rattle.std.specs.Prelude.{◌≡◌, ◌⊎◌, Bool, true, List, [], ◌∷◌}
use Rattle.port_model.specs.declared.inbox.entry.Fuse.{Fuse}

-- What is left of some fuses is this, in its order; each of the others is spent.
abbrev pub Thins : (Fuse → Bool) → List Fuse → List Fuse → Type 0
Thins spent [] left = left ≡ []
Thins spent (fuse ∷ more) left =
    ((spent fuse ≡ true) × Thins spent more left)
    ⊎ ((rest : List Fuse) × (left ≡ fuse ∷ rest) × Thins spent more rest)
