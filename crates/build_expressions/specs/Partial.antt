-- Values that may be missing.
use Rattle.std.specs.Prelude.{◌++◌, List, [], ◌∷◌, Option, None, Some}

-- what two values give, where both are there
abbrev pub both : {A B C : Type 0} → (A → B → C) → Option A → Option B → Option C
both f None b = None
both f (Some a) None = None
both f (Some a) (Some b) = Some (f a b)

-- the values of a list, where all are there
abbrev pub all_some : {A : Type 0} → List (Option A) → Option (List A)
all_some [] = Some []
all_some (first ∷ rest) = both ◌∷◌ first (all_some rest)

-- the values with one more behind them, where all are there
abbrev pub and_last : {A : Type 0} → Option (List A) → Option A → Option (List A)
and_last list last = both (λ values value. values ++ value ∷ []) list last
