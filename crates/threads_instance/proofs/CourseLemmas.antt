-- What is noted of a count that may not be told.
use Rattle.std.proofs.Common.{◌≡◌, inr, subst, ℕ, List, Option, None, Some}
use Rattle.std.specs.Prelude.{IfSome, MatchOption}
use Rattle.port_model.specs.KeptWords.{Notes}

pub counted : (old new : Option (List ℕ)) (told : Option ℕ) (drawn : ℕ)
    → MatchOption told (new ≡ None) (λ count. Notes old count new) → IfSome told (λ count. count ≡ drawn)
    → Notes old drawn new
counted old new None drawn lost is = inr lost
counted old new (Some count) drawn noted is = subst (λ (n : ℕ). Notes old n new) is noted
