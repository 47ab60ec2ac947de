-- An owner that was given out never comes back.
use Rattle.std.proofs.Common.{◌≡◌, ◌-◌, ℕ, zero, suc, List, [], ◌∷◌, None, get_or, refl, slice_set}
use Rattle.threads_ports.specs.Owners.{AreGivenOnce, OwnersState, owner_of, without_owner, without_owners}

-- where one is given out there is none
none_there : (owners : OwnersState) (k : ℕ) → get_or (slice_set owners k None) k None ≡ None
none_there [] k = refl
none_there (owner ∷ owners) zero = refl
none_there (owner ∷ owners) (suc k) = none_there owners k

-- and where there is none, none comes
none_stays : (owners : OwnersState) (k j : ℕ) → get_or owners j None ≡ None
    → get_or (slice_set owners k None) j None ≡ None
none_stays [] k j none = refl
none_stays (owner ∷ owners) zero zero none = refl
none_stays (owner ∷ owners) zero (suc j) none = none
none_stays (owner ∷ owners) (suc k) zero none = none
none_stays (owner ∷ owners) (suc k) (suc j) none = none_stays owners k j none

none_later : (owners : OwnersState) (number : ℕ) (later : List ℕ) → owner_of owners number ≡ None
    → owner_of (without_owners owners later) number ≡ None
none_later owners number [] none = none
none_later owners number (next ∷ more) none =
    none_later (without_owner owners next) number more (none_stays owners (next - 1) (number - 1) none)

pub given_once : AreGivenOnce
given_once owners number later =
    none_later (without_owner owners number) number later (none_there owners (number - 1))
