-- The records of instances, one by one.
use Rattle.std.proofs.Common.{List, [], ◌∷◌, ◌++◌}
use Rattle.std.specs.List.{AllZip}

-- one more of each
pub zip_more : {A B : Type 0} (R : A → B → Type 0) (xs : List A) (ys : List B) (x : A) (y : B) → AllZip R xs ys → R x y
    → AllZip R (xs ++ x ∷ []) (ys ++ y ∷ [])
zip_more R [] [] x y all last = (last, tt)
zip_more R [] (other ∷ ys) x y all last = absurd all
zip_more R (first ∷ xs) [] x y all last = absurd all
zip_more R (first ∷ xs) (other ∷ ys) x y all last = (all.0, zip_more R xs ys x y all.1 last)
