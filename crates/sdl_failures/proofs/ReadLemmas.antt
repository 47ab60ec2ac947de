-- What stands in a list.
use Rattle.std.proofs.Common.{◌≡◌, ◌∙◌, ap, arith, sym, ℕ, Some, List, slice_get}
use Rattle.std.proofs.lemmas.Option.{slice_get-get_or}
use Rattle.std.specs.Borrow.{Bor}
use Rattle.std.specs.Slice.{IsItemAt}

-- what a read of a list gave stands at its index
pub item_read : {X : Type 0} (xs : List X) (i : ℕ) (x : Bor X) → IsItemAt xs i (Some x) → slice_get xs i ≡ Some x.now
item_read xs i x read = slice_get-get_or xs i x.now read.3.0 ∙ ap Some (sym (read.4 (omega arith) x.now))
