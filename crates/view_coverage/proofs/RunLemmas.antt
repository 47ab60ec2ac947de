-- What is there if a result is Ok.
use Rattle.std.proofs.Common.{Err, IfOk, IfSome, Ok, Result}
use Rattle.std.specs.Result.{result_ok}

pub some-if-ok : {A E : Type 0} (P : A → Type 0) (r : Result A E) → IfOk r P → IfSome (result_ok r) P
some-if-ok P (Ok x) is = is
some-if-ok P (Err e) is = tt
