-- Several facts of one answer.
use Rattle.std.proofs.Common.{Result, Ok, Err}
use Rattle.std.specs.Result.{IfErr, IfOk}

pub if_err_both : {T E : Type 0} (r : Result T E) (P Q R : E → Type 0) → ((why : E) → P why → Q why → R why)
    → IfErr r P → IfErr r Q → IfErr r R
if_err_both (Ok value) P Q R both one other = tt
if_err_both (Err why) P Q R both one other = both why one other

pub if_err_three : {T E : Type 0} (r : Result T E) (P Q S R : E → Type 0)
    → ((why : E) → P why → Q why → S why → R why) → IfErr r P → IfErr r Q → IfErr r S → IfErr r R
if_err_three (Ok value) P Q S R all one other third = tt
if_err_three (Err why) P Q S R all one other third = all why one other third

pub err_always : {T E : Type 0} (r : Result T E) (P : E → Type 0) → ((why : E) → P why) → IfErr r P
err_always (Ok value) P always = tt
err_always (Err why) P always = always why

pub if_ok_both : {T E : Type 0} (r : Result T E) (P Q R : T → Type 0)
    → ((value : T) → P value → Q value → R value) → IfOk r P → IfOk r Q → IfOk r R
if_ok_both (Ok value) P Q R both one other = both value one other
if_ok_both (Err why) P Q R both one other = tt
