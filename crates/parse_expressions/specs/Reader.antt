-- What a function value that reads ensures of each call.
use Rattle.std.specs.Prelude.{Result}
use Rattle.std.specs.Borrow.{MutBor}
use Rattle.std.specs.declared.alloc.Global.{Global}
use Rattle.sdl_tree.specs.Words.{Words}
use Rattle.parse_expressions.specs.declared.fault.Fault.{Fault}
use Rattle.parse_expressions.specs.Reading.{Parser}
use Rattle.parse_expressions.specs.Reads.{Reads}

-- At this place in the grammar the function value reads what its parser does.
pub record IsReader {A B At : Type 0} (view : A → B) (p : Parser B) (at : At) (pre : Global → MutBor Words → At → Type 0)
    (post : Global → MutBor Words → At → Result A Fault → MutBor Words → Type 0) : Type 0 where
  pub callable : (alloc : Global) (old : MutBor Words) → pre alloc old at
  pub reads : (alloc : Global) (old new : MutBor Words) (r : Result A Fault) → post alloc old at r new → Reads view (p old.now) r new.now
