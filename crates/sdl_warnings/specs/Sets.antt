-- Sets of names.
use Rattle.std.specs.Prelude.{ℕ, Bool, List}
use Rattle.std.specs.Borrow.{Bor}
use Rattle.std.specs.List.{list_any}
use Rattle.std.specs.Str.{bytes_eq}
use Rattle.indexmap.specs.IndexSet.{contains_by}
use Rattle.sdl_warnings.specs.Heads.{HeadValue}
use Rattle.sdl_warnings.specs.declared.name_set.NameSet.{NameSet}

-- whether a name is in a set
abbrev pub has : NameSet → List ℕ → Bool
has set text = contains_by (λ (name : Bor (List ℕ)). bytes_eq text name.now) set.names

-- whether it is this name
abbrev pub has_head : List ℕ → HeadValue → Bool
has_head text head = bytes_eq text head.name

-- whether a name is one of these
abbrev pub among : List HeadValue → List ℕ → Bool
among heads text = list_any (has_head text) heads
