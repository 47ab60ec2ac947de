-- How much more there is than is shown.
use Rattle.std.specs.Prelude.{ℕ, ◌==◌, Bool, List, [], ◌++◌, codes, if◌then◌else◌}
use Rattle.std.specs.Fmt.{decimal}
use Rattle.explain_syntax.specs.declared.lines.origin.Origin.{Origin}

-- a number, and what is so many
abbrev pub amount : ℕ → List ℕ
amount more = decimal more ++ codes " more, not shown\n"

-- nothing, or a line: so many, or at least so many
abbrev pub more_text : Origin → ℕ → Bool → List ℕ
more_text origin more is_all =
    if more == 0 then []
    else origin.name.now ++ ((if is_all then codes ": " else codes ": at least ") ++ amount more)
