-- The words that Z.120 keeps for itself.
use Rattle.std.specs.Prelude.{ℕ, Bool, List, [], ◌∷◌, codes}
use Rattle.std.specs.List.{list_any}
use Rattle.std.specs.Str.{str_eq_ignore_ascii_case}

abbrev pub keywords : List (List ℕ)
keywords =
    codes "action" ∷ codes "after" ∷ codes "all" ∷ codes "alt" ∷ codes "as" ∷ codes "before" ∷ codes "begin" ∷
    codes "block" ∷ codes "bottom" ∷ codes "by" ∷ codes "call" ∷ codes "channel" ∷ codes "comment" ∷
    codes "concurrent" ∷ codes "condition" ∷ codes "connect" ∷ codes "create" ∷ codes "data" ∷
    codes "decomposed" ∷ codes "def" ∷ codes "empty" ∷ codes "end" ∷ codes "endafter" ∷ codes "endbefore" ∷
    codes "endconcurrent" ∷ codes "endexpr" ∷ codes "endinstance" ∷ codes "endmethod" ∷ codes "endmsc" ∷
    codes "endsuspension" ∷ codes "env" ∷ codes "equalpar" ∷ codes "escape" ∷ codes "exc" ∷ codes "expr" ∷
    codes "external" ∷ codes "finalized" ∷ codes "found" ∷ codes "from" ∷ codes "gate" ∷ codes "in" ∷
    codes "inf" ∷ codes "inherits" ∷ codes "inline" ∷ codes "inst" ∷ codes "instance" ∷ codes "int_boundary" ∷
    codes "label" ∷ codes "language" ∷ codes "left" ∷ codes "loop" ∷ codes "lost" ∷ codes "method" ∷
    codes "mfail" ∷ codes "msc" ∷ codes "mscdocument" ∷ codes "mscexpr" ∷ codes "msg" ∷ codes "nestable" ∷
    codes "nonnestable" ∷ codes "offset" ∷ codes "opt" ∷ codes "or" ∷ codes "order" ∷ codes "origin" ∷
    codes "otherwise" ∷ codes "out" ∷ codes "par" ∷ codes "parenthesis" ∷ codes "process" ∷ codes "receive" ∷
    codes "redefined" ∷ codes "reference" ∷ codes "related" ∷ codes "replyin" ∷ codes "replyout" ∷
    codes "reset" ∷ codes "right" ∷ codes "seq" ∷ codes "service" ∷ codes "set" ∷ codes "shared" ∷
    codes "start" ∷ codes "starttimer" ∷ codes "stop" ∷ codes "stoptimer" ∷ codes "subst" ∷
    codes "suspension" ∷ codes "system" ∷ codes "text" ∷ codes "time" ∷ codes "timeout" ∷ codes "timer" ∷
    codes "to" ∷ codes "top" ∷ codes "undef" ∷ codes "using" ∷ codes "utilities" ∷ codes "variables" ∷
    codes "via" ∷ codes "virtual" ∷ codes "when" ∷ codes "wildcards" ∷ []

-- whether a name is one of them, in whatever case: in older editions of Z.120 letters are the same in both
unfoldable pub is_keyword : List ℕ → Bool
is_keyword name = list_any (λ word. str_eq_ignore_ascii_case word name) keywords
