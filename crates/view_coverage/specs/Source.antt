-- The name of a file in a tracefile.
use Rattle.std.specs.Prelude.{ℕ, ◌==◌, ◌||◌, nat_lt, Bool, List, chars, codes, encode_utf8, if◌then◌else◌}
use Rattle.std.specs.List.{flat_map}

-- a character that may end a line, or that isn't seen
abbrev pub is_control : ℕ → Bool
is_control letter = nat_lt letter 32 || letter == 127

abbrev pub shown : ℕ → List ℕ
shown letter = if is_control letter then codes "?" else encode_utf8 letter

-- the name as it's shown in one line
abbrev pub source_text : List ℕ → List ℕ
source_text source = flat_map shown (chars source)
