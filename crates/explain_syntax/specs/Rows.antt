-- The two rows that show an excerpt: its line, and under it carets at the place.
use Rattle.std.specs.Prelude.{ℕ, ◌-◌, ◌==◌, ◌&&◌, ◌||◌, List, [], ◌∷◌, ◌++◌, codes, drop, length, map, max, min}
use Rattle.std.specs.Prelude.{nat_le, nat_lt, replicate, take, if◌then◌else◌}
use Rattle.std.specs.Fmt.{decimal}
use Rattle.explain_syntax.specs.declared.lines.excerpt.Excerpt.{Excerpt}

-- printable bytes and tabs are shown as they are, a CR as a blank, and all others as a question mark
abbrev pub shown_byte : ℕ → ℕ
shown_byte b = if (b == 9) || (nat_le 32 b && nat_le b 126) then b else (if b == 13 then 32 else 63)

-- what comes under a byte, so that the next is under the next
abbrev pub blank_for : ℕ → ℕ
blank_for b = if b == 9 then 9 else 32

-- dots if not all of these bytes are shown
abbrev pub cut_of : List ℕ → List ℕ
cut_of bytes = if nat_lt 60 (length bytes) then codes "..." else []

-- the first row up to the place: the number of the line, and the last 60 bytes of what comes before the place
abbrev pub front : ℕ → Excerpt → List ℕ
front number excerpt =
    decimal number ++ codes " | " ++ cut_of excerpt.before.now
    ++ map shown_byte (drop (length excerpt.before.now - 60) excerpt.before.now)

-- the row of the line: after this front come the first 60 bytes from the place on
abbrev pub line_row : List ℕ → Excerpt → List ℕ
line_row begin excerpt = begin ++ map shown_byte (take 60 excerpt.behind.now) ++ cut_of excerpt.behind.now ++ 10 ∷ []

-- the row of the carets: they begin under the byte at the place, and there is one for each marked byte that is shown
abbrev pub caret_row : List ℕ → Excerpt → List ℕ
caret_row begin excerpt =
    map blank_for begin
    ++ replicate (min excerpt.width (max (length (take 60 excerpt.behind.now)) 1)) 94 ++ 10 ∷ []

-- both rows of a line that has this number
abbrev pub rows : ℕ → Excerpt → List ℕ
rows number excerpt = line_row (front number excerpt) excerpt ++ caret_row (front number excerpt) excerpt
