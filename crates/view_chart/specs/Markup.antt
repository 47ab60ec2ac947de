-- Words in which nothing is markup.
use Rattle.std.specs.Prelude.{ℕ, ◌==◌, List, chars, codes, encode_utf8, if◌then◌else◌}
use Rattle.std.specs.List.{flat_map}

-- a letter: 60 is `<`, 62 is `>`, 38 is `&`, and 34 is `"`
abbrev pub escape : ℕ → List ℕ
escape letter =
    if letter == 60 then codes "&lt;"
    else if letter == 62 then codes "&gt;"
    else if letter == 38 then codes "&amp;"
    else if letter == 34 then codes "&quot;"
    else encode_utf8 letter

abbrev pub escaped : List ℕ → List ℕ
escaped words = flat_map escape (chars words)
