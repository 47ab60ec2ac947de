-- The line of a refusal, `lex L:C Name`, without its end.
use Rattle.std.specs.Prelude.{ℕ, List, ◌++◌, codes}
use Rattle.sdl_lex.specs.Place.{place_text}
use Rattle.sdl_lex.specs.declared.error.LexError.{LexError}
use Rattle.sdl_lex.specs.declared.error.LexError.TheVariants as lex

abbrev pub lex_text : LexError → List ℕ
lex_text lex.TooLong = codes "lex 1:1 TooLong"
lex_text (lex.BadByte place) = codes "lex " ++ place_text place ++ codes " BadByte"
lex_text (lex.OpenComment place) = codes "lex " ++ place_text place ++ codes " OpenComment"
lex_text (lex.OpenString place) = codes "lex " ++ place_text place ++ codes " OpenString"
lex_text (lex.NumberTooBig place) = codes "lex " ++ place_text place ++ codes " NumberTooBig"
lex_text (lex.NameTooLong place) = codes "lex " ++ place_text place ++ codes " NameTooLong"
lex_text lex.Memory = codes "lex Memory"
