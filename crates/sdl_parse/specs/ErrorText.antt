-- The line of a refusal, `parse L:C Name word`, without its end.
use Rattle.std.specs.Prelude.{ℕ, List, ◌++◌, codes}
use Rattle.std.specs.String.{string_bytes}
use Rattle.sdl_lex.specs.ErrorText.{lex_text}
use Rattle.sdl_lex.specs.Place.{place_text}
use Rattle.parse_expressions.specs.Wanted.{wanted_text}
use Rattle.sdl_parse.specs.declared.error.ParseError.{ParseError}
use Rattle.sdl_parse.specs.declared.error.ParseError.TheVariants as parse

abbrev pub parse_text : ParseError → List ℕ
parse_text (parse.Lex error) = lex_text error
parse_text (parse.Expected place wanted) = codes "parse " ++ place_text place ++ codes " Expected " ++ wanted_text wanted
parse_text (parse.LeftOut place word) = codes "parse " ++ place_text place ++ codes " LeftOut " ++ string_bytes word
parse_text (parse.TooDeep place) = codes "parse " ++ place_text place ++ codes " TooDeep"
parse_text parse.Memory = codes "parse Memory"
