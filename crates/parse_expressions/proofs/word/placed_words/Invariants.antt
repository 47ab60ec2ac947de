use Rattle.std.proofs.Common.{◌≡◌, ◌++◌, All, length, map, take}
use Rattle.sdl_lex.specs.Place.{place_after}
use Rattle.sdl_lex.specs.Token.{InOrder, IsSlice}
use Rattle.parse_expressions.specs.PlacedWord.{word_of_placed}
use Rattle.sdl_tree.specs.Words.{words_of}
use Rattle.parse_expressions.proofs.word.placed_words.Given as goal

abbrev pub invariant-rest : goal.invariant-rest
invariant-rest l = record {
  read : map word_of_placed l.found.items ++ words_of l.text l.rest ≡ words_of l.text l.fn.tokens;
  in_order : InOrder l.searched.offset l.rest (length l.text);
  slices : All (IsSlice l.text) l.rest;
  placed : l.searched.place ≡ place_after (take l.searched.offset l.text);
}

abbrev pub decreases-rest : goal.decreases-rest
decreases-rest l = length l.rest
