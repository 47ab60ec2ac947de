-- What a word of the source means to the grammar, with its spelling and its place.
use Rattle.sdl_lex.specs.declared.place.Place.{Place}
use Rattle.sdl_tree.specs.Words as words
use Rattle.parse_expressions.specs.declared.word.Word.{Word}
use Rattle.parse_expressions.specs.declared.word.Word.TheVariants.{Fixed, Name, Number, Text, LeftOut}
use Rattle.parse_expressions.specs.declared.word.PlacedWord.{PlacedWord}

-- the word at this place
abbrev pub word_at : Place → Word → words.Word
word_at at (Fixed mark case) = words.Fixed mark (record { case = case; place = at })
word_at at (Name text) = words.Name (record { text = text.now; place = at })
word_at at (Number value digits) = words.Number value (record { text = digits.now; place = at })
word_at at (Text text) = words.Text (record { text = text.now; place = at })
word_at at (LeftOut lower text) = words.LeftOut lower.now (record { text = text.now; place = at })

abbrev pub word_of_placed : PlacedWord → words.Word
word_of_placed w = word_at w.place w.word
