use Rattle.std.proofs.Common.{take, drop, sym, arith, take-append-drop, length-take-le}
use Rattle.sdl_lex.proofs.RunLemmas.{found_word, long_name}
use Rattle.sdl_lex.proofs.piece.word.Goals as goal

pub returns-then-len-gt-MAX_WORD : goal.returns-then-len-gt-MAX_WORD
returns-then-len-gt-MAX_WORD c =
    let bytes = c.args.bytes.now in
    let n = c.word_len-len.result in
    long_name bytes (take n bytes) (drop n bytes) (sym (take-append-drop n bytes)) n (sym (length-take-le n bytes c.word_len-len.ensures.within)) c.requires c.word_len-len.ensures.value (omega arith)

pub returns : goal.returns
returns c =
    let bytes = c.args.bytes.now in
    let n = c.word_len-len.result in
    found_word bytes (take n bytes) (drop n bytes) (sym (take-append-drop n bytes)) n (sym (length-take-le n bytes c.word_len-len.ensures.within)) c.requires c.word_len-len.ensures.value (omega arith)
