use Rattle.std.proofs.Common.{◌-◌, ◌∷◌, length, sym, ap, ◌∙◌, arith}
use Rattle.sdl_lex.proofs.TextLemmas.{quote_first, found_text, open_string}
use Rattle.sdl_lex.proofs.piece.text.Goals as goal

pub returns-in-Some : goal.returns-in-Some
returns-in-Some c =
    let bytes = c.args.bytes.now in
    let body = c.split_at.result.1.now in
    let back = c.split_at.ensures.back_len in
    let within = c.in-Some.ensures.within in
    found_text bytes body (quote_first bytes c.requires ∙ ap (λ l. 39 ∷ l) (sym c.split_at.ensures.back)) c.in-Some.after.now (length bytes - length c.in-Some.after.now) (sym c.in-Some.ensures.value) (omega arith)

pub returns-in-None : goal.returns-in-None
returns-in-None c =
    open_string c.args.bytes.now c.split_at.result.1.now (quote_first c.args.bytes.now c.requires ∙ ap (λ l. 39 ∷ l) (sym c.split_at.ensures.back)) (sym c.in-None.ensures.value)
