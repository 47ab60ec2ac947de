use Rattle.std.proofs.Common.{◌≡◌, [], length, is_ok, sym, ap, ◌∙◌}
use Rattle.std.proofs.lemmas.Bool.{eqb-true}
use Rattle.std.proofs.lemmas.List.{nil_from_length}
use Rattle.std.proofs.ResultArms.{chosen}
use Rattle.sdl_lex.proofs.LexerLemmas.{gap_more, token_more, InOrder-all}
use Rattle.sdl_lex.proofs.SliceLemmas.{All-slices}
use Rattle.sdl_lex.proofs.TokenLemmas.{All-from_order}
use Rattle.sdl_lex.proofs.lexer.lex.Goals as goal

pub loop-rest-preserved-in_ok-map_err : goal.loop-rest-preserved-in_ok-map_err
loop-rest-preserved-in_ok-map_err c =
    let pushed = chosen _ _ _ _ c.push.ensures.items (sym c.map_err.ensures.variant ∙ ap is_ok c.in_ok-map_err.was) in
    let more = token_more c.args.text.now c.loop-rest.rest.now c.loop-rest.tokens.items c.loop-rest.invariant c.in-Ok.piece c.in-Some.kind c.in-Ok.ensures c.in-Some.is in
    rw (pushed, c.split_at.ensures.back) more

pub loop-rest-preserved : goal.loop-rest-preserved
loop-rest-preserved c =
    rw c.split_at.ensures.back (gap_more c.args.text.now c.loop-rest.rest.now c.loop-rest.tokens.items c.loop-rest.invariant c.in-Ok.piece c.in-Ok.ensures c.in_default.is)

pub returns-clause-in_order : goal.returns-clause-in_order
returns-clause-in_order c =
    let nil : c.loop-rest.rest.now ≡ [] = nil_from_length c.loop-rest.rest.now (eqb-true (length c.loop-rest.rest.now) 0 (sym c.loop-rest-test.ensures)) in
    InOrder-all c.args.text.now c.loop-rest.rest.now c.loop-rest.tokens.items c.loop-rest.invariant nil

pub returns-clause-within : goal.returns-clause-within
returns-clause-within c =
    let nil : c.loop-rest.rest.now ≡ [] = nil_from_length c.loop-rest.rest.now (eqb-true (length c.loop-rest.rest.now) 0 (sym c.loop-rest-test.ensures)) in
    All-from_order 0 c.loop-rest.tokens.items _ (InOrder-all c.args.text.now c.loop-rest.rest.now c.loop-rest.tokens.items c.loop-rest.invariant nil)

pub returns-clause-slices : goal.returns-clause-slices
returns-clause-slices c = All-slices c.args.text.now c.loop-rest.rest.now c.loop-rest.tokens.items c.loop-rest.invariant
