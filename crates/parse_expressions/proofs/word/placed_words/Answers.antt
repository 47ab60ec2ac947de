use Rattle.std.proofs.Common.{ap, arith, length, subst, sym, take, ℕ, ◌+◌, ◌<◌, ◌∙◌, ◌≤◌}
use Rattle.sdl_lex.specs.declared.place.Place.{Place}
use Rattle.sdl_lex.specs.Place.{place_after}
use Rattle.sdl_lex.specs.Token.{InOrder}
use Rattle.sdl_tree.specs.Words.{words_of}
use Rattle.parse_expressions.specs.declared.word.Searched.{Searched}
use Rattle.parse_expressions.proofs.LineLemmas.{behind_order, behind_placed, column_fits}
use Rattle.parse_expressions.proofs.WordLemmas.{opened, read_on, slice_first, slices_after}
use Rattle.parse_expressions.proofs.word.placed_words.Goals as goal

pub moved-place-requires-clause-within : goal.moved-place-requires-clause-within
moved-place-requires-clause-within c =
    let o = opened _ _ _ _ _ (c.in-Some.ensures.cases.0) c.rest.invariant.in_order in
    let ordered : c.in-Some.token.now.start < c.in-Some.token.now.end = o.1 in
    let within : c.in-Some.token.now.end ≤ length c.args.text.now = o.2 in
    omega arith

pub placed-requires-clause-within : goal.placed-requires-clause-within
placed-requires-clause-within c = (opened _ _ _ _ _ (c.in-Some.ensures.cases.0) c.rest.invariant.in_order).2

pub behind-searched-requires-clause-room : goal.behind-searched-requires-clause-room
behind-searched-requires-clause-room c =
    let source = c.args.text.now in
    let t = c.in-Some.token.now in
    let o = opened _ _ _ _ _ (c.in-Some.ensures.cases.0) c.rest.invariant.in_order in
    let ordered : t.start < t.end = o.1 in
    let within : t.end ≤ length source = o.2 in
    let starts : t.start ≤ length source = omega arith in
    let fits : c.moved-place.result.column ≤ t.start + 1 =
    subst (λ (column : ℕ). column ≤ t.start + 1) (sym (ap (λ (p : Place). p.column) c.moved-place.ensures))
    (column_fits source t.start starts) in
    omega arith

pub rest-preserved : goal.rest-preserved
rest-preserved c =
    let source = c.args.text.now in
    let t = c.in-Some.token.now in
    let after = c.in-Some.after.now in
    let place = c.moved-place.result in
    let is = c.in-Some.ensures.cases.0 in
    let o = opened _ _ _ _ _ is c.rest.invariant.in_order in
    let ordered : t.start ≤ t.end = let less : t.start < t.end = o.1 in omega arith in
    let reached = c.behind-searched.ensures in record {
      read = read_on source c.rest.found.items c.push.new.self.items c.placed.result place
          c.rest.rest.now after t (words_of source c.args.tokens.now)
          is c.in_ok-push.ensures.items c.placed.ensures c.moved-place.ensures c.rest.invariant.read;
      in_order = subst (λ (from : ℕ). InOrder from after (length source)) (sym (ap (λ (s : Searched). s.offset) reached))
          (behind_order t place after (length source) ordered o.3);
      slices = slices_after source c.rest.rest.now after t is c.rest.invariant.slices;
      placed = ap (λ (s : Searched). s.place) reached
          ∙ behind_placed source t place ordered o.2 (slice_first source c.rest.rest.now after t is c.rest.invariant.slices)
          c.moved-place.ensures
          ∙ sym (ap (λ (s : Searched). place_after (take s.offset source)) reached);
    }
