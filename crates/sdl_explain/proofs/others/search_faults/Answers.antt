use Rattle.std.proofs.Common.{◌∙◌, ap, arith, refl, rules, subst, sym}
use Rattle.sdl_explain.proofs.OthersLemmas.{all_right, begun, found_more, nothing_found, often_enough, room, stays_there, without_place}
use Rattle.sdl_explain.proofs.others.search_faults.Goals as goal
use Rattle.sdl_explain.specs.Others.{IsFoundPast}
use Rattle.sdl_explain.specs.Refused.{build_place}

pub returns-in_default : goal.returns-in_default
returns-in_default c =
    without_place c.args.specification.now c.args.first.now c.in_ok-rest.rest c.none-others.result
    c.in_ok-rest.ensures.text c.in_ok-rest.ensures.names (search rules) c.none-others.ensures.told
    c.none-others.ensures.more c.none-others.ensures.is_all

pub loop-turn-init : goal.loop-turn-init
loop-turn-init c = record {
  searched = begun c.args.specification.now c.args.first.now c.in_ok-rest.rest _ c.none-others.result
      c.in_ok-rest.ensures.text c.in_ok-rest.ensures.names (ap build_place c.in-Broken.is) c.none-others.ensures.told
      c.none-others.ensures.more;
  not_all = c.none-others.ensures.is_all;
}

pub add_unless_lacking-requires : goal.add_unless_lacking-requires
add_unless_lacking-requires c =
    room c.args.specification.now c.args.first.now c.loop-turn._turn c.loop-turn.rest c.loop-turn.place
    c.loop-turn.others c.loop-turn.invariant.searched
    (omega (arith, c.loop-turn-test.true, c.turns_for-turn-end.ensures.few))

pub loop-turn-preserved : goal.loop-turn-preserved
loop-turn-preserved c = record {
  searched = found_more c.args.specification.now c.args.first.now c.loop-turn._turn c.loop-turn.rest
      c.found_past.new.rest c.loop-turn.place c.in-Wrong.rule c.in-Wrong.word c.loop-turn.others _
      c.loop-turn.invariant.searched
      (subst (λ found. IsFoundPast c.loop-turn.place c.loop-turn.rest c.found_past.new.rest found) c.in-Wrong.is
      c.in_ok-found.ensures)
      (sym c.is_same.ensures ∙ c.if-is_same.false) c.in_ok-add_unless_lacking-in-Wrong.ensures.told;
  not_all = c.in_ok-add_unless_lacking-in-Wrong.ensures.is_all ∙ c.loop-turn.invariant.not_all;
}

pub returns-then-is_same : goal.returns-then-is_same
returns-then-is_same c =
    stays_there c.args.specification.now c.args.first.now c.loop-turn._turn c.loop-turn.rest c.found_past.new.rest
    c.loop-turn.place c.in-Wrong.rule c.in-Wrong.word c.loop-turn.others c.loop-turn.invariant.searched
    (subst (λ found. IsFoundPast c.loop-turn.place c.loop-turn.rest c.found_past.new.rest found) c.in-Wrong.is
    c.in_ok-found.ensures)
    (sym c.is_same.ensures ∙ c.if-is_same.true) c.loop-turn.invariant.not_all

pub returns-in-Right : goal.returns-in-Right
returns-in-Right c =
    all_right c.args.specification.now c.args.first.now c.loop-turn._turn c.loop-turn.rest c.found_past.new.rest
    c.loop-turn.place c.loop-turn.others _ c.loop-turn.invariant.searched
    (subst (λ found. IsFoundPast c.loop-turn.place c.loop-turn.rest c.found_past.new.rest found) c.in-Right.is
    c.in_ok-found.ensures)
    refl refl refl

pub returns-in-Nothing : goal.returns-in-Nothing
returns-in-Nothing c =
    nothing_found c.args.specification.now c.args.first.now c.loop-turn._turn c.loop-turn.rest c.found_past.new.rest
    c.loop-turn.place c.loop-turn.others c.loop-turn.invariant.searched
    (subst (λ found. IsFoundPast c.loop-turn.place c.loop-turn.rest c.found_past.new.rest found) c.in-Nothing.is
    c.in_ok-found.ensures)
    c.loop-turn.invariant.not_all

pub returns : goal.returns
returns c =
    often_enough c.args.specification.now c.args.first.now c.loop-turn._turn c.loop-turn.rest c.loop-turn.place
    c.loop-turn.others c.loop-turn.invariant.searched
    (omega (arith, c.loop-turn-test.false, c.loop-turn.auto._turn-end) ∙ c.turns_for-turn-end.ensures.turns)
    c.loop-turn.invariant.not_all
