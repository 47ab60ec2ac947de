use Rattle.std.proofs.Common.{◌∙◌, arith, refl, rules, subst, sym}
use Rattle.sdl_explain.proofs.OthersLemmas.{is_script, line_more, line_room, lines_begun, lines_often}
use Rattle.sdl_explain.proofs.others.search_lines.Goals as goal
use Rattle.sdl_script.specs.ScriptText as script

pub loop-turn-init : goal.loop-turn-init
loop-turn-init c = record {
  searched = lines_begun c.args.system.now c.args.script.now c.args.first c.in_ok-rest.rest.items c.none-others.result
      c.in_ok-rest.ensures.items c.none-others.ensures.told c.none-others.ensures.more;
  not_all = c.none-others.ensures.is_all;
}

pub returns-in-Ok : goal.returns-in-Ok
returns-in-Ok c =
    is_script c.args.system.now c.args.script.now c.args.first c.loop-turn._turn c.loop-turn.rest.items
    c.leave_out_line.new.text.items c.loop-turn.last c.in-Some.number c.in-Ok.field-0.lines.items c.loop-turn.others _
    c.loop-turn.invariant.searched (sym c.script_line.ensures ∙ c.in-Some.is) c.leave_out_line.ensures.without
    (subst (λ text. script.SaysScript c.args.system.now text c.in-Ok.field-0.lines.items) c.deref.ensures.value
    c.in-Ok.ensures.read)
    refl refl refl

pub add-requires : goal.add-requires
add-requires c =
    line_room c.args.system.now c.args.script.now c.args.first c.loop-turn._turn c.loop-turn.rest.items
    c.loop-turn.last c.loop-turn.others c.loop-turn.invariant.searched
    (omega (arith, c.loop-turn-test.true, c.turns_for-turn-end.ensures.few))

pub loop-turn-preserved : goal.loop-turn-preserved
loop-turn-preserved c = record {
  searched = line_more c.args.system.now c.args.script.now c.args.first c.loop-turn._turn c.loop-turn.rest.items
      c.leave_out_line.new.text.items c.loop-turn.last c.in-Err.fault c.in-Some.number c.loop-turn.others _
      c.loop-turn.invariant.searched (sym c.script_line.ensures ∙ c.in-Some.is) c.leave_out_line.ensures.without
      (record {
        refused = subst (λ text. script.Refuses c.in-Err.fault c.args.system.now text) c.deref.ensures.value
            c.in-Err.ensures.refused;
        read = search rules;
      })
      c.in_ok-add-in-Err.ensures.told;
  not_all = c.in_ok-add-in-Err.ensures.is_all ∙ c.loop-turn.invariant.not_all;
}

pub returns : goal.returns
returns c =
    lines_often c.args.system.now c.args.script.now c.args.first c.loop-turn._turn c.loop-turn.rest.items
    c.loop-turn.last c.loop-turn.others c.loop-turn.invariant.searched
    (omega (arith, c.loop-turn-test.false, c.loop-turn.auto._turn-end) ∙ c.turns_for-turn-end.ensures.turns)
    c.loop-turn.invariant.not_all
