use Rattle.std.proofs.Common.{◌+◌, ◌∙◌, ◌∷◌, List, ap, arith, drop, map, sym}
use Rattle.std.proofs.lemmas.List.{at_drop_all, at_drop_more}
use Rattle.build_states.specs.Listed.{part_value}
use Rattle.build_states.specs.declared.stimuli.reading.Part.{Part}
use Rattle.build_states.specs.Outlined.{seen_from}
use Rattle.build_states.specs.Shared.{seen_of, states_listed}
use Rattle.build_states.proofs.outline.Outline.of.Goals as goal

pub loop-number-preserved : goal.loop-number-preserved
loop-number-preserved c = λ text.
    let parts = c.args.parts.now in
    let n = c.loop-number.number in
    let part = c.index-parts-number.result in
    let before = seen_of c.loop-number.outline text in
    let rest = drop (n + 1) parts in
    ap (λ seen. seen_from text (n + 1) seen (states_listed (map part_value rest))) (c.in_ok-add.ensures text)
    ∙ ap (λ (p : Part). seen_from text n before (states_listed (map part_value (p ∷ rest)))) c.index-parts-number.is
    ∙ sym (at_drop_more (λ (list : List Part). seen_from text n before (states_listed (map part_value list))) parts n part
    (omega arith))
    ∙ c.loop-number.invariant text

pub returns : goal.returns
returns c = λ text.
    let n = c.loop-number.number in
    sym (at_drop_all (λ (list : List Part).
    seen_from text n (seen_of c.loop-number.outline text) (states_listed (map part_value list))) c.args.parts.now n
    (omega arith))
    ∙ c.loop-number.invariant text
