use Rattle.std.proofs.Common.{◌≡◌, ◌<◌, ◌+◌, None, get_or, length, arith, inl, inr, subst}
use Rattle.std.proofs.lemmas.List.{get_or_default}
use Rattle.build_routes.specs.Passing.{AmongFirst, ComesBy, Passes}
use Rattle.build_routes.specs.declared.network.graph.Step.{Step}
use Rattle.build_routes.proofs.PassLemmas.{among_cases, among_last, among_more, passes_more}
use Rattle.build_routes.proofs.network.graph.pass_all.Goals as goal

pub pass-requires : goal.pass-requires
pass-requires c =
    let i = c.loop-step.step-index in
    let steps = c.args.steps.now in
    let none : Step = record { to = 0; only = None } in
    let item : Step = get_or steps i none in
    let within : item.to < length c.args.reached.now = c.requires item (i, c.loop-step-test.true, get_or_default steps i item none c.loop-step-test.true) in
    omega (arith, c.loop-step.auto.reached)

pub loop-step-preserved : goal.loop-step-preserved
loop-step-preserved c =
    let i = c.loop-step.step-index in
    let steps = c.args.steps.now in
    let from = c.args.from in
    let column = c.args.column.now in
    let none : Step = record { to = 0; only = None } in
    let item : Step = get_or steps i none in
    let is : item ≡ get_or steps i item = get_or_default steps i none item c.loop-step-test.true in
    passes_more (λ n k. (x : Step) × AmongFirst steps i x × ComesBy from column x n k) (ComesBy from column item)
    (λ n k. (x : Step) × AmongFirst steps (i + 1) x × ComesBy from column x n k)
    c.args.reached.now c.loop-step.reached c.pass.new.reached
    c.args.waiting.now.items c.loop-step.waiting.items c.pass.new.waiting.items
    c.loop-step.invariant c.in_ok-pass.ensures
    (λ n k some. elim (among_cases steps i some.0 item c.loop-step-test.true is some.1) [
      | inl before ↦ inl (some.0, before, some.2)
      | inr last ↦ inr (subst (λ s. ComesBy from column s n k) last some.2)
    ])
    (λ n k before. (before.0, among_more steps i before.0 before.1, before.2))
    (λ n k last. (item, among_last steps i item is, last))

pub returns : goal.returns
returns c =
    let all : c.loop-step.step-index ≡ length c.args.steps.now = omega (arith, c.loop-step-test.false, c.loop-step.auto.step-index-end) in
    subst (λ i. Passes (λ n k. (x : Step) × AmongFirst c.args.steps.now i x × ComesBy c.args.from c.args.column.now x n k)
    c.args.reached.now c.loop-step.reached c.args.waiting.now.items c.loop-step.waiting.items) all c.loop-step.invariant
