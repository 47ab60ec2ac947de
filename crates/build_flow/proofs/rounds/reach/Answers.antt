use Rattle.std.proofs.Common.{◌∙◌, ◌<◌, ap, sym, subst}
use Rattle.build_flow.specs.Joins.{any_new, count_open, joins_in, with_joins}
use Rattle.build_flow.specs.Listed.{beginnings_listed, terminators_listed, texts}
use Rattle.build_flow.specs.Reach.{EachReached}
use Rattle.build_flow.proofs.PassingLemmas.{found-met}
use Rattle.build_flow.proofs.RoundLemmas.{round-closed, round-each, round-fewer}
use Rattle.build_flow.proofs.rounds.reach.Goals as goal

pub returns-then-not-any : goal.returns-then-not-any
returns-then-not-any c =
    let all = beginnings_listed c.args.beginnings.now in
    let names = texts c.rounds.names in
    let found = c.in_ok-found.found.items in
    let met = found-met all c.args.labels.now c.rounds.names found c.requires.labels c.in_ok-found.ensures in
    round-closed all names (terminators_listed found) met c.rounds.invariant
    (ap (λ list. any_new names (terminators_listed list)) (sym c.deref.ensures.value)
    ∙ sym c.in_ok-any.ensures.any ∙ c.if-not-any.true)

pub rounds-smaller : goal.rounds-smaller
rounds-smaller c =
    let all = beginnings_listed c.args.beginnings.now in
    let names = texts c.rounds.names in
    let found = c.in_ok-found.found.items in
    let met = found-met all c.args.labels.now c.rounds.names found c.requires.labels c.in_ok-found.ensures in
    subst (λ list. count_open (joins_in all) list < count_open (joins_in all) names)
    (sym (c.in_ok-any.ensures.names ∙ ap (λ list. with_joins names (terminators_listed list)) c.deref.ensures.value))
    (round-fewer all names (terminators_listed found) met
    (ap (λ list. any_new names (terminators_listed list)) (sym c.deref.ensures.value)
    ∙ sym c.in_ok-any.ensures.any ∙ c.if-not-any.false))

pub rounds-preserved : goal.rounds-preserved
rounds-preserved c =
    let all = beginnings_listed c.args.beginnings.now in
    let names = texts c.rounds.names in
    let found = c.in_ok-found.found.items in
    let met = found-met all c.args.labels.now c.rounds.names found c.requires.labels c.in_ok-found.ensures in
    subst (EachReached all)
    (sym (c.in_ok-any.ensures.names ∙ ap (λ list. with_joins names (terminators_listed list)) c.deref.ensures.value))
    (round-each all names (terminators_listed found) met c.rounds.invariant)
