use Rattle.std.proofs.Common.{◌∙◌, true, false, not, ap, sym}
use Rattle.build_flow.specs.Listed.{texts}
use Rattle.build_flow.specs.Mentions.{is_named}
use Rattle.build_flow.proofs.RoundLemmas.{known-name, name-added, name-known}
use Rattle.build_flow.proofs.rounds.add_name.Goals as goal

pub returns-then-is_some-clause-names : goal.returns-then-is_some-clause-names
returns-then-is_some-clause-names c =
    let names = c.args.names.now in
    let known = known-name names c.deref.result.now c.get.result true c.get.ensures (sym c.if-is_some.ensures) in
    name-known names _ (ap (is_named (texts names)) (sym c.deref.ensures) ∙ known)

pub returns-then-is_some-clause-is_new : goal.returns-then-is_some-clause-is_new
returns-then-is_some-clause-is_new c =
    let names = c.args.names.now in
    let known = known-name names c.deref.result.now c.get.result true c.get.ensures (sym c.if-is_some.ensures) in
    ap not (sym (ap (is_named (texts names)) (sym c.deref.ensures) ∙ known))

pub returns-clause-names : goal.returns-clause-names
returns-clause-names c =
    let names = c.args.names.now in
    let new = known-name names c.deref.result.now c.get.result false c.get.ensures (sym c.if-is_some.ensures) in
    name-added names c.declare.new.self _ 0 (ap (is_named (texts names)) (sym c.deref.ensures) ∙ new)
    c.in_ok-declare.ensures.declared

pub returns-clause-is_new : goal.returns-clause-is_new
returns-clause-is_new c =
    let names = c.args.names.now in
    let new = known-name names c.deref.result.now c.get.result false c.get.ensures (sym c.if-is_some.ensures) in
    ap not (sym (ap (is_named (texts names)) (sym c.deref.ensures) ∙ new))
