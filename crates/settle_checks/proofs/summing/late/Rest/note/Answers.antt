-- The signal is missing.
use Rattle.std.proofs.Common.{◌≡◌, ◌∙◌, ◌+◌, ◌-◌, ◌≤◌, arith, refl, sym, true}
use Rattle.settle_checks.proofs.LateLemmas.{rest_less}
use Rattle.settle_checks.specs.Flows.{is_with}
use Rattle.settle_checks.proofs.summing.late.Rest.note.Goals as goal

pub returns : goal.returns
returns c = λ early done missing is.
    let left = c.args.self.now.missing in
    let flows = c.args.self.now.flows in
    let to_it : is_with c.args.number c.args.pass ≡ true = sym c.is_number.ensures ∙ c.if-not-is_number.false in
    let less : (left - 1) + 1 ≡ left = omega (arith, c.if-self-eq0.false) in
    let before : c.args.pass.at ≤ c.args.born = grind (arith, early) in
    rest_less done c.args.pass c.args.number missing c.args.born to_it left (left - 1) flows flows less refl before is
