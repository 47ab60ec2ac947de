use Rattle.std.proofs.Common.{◌+◌, subst, sym, arith}
use Rattle.port_model.proofs.PlaceLemmas.{all_looked_at, finds_name, names_fit, passes_name, IsFirstBelow}
use Rattle.port_model.proofs.places.Places.first_wanted.Goals as goal
use Rattle.port_model.proofs.places.Places.first_wanted.Goals.{else-takes, then-takes}

pub returns-then-found : goal.returns-then-found
returns-then-found c =
    let w = c.args.wanted in let classes = c.args.selection.now in let places = c.args.self.now in let found = c.in-Some.found in
    let looked : IsFirstBelow w classes places (found.name.0 + 1) c.if-takes.first = elim c.if-takes.branch [
      | then-takes b ↦ subst (IsFirstBelow w classes places (found.name.0 + 1)) (sym b.first-is)
          (finds_name w classes places c.loop-found.first found c.in-Some.ensures.first c.loop-found.invariant
          (let t = b.if-takes.true in let e = c.takes.ensures in let k = c.class_of.ensures in cc) b.lesser.result b.lesser.ensures)
      | else-takes b ↦ subst (IsFirstBelow w classes places (found.name.0 + 1)) (sym b.first-is)
          (passes_name w classes places c.loop-found.first found c.in-Some.ensures.first c.loop-found.invariant
          (let t = b.if-takes.false in let e = c.takes.ensures in let k = c.class_of.ensures in cc))
    ] in
    all_looked_at w classes places c.if-takes.first
    (λ q has. let fit = names_fit places.names c.first_from.ensures.names q has in let last = c.if-found.true in omega arith) looked

pub loop-found-preserved : goal.loop-found-preserved
loop-found-preserved c =
    let w = c.args.wanted in let classes = c.args.selection.now in let places = c.args.self.now in let found = c.in-Some.found in
    elim c.if-takes.branch [
      | then-takes b ↦ subst (IsFirstBelow w classes places (found.name.0 + 1)) (sym b.first-is)
          (finds_name w classes places c.loop-found.first found c.in-Some.ensures.first c.loop-found.invariant
          (let t = b.if-takes.true in let e = c.takes.ensures in let k = c.class_of.ensures in cc) b.lesser.result b.lesser.ensures)
      | else-takes b ↦ subst (IsFirstBelow w classes places (found.name.0 + 1)) (sym b.first-is)
          (passes_name w classes places c.loop-found.first found c.in-Some.ensures.first c.loop-found.invariant
          (let t = b.if-takes.false in let e = c.takes.ensures in let k = c.class_of.ensures in cc))
    ]
