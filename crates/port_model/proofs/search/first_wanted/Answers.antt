use Rattle.std.proofs.Common.{arith}
use Rattle.port_model.specs.Wanted.{IsUnwanted, IsWanted}
use Rattle.port_model.proofs.Searches.{all_passed, first_found, passes_one}
use Rattle.port_model.proofs.search.first_wanted.Goals as goal

pub returns-then-takes : goal.returns-then-takes
returns-then-takes c =
    first_found (IsUnwanted c.args.wanted c.args.selection.now) (IsWanted c.args.wanted c.args.selection.now) _ _ c.index.result.now
    (omega arith) c.loop-place.invariant c.index.ensures (let e = c.takes.ensures in let k = c.class_of.ensures in let n = c.name.ensures in let t = c.if-takes.true in cc)

pub loop-place-preserved : goal.loop-place-preserved
loop-place-preserved c =
    passes_one (IsUnwanted c.args.wanted c.args.selection.now) _ _ c.index.result.now (omega arith) c.loop-place.invariant c.index.ensures
    (let e = c.takes.ensures in let k = c.class_of.ensures in let n = c.name.ensures in let t = c.if-takes.false in cc)

pub returns : goal.returns
returns c = all_passed (IsUnwanted c.args.wanted c.args.selection.now) _ c.loop-place.place (omega arith) c.loop-place.invariant
