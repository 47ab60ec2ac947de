use Rattle.std.proofs.Common.{◌∙◌, ◌++◌, [], ◌∷◌, length, get_or, length-append, ap, arith}
use Rattle.build_names.proofs.RowLemmas.{get_or-none_more}
use Rattle.build_names.proofs.scopes.row.Row.grow.Goals as goal

pub loop-preserved : goal.loop-preserved
loop-preserved g c = record {
  grown = omega (arith, simp length-append at (ap length c.in_ok-push.ensures.items));
  same = λ other.
      ap (λ rows. get_or rows other []) c.in_ok-push.ensures.items
      ∙ ap (λ row. get_or (c.loop.self.names.items ++ row ∷ []) other []) c.new.ensures
      ∙ get_or-none_more c.loop.self.names.items other
      ∙ c.loop.invariant.same other;
}

pub returns-clause-within : goal.returns-clause-within
returns-clause-within g c = omega arith

pub returns-clause-same : goal.returns-clause-same
returns-clause-same g c = c.loop.invariant.same
