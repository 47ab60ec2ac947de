-- By where it went.
use Rattle.std.proofs.Common.{◌++◌, ◌∷◌, [], ap, refl, subst, sym}
use Rattle.settle_checks.proofs.TallyLemmas.{other_noted}
use Rattle.settle_checks.specs.Outputs.{AreTallied, outline_to}
use Rattle.settle_checks.proofs.heard.note_target.Goals as goal

pub returns-in-Instance-clause-noted : goal.returns-in-Instance-clause-noted
returns-in-Instance-clause-noted c = λ noted outlines are.
    subst (λ o. AreTallied (outlines ++ o ∷ []) c.note_output.new.row) (sym (ap outline_to c.in-Instance.is))
    (c.note_output.ensures.noted noted outlines are)

pub returns-in-Env : goal.returns-in-Env
returns-in-Env c = record {
  noted = λ _ outlines are.
      subst (λ o. AreTallied (outlines ++ o ∷ []) c.args.row.now) (sym (ap outline_to c.in-Env.is))
      (other_noted outlines c.args.row.now 0 are);
  len = refl;
}

pub returns-in-Null : goal.returns-in-Null
returns-in-Null c = record {
  noted = λ _ outlines are.
      subst (λ o. AreTallied (outlines ++ o ∷ []) c.args.row.now) (sym (ap outline_to c.in-Null.is))
      (other_noted outlines c.args.row.now 0 are);
  len = refl;
}

pub returns-in-Nobody : goal.returns-in-Nobody
returns-in-Nobody c = record {
  noted = λ _ outlines are.
      subst (λ o. AreTallied (outlines ++ o ∷ []) c.args.row.now) (sym (ap outline_to c.in-Nobody.is))
      (other_noted outlines c.args.row.now 0 are);
  len = refl;
}
