use Rattle.std.proofs.Common.{◌∙◌, ◌++◌, ap, rules, subst, true}
use Rattle.sdl_explain.proofs.warned.warnings_text.Goals as goal
use Rattle.explain_syntax.specs.More.{more_text}
use Rattle.sdl_explain.specs.Told.{AreTold}
use Rattle.sdl_explain.specs.Warned.{IsMessage}
use Rattle.sdl_warnings.specs.declared.suspicion.Warning.{Warning}

pub returns : goal.returns
returns c =
    let origin = c.args.origin.now in
    let told = c.in_ok-text.text.items in
    record {
      told = told;
      first = subst (λ all. AreTold Warning (IsMessage c.args.specification.now) origin all told) c.first_told.ensures
          c.in_ok-text.ensures;
      whole = c.in_ok-push_more.ensures ∙ ap (λ n. told ++ more_text origin n true) (search rules);
    }
