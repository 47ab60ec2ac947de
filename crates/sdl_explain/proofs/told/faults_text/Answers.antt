use Rattle.std.proofs.Common.{◌∙◌, ◌++◌, ap, append_assoc, subst}
use Rattle.sdl_explain.proofs.told.faults_text.Goals as goal
use Rattle.explain_syntax.specs.Explanation.{explanation_text}
use Rattle.explain_syntax.specs.More.{more_text}
use Rattle.sdl_explain.specs.Told.{AreTold, TellsFault}
use Rattle.sdl_build.specs.declared.error.BuildError.{BuildError}

pub returns : goal.returns
returns c =
    let origin = c.args.origin.now in
    let first = c.in_ok-first.first in
    let others = c.in_ok-others.others in
    let told = c.in_ok-told.told.items in
    let more = more_text origin others.more others.is_all in
    record {
      first = first;
      tells = record { shown = c.in_ok-first.ensures.shown; other = c.in_ok-first.ensures.other };
      others = others;
      found = c.in_ok-others.ensures.found;
      beside = c.in_ok-others.ensures.told;
      few = c.in_ok-others.ensures.few;
      told = told;
      messages = subst (λ all. AreTold BuildError (TellsFault c.args.specification.now) origin all told) c.deref.ensures.value
          c.in_ok-told.ensures;
      whole = c.in_ok-push_more.ensures
          ∙ ap (λ t. t ++ more) (c.in_ok-extend_from_slice.ensures.items
          ∙ ap (λ t. c.in_ok-text.text.items ++ t) c.deref-2.ensures.value ∙ ap (λ t. t ++ told) c.in_ok-text.ensures)
          ∙ append_assoc (explanation_text origin first) told more;
    }
