use Rattle.std.proofs.Common.{◌∙◌, sym, ap, ℕ, List, [], ◌∷◌, ◌++◌, Option, add-one}
use Rattle.port_model.specs.declared.values.value.Value.{Value}
use Rattle.sdl_interp.proofs.Instances.{parameters_more}
use Rattle.run_semantics.specs.Instance.{parameters_from}
use Rattle.sdl_interp.proofs.instance.parameters_from.Goals as goal

pub loop-index-preserved : goal.loop-index-preserved
loop-index-preserved c =
    let values : List Value = c.args.values.now in
    let index : ℕ = c.loop-index.index in
    c.in_ok-push.ensures.items
    ∙ ap (λ (list : List (Option Value)). list ++ c.get.result ∷ []) c.loop-index.invariant
    ∙ ap (λ (value : Option Value). parameters_from index values ++ value ∷ []) c.get.ensures
    ∙ sym (parameters_more index values) ∙ ap (λ (n : ℕ). parameters_from n values) (sym (add-one index))
