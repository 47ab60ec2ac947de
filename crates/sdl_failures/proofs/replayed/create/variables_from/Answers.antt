use Rattle.std.proofs.Common.{◌∙◌, sym, ap, ℕ, List, ◌++◌, Option, map}
use Rattle.std.proofs.lemmas.Iterator.{YieldsList-from_slice}
use Rattle.std.proofs.lemmas.Iterator.Adapters.{YieldsList-from_skip}
use Rattle.std.proofs.lemmas.Iterator.Consumers.{YieldsList-end}
use Rattle.std.proofs.lemmas.List.{drop-map}
use Rattle.port_model.specs.declared.values.value.Value.{Value}
use Rattle.sdl_failures.proofs.CreateLemmas.{initials_read}
use Rattle.run_semantics.specs.Instance.{parameters_from}
use Rattle.sdl_system.specs.declared.process.Variable.{Variable}
use Rattle.sdl_failures.proofs.replayed.create.variables_from.Goals as goal

pub returns : goal.returns
returns c =
    let count : ℕ = c.args.process.now.parameters in
    let variables : List Variable = c.args.process.now.variables.items in
    let e = YieldsList-end (YieldsList-from_skip count (YieldsList-from_slice variables cc) cc)
    c.loop-variable.yielded _ c.loop-variable.yielded_by _ _ c.in-None.is c.next.ensures.steps in
    c.new.ensures ∙ c.loop-variable.invariant
    ∙ ap (λ (list : List (Option Value)). list ++ map (λ x. x.now.initial) c.loop-variable.yielded) c.in_ok-list.ensures
    ∙ ap (λ (list : List (Option Value)). parameters_from count c.args.values.now ++ list)
    (initials_read c.loop-variable.yielded
    ∙ ap (λ (list : List Variable). map (λ (v : Variable). v.initial) list) e.0
    ∙ sym (drop-map (λ (v : Variable). v.initial) count variables))
