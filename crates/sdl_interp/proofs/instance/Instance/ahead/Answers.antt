use Rattle.std.proofs.Common.{◌≡◌, ◌∙◌, Some, ap, length, rules, sym}
use Rattle.sdl_interp.proofs.Resting.{has_nothing, rests}
use Rattle.sdl_interp.proofs.SelectionLemmas.{none_listed}
use Rattle.sdl_interp.specs.Instance.{HasNothing, InstanceValue}
use Rattle.sdl_system.specs.Process.{table_of}
use Rattle.sdl_interp.proofs.instance.Instance.ahead.Given.{Over}
use Rattle.sdl_interp.proofs.instance.Instance.ahead.Goals as goal

-- nothing waits, in a state without conditions
quiet : (g : Over) (c : goal.Else-not-is_empty-2 g) → HasNothing c.args.self.now.position c.args.self.now
quiet g c =
    let i : InstanceValue = c.args.self.now in
    let table = c.in-Some.table.now in
    let listed : table_of i.process c.in-In.state ≡ Some table = search rules in
    let bare : length table.conditions.items ≡ 0 = search rules in
    let unconditional : length table.continuous.items ≡ 0 = search rules in
    has_nothing i c.in-In.state table (sym (ap (λ (i : InstanceValue). i.position) c.self.view_is) ∙ c.in-In.is) listed
    (none_listed table.conditions.items bare) (none_listed table.continuous.items unconditional) (search rules)

pub returns-clause-quiet : goal.returns-clause-quiet
returns-clause-quiet g c = λ told. quiet g c

pub returns-clause-nothing : goal.returns-clause-nothing
returns-clause-nothing g c = λ told. rests c.args.self.now (quiet g c)
