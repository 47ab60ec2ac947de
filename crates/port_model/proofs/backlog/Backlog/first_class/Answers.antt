use Rattle.std.proofs.Common.{drop, rules, subst, tests}
use Rattle.std.proofs.lemmas.List.{nil_from_length}
use Rattle.std.proofs.lemmas.Map.Entries.{length-values_of}
use Rattle.port_model.specs.Backlog.{BacklogValue, IsHead}
use Rattle.port_model.proofs.Searches.{all_ordinary, head_is}
use Rattle.port_model.proofs.backlog.Backlog.first_class.Goals as goal

pub returns-in_default-class_of : goal.returns-in_default-class_of
returns-in_default-class_of c =
    let none = length-values_of c.self.inside.passed in
    subst (λ (b : BacklogValue). IsHead c.args.selection.now b c.class_of.result) c.self.view_is (record {
      got = c.in-Some.got.now;
      after = drop 1 c.self.inside.rest.items;
      passed = nil_from_length _ (search (rules, tests, none));
      rest = head_is c.self.inside.rest.items c.in-Some.got.now (search rules) (search rules);
      has = search rules;
      unsaved = c.in_default-class_of.not-Saved;
      ordinary = all_ordinary c.args.selection.now _ (search rules);
    })
