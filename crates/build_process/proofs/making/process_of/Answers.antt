use Rattle.std.proofs.Common.{◌∙◌, Some, map, option_map, refl, subst, sym}
use Rattle.build_states.specs.Tabled.{table_value}
use Rattle.build_tables.specs.Stated.{TablesOf, state_value, states_listed}
use Rattle.build_states.specs.Tabled.{names_listed}
use Rattle.std.specs.Prelude.{◌≡◌, IfSome}
use Rattle.build_process.specs.Conditions.{AreWhole}
use Rattle.build_process.proofs.making.process_of.Goals as goal

pub returns : goal.returns
returns c =
    let signals = c.args.around.now.signals in
    let said = c.args.said.now in
    let valid = c.args.heading.valid in
    let tables = map table_value said.tables.items in
    record {
      headed = record {
        name = refl;
        initial = refl;
        maximum = refl;
        parameters = refl;
        variables = refl;
        valid = refl;
      };
      conditions = subst (AreWhole c.args.conditions.items) c.in-Some.is c.in_ok-conditions.ensures;
      nodes = refl;
      start = sym c.entry.ensures ∙ c.in-Some-entry.is;
      tables =
          subst (λ list. TablesOf list valid signals tables (Some c.in-Some-2.tables.tables.items)) c.deref.ensures.value
          (subst (λ made. TablesOf c.deref.result.now valid signals tables
          (option_map (λ made. made.tables.items) made)) c.in-Some-2.is c.in_ok-tables.ensures.tables);
      states =
          subst (λ made. IfSome made (λ made. map state_value made.states.items
          ≡ states_listed (names_listed c.args.around.now.states.names.now) said.of_states.items)) c.in-Some-2.is
          c.in_ok-tables.ensures.states;
    }
