-- What a process means that is made of what its text says.
use Rattle.std.proofs.Common.{◌≡◌, ◌∙◌, List, [], ◌∷◌, Option, None, Some, IfSome, ap, length, map, refl, slice_get, subst, sym}
use Rattle.std.proofs.lemmas.List.{length-map}
use Rattle.build_process.specs.Bodies.{beginning_body}
use Rattle.build_process.specs.Sound.{AreTransitionsOf}
use Rattle.build_process.specs.declared.transitions.Transitions.{Transitions}
use Rattle.build_flow.specs.Beginnings.{beginnings}
use Rattle.build_states.specs.States.{states_of}
use Rattle.build_states.specs.Tabled.{meanings_at}
use Rattle.build_states.specs.Listed.{conditions_listed}
use Rattle.build_states.specs.Reading.{process_read}
use Rattle.sdl_system.specs.Behaviour.{Behaviour, Means, variable_meaning}
use Rattle.sdl_system.specs.Signal.{is_member}
use Rattle.sdl_system.specs.Table.{IsTableOf}
use Rattle.sdl_system.specs.Term.{term_of}
use Rattle.sdl_system.specs.declared.expression.Expression.{Expression}
use Rattle.sdl_system.specs.declared.process.Process.{Process}
use Rattle.build_tables.specs.Meant.{tables_at}
use Rattle.build_tables.proofs.MeaningLemmas.{states-mean}
use Rattle.sdl_tree.specs.Tree.{ProcessDefinition}
use Rattle.build_process.specs.Made.{IsMade, MadeOf, Said}
use Rattle.build_process.specs.Meant.{IsBehaviour}
use Rattle.build_process.specs.ProcessScope.{ProcessScope, for_stimuli, for_transitions}
use Rattle.build_process.specs.declared.heading.Heading.{Heading}
use Rattle.build_process.proofs.WithinLemmas.{meanings-within, names-within, table_within, tables-within}

terms-listed : (list : List Expression) →
    map (λ expression. Some (term_of expression)) list ≡ conditions_listed (map (λ e. Some e) list)
terms-listed [] = refl
terms-listed (expression ∷ list) = ap (λ rest. Some (term_of expression) ∷ rest) (terms-listed list)

module _ (around : ProcessScope) (definition : ProcessDefinition) (heading : Heading) (said : Said)
    (transitions : Transitions) (flow : AreTransitionsOf (for_transitions around) definition (Some transitions))
    (each : length transitions.entries.items ≡ length (beginnings definition))
    (conditions : conditions_listed said.conditions
    ≡ (process_read (for_stimuli around) definition).numbering.conditions)
    (says : meanings_at said.names (tables_at said.tables said.numbers)
    ≡ map Some (states_of (for_stimuli around) definition.body)) where
  process-means : (process : Process) → IsMade around.signals said transitions heading process →
      (behaviour : Behaviour) → IsBehaviour around definition heading behaviour → Means process behaviour
  process-means process made behaviour is = record {
    entries = transitions.entries.items;
    sized =
        each ∙ sym (length-map (beginnings definition) (beginning_body (for_transitions around))) ∙ ap length is.bodies
        ∙ length-map behaviour.bodies (λ body. Some body);
    variables_are = ap (λ list. map variable_meaning list.items) made.headed.variables ∙ is.variables;
    parameters_are = made.headed.parameters ∙ is.parameters;
    valid_is = λ signal. ap (λ valid. is_member valid signal) made.headed.valid ∙ is.valid signal;
    bodies_are =
        subst (λ nodes. IsTableOf behaviour.bodies transitions.entries.items nodes)
        (ap (λ nodes. nodes.items) (sym made.nodes)) (flow behaviour.bodies is.bodies is.ends is.labels);
    start_is = ap (slice_get transitions.entries.items) is.start ∙ made.start;
    states_are =
        states-mean transitions.entries.items heading.valid around.signals said.names
        (map (table_within around.signals) said.tables) said.numbers process.states.items process.tables.items
        (tables-within transitions.entries.items heading.valid around.signals said.tables process.tables.items
        made.tables) made.states process (process_read (for_stimuli around) definition).numbering.conditions
        (states_of (for_stimuli around) definition.body) behaviour.states refl
        (terms-listed process.conditions.items ∙ ap conditions_listed made.conditions ∙ conditions)
        (names-within around.signals said.tables)
        (meanings-within around.signals said.names said.tables said.numbers
        (states_of (for_stimuli around) definition.body) says is.signals) is.states;
  }

  -- each process that is made does what its text says
  pub made-means : (made : Option Process) → MadeOf around.signals said transitions heading made →
      IfSome made (λ process. (behaviour : Behaviour) → IsBehaviour around definition heading behaviour →
      Means process behaviour)
  made-means None missing = tt
  made-means (Some process) made = process-means process made
