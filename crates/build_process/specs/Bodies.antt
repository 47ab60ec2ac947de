-- The bodies of the transitions of a process, and the rules that are broken in them (Z.101: start, input, connection;
-- Z.102: priority input, continuous signal).
use Rattle.std.specs.Prelude.{List, Option, flat_map, map}
use Rattle.build_flow.specs.Beginnings.{Beginning, beginnings}
use Rattle.build_statements.specs.Contexts.{Context}
use Rattle.build_statements.specs.Transitions.{body_in, labelled, transition_faults}
use Rattle.build_names.specs.Faults.{Diagnostic}
use Rattle.sdl_system.specs.Body.{Body}
use Rattle.sdl_tree.specs.Tree.{ProcessDefinition}

-- what a start, a stimulus or a connection does: the body of its transition, behind its label where it is a connection
abbrev pub beginning_body : Context → Beginning → Option Body
beginning_body context beginning = labelled context beginning.label (body_in context beginning.transition)

abbrev pub bodies_among : Context → List Beginning → List (Option Body)
bodies_among context list = map (beginning_body context) list

-- The bodies of a process in the order in which its transitions are numbered: that of the start, then each in the order
-- of the text. Nothing is said of one in which a statement has no meaning.
abbrev pub bodies_of : Context → ProcessDefinition → List (Option Body)
bodies_of context process = bodies_among context (beginnings process)

-- ---- rules that are broken, in the order of the text

abbrev pub statement_faults : Context → Beginning → List Diagnostic
statement_faults context beginning = transition_faults context beginning.transition

abbrev pub faults_among : Context → List Beginning → List Diagnostic
faults_among context list = flat_map (statement_faults context) list

abbrev pub bodies_faults : Context → ProcessDefinition → List Diagnostic
bodies_faults context process = faults_among context (beginnings process)
