-- What is seen of a graph: for each node the steps that lead on from it.
use Rattle.std.specs.Prelude.{List}
use Rattle.build_routes.specs.declared.network.graph.Graph.{Graph}
use Rattle.build_routes.specs.declared.network.graph.Row.{Row}

abbrev pub rows_of : Graph → List Row
rows_of graph = graph.rows.items
