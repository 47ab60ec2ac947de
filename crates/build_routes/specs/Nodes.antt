-- The numbers of nodes.
use Rattle.std.specs.Prelude.{ℕ, ◌+◌, ◌*◌}
use Rattle.build_routes.specs.declared.graph.node.Node as node
use Rattle.build_routes.specs.declared.graph.node.Node.TheVariants as at

abbrev pub number : node.Node → ℕ
number at.Source = 0
number at.Env = 8
number at.First = 16
number at.Others = 24
number (at.Path path) = 8 * path.0 + 1
number (at.Into block) = 8 * block.0 + 2
number (at.OutOf block) = 8 * block.0 + 3
number (at.IntoBy connect) = 8 * connect + 4
number (at.OutBy connect) = 8 * connect + 5
number (at.Process process) = 8 * process.0 + 6
