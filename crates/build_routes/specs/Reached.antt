-- What it means that a signal has come to a node.
use Rattle.std.specs.Prelude.{◌≡◌, ◌≢◌, ◌⊎◌, ℕ, List, None, Some, Option, slice_get, get_or, false, Bool}
use Rattle.port_model.specs.declared.values.item.SignalId.{SignalId}
use Rattle.build_routes.specs.Paths.{By, Goes, Implied, IsNamed, StandsIn, Way}
use Rattle.build_routes.specs.SignalLists.{StandsFor}
use Rattle.build_routes.specs.declared.network.list.ListId.{ListId}
use Rattle.sdl_system.specs.declared.id.BlockId.{BlockId}
use Rattle.build_routes.specs.declared.network.joined.ChannelPath.{ChannelPath}
use Rattle.build_routes.specs.declared.network.joined.Connect.{Connect}
use Rattle.build_routes.specs.declared.network.joined.End.TheVariants as at
use Rattle.build_routes.specs.declared.network.joined.Network.{Network}
use Rattle.build_routes.specs.declared.network.joined.PathId.{PathId}
use Rattle.build_routes.specs.declared.network.joined.Scope as scope
use Rattle.build_routes.specs.declared.network.joined.Scope.TheVariants as its
use Rattle.build_routes.specs.declared.network.joined.Source.{Source}
use Rattle.build_routes.specs.declared.graph.node.Node as node
use Rattle.build_routes.specs.declared.graph.node.Node.TheVariants as to

-- no connect names the way
abbrev pub IsFree : Network → Way → Type 0
IsFree network (By n) = IsNamed network n → ⊥
IsFree network Implied = Unit {0}

-- the flags tell which paths a connect names
abbrev pub AreFlags : Network → List Bool → Type 0
AreFlags network flags = (n : ℕ) (path : ChannelPath) → slice_get network.paths.items n ≡ Some path
    → (get_or flags n false ≡ false → IsNamed network n → ⊥) × ((IsNamed network n → ⊥) → get_or flags n false ≡ false)

-- the signal has come out of the block by a way that no connect names
pub record ComesOut (network : Network) (signal : SignalId) (source : Source) (block : BlockId) : Type 0 where
  pub way : Way
  pub goes : Goes network signal source (its.Block block) way at.Env
  pub free : IsFree network way

abbrev pub Reached : Network → SignalId → Source → node.Node → Type 0
Reached network signal source to.Source = Unit {0}
Reached network signal source to.Env = (way : Way) × Goes network signal source its.System way at.Env
Reached network signal source to.First = (source.scope ≡ its.System)
    ⊎ ((b : BlockId) × (source.scope ≡ its.Block b) × StandsIn network its.System (at.Block b) × ComesOut network signal source b)
Reached network signal source to.Others =
    (b : BlockId) × (source.scope ≢ its.Block b) × StandsIn network its.System (at.Block b) × ComesOut network signal source b
Reached network signal source (to.Path id) =
    (path : ChannelPath) × (slice_get network.paths.items id.0 ≡ Some path) × Goes network signal source path.scope (By id.0) path.to
Reached network signal source (to.Into b) = (way : Way) × Goes network signal source its.System way (at.Block b)
Reached network signal source (to.OutOf b) = ComesOut network signal source b
Reached network signal source (to.IntoBy k) = (connect : Connect) × (i : ℕ) × (outer : PathId) × (slice_get network.connects.items k ≡ Some connect)
    × (slice_get connect.outer.items i ≡ Some outer) × Goes network signal source its.System (By outer.0) (at.Block connect.block)
Reached network signal source (to.OutBy k) = (connect : Connect) × (j : ℕ) × (inner : PathId) × (slice_get network.connects.items k ≡ Some connect)
    × (slice_get connect.inner.items j ≡ Some inner) × Goes network signal source (its.Block connect.block) (By inner.0) at.Env
Reached network signal source (to.Process p) = (scope : scope.Scope) × (way : Way) × Goes network signal source scope way (at.Process p)

-- the signal may pass
abbrev pub Passes : Network → SignalId → Option ListId → Type 0
Passes network signal None = Unit {0}
Passes network signal (Some list) = StandsFor network.lists.items signal list
