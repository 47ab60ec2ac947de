-- On which ways a signal goes from whom to whom (Z.101: channel, connection; for implied channels see below).
use Rattle.std.specs.Prelude.{◌≡◌, ◌≢◌, ℕ, ◌<◌, true, Some, slice_get, length}
use Rattle.port_model.specs.declared.values.item.SignalId.{SignalId}
use Rattle.build_routes.specs.Each.{ForSome}
use Rattle.build_routes.specs.SignalLists.{StandsFor}
use Rattle.build_routes.specs.declared.network.joined.Block.{Block}
use Rattle.sdl_system.specs.declared.id.BlockId.{BlockId}
use Rattle.build_routes.specs.declared.network.joined.ChannelPath.{ChannelPath}
use Rattle.build_routes.specs.declared.network.joined.Connect.{Connect}
use Rattle.build_routes.specs.declared.network.joined.End as end
use Rattle.build_routes.specs.declared.network.joined.End.TheVariants as at
use Rattle.build_routes.specs.declared.network.joined.Network.{Network}
use Rattle.build_routes.specs.declared.network.joined.PathId.{PathId}
use Rattle.build_routes.specs.declared.network.joined.Process.{Process}
use Rattle.build_routes.specs.declared.network.joined.Scope as scope
use Rattle.build_routes.specs.declared.network.joined.Scope.TheVariants as its
use Rattle.build_routes.specs.declared.network.joined.Source.{Source}

-- how a signal goes from one end to another: by a path of a channel, or by an implied channel
pub data Way : Type 0 where
  By : ℕ → Way
  Implied : Way

-- the scope has no channel
abbrev pub IsImplied : Network → scope.Scope → Type 0
IsImplied network its.System = network.is_implied ≡ true
IsImplied network (its.Block block) = (is : Block) × (slice_get network.blocks.items block.0 ≡ Some is) × (is.is_implied ≡ true)

-- the agent stands in the scope; the environment is around each
abbrev pub StandsIn : Network → scope.Scope → end.End → Type 0
StandsIn network scope at.Env = Unit {0}
StandsIn network scope (at.Process process) =
    (is : Process) × (slice_get network.processes.items process.0 ≡ Some is) × (is.scope ≡ scope)
StandsIn network scope (at.Block block) = (scope ≡ its.System) × (block.0 < length network.blocks.items)

-- an implied channel may lead a signal there: to a process only one that it names
abbrev pub Accepts : Network → SignalId → end.End → Type 0
Accepts network signal at.Env = Unit {0}
Accepts network signal (at.Process process) =
    (is : Process) × (slice_get network.processes.items process.0 ≡ Some is) × StandsFor network.lists.items signal is.named
Accepts network signal (at.Block block) = Unit {0}

-- A way carries the signal in a scope from one end to another. In a scope without any channel implied channels join each agent
-- and the environment with each other one.
pub data Carries (network : Network) (signal : SignalId) : scope.Scope → Way → end.End → end.End → Type 0 where
  channel : (n : ℕ) (path : ChannelPath) → slice_get network.paths.items n ≡ Some path → StandsFor network.lists.items signal path.signals
      → Carries network signal path.scope (By n) path.from path.to
  implied : (scope : scope.Scope) (from to : end.End) → IsImplied network scope → StandsIn network scope from → StandsIn network scope to
      → from ≢ to → Accepts network signal to → Carries network signal scope Implied from to

-- a connect of some block names the channel among those in the block
abbrev pub IsNamed : Network → ℕ → Type 0
IsNamed network n = ForSome network.connects.items (λ k connect. ForSome connect.inner.items (λ j path. path.0 ≡ n))

-- Ways outside and in a block are joined at its border: where a connect of the block names both, or no connect names the one in
-- the block, or it is implied.
pub data Joined (network : Network) (block : BlockId) : Way → Way → Type 0 where
  connected : (k : ℕ) (connect : Connect) (i j : ℕ) (outer inner : PathId) → slice_get network.connects.items k ≡ Some connect
      → connect.block ≡ block → slice_get connect.outer.items i ≡ Some outer → slice_get connect.inner.items j ≡ Some inner
      → Joined network block (By outer.0) (By inner.0)
  unnamed : (outer : Way) (n : ℕ) → (IsNamed network n → ⊥) → Joined network block outer (By n)
  implied : (outer : Way) → Joined network block outer Implied

-- The signal goes from the source in this scope on this way to this end: by a way from the source in its own scope, and on over
-- the border of a block, inwards or outwards, by a way that is joined to the one on which it came.
pub data Goes (network : Network) (signal : SignalId) (source : Source) : scope.Scope → Way → end.End → Type 0 where
  leaves : {way : Way} {to : end.End} → Carries network signal source.scope way source.end to → Goes network signal source source.scope way to
  goes_in : {block : BlockId} {inner : Way} {to : end.End} (outer : Way) → Goes network signal source its.System outer (at.Block block)
      → Carries network signal (its.Block block) inner at.Env to → Joined network block outer inner
      → Goes network signal source (its.Block block) inner to
  goes_out : {outer : Way} {to : end.End} (block : BlockId) (inner : Way) → Goes network signal source (its.Block block) inner at.Env
      → Carries network signal its.System outer (at.Block block) to → Joined network block outer inner
      → Goes network signal source its.System outer to

-- a path leads the signal from the source to the process, or to the environment of the system
abbrev pub Path : Network → SignalId → Source → end.End → Type 0
Path network signal source at.Env = (way : Way) × Goes network signal source its.System way at.Env
Path network signal source (at.Process process) =
    (scope : scope.Scope) × (way : Way) × Goes network signal source scope way (at.Process process)
Path network signal source (at.Block block) = ⊥

-- the end is a sender in the scope: a process there, or the environment of the system
abbrev pub IsSender : Network → scope.Scope → end.End → Type 0
IsSender network scope at.Env = scope ≡ its.System
IsSender network scope (at.Process process) = StandsIn network scope (at.Process process)
IsSender network scope (at.Block block) = ⊥

-- the source stands where it says
abbrev pub IsSource : Network → Source → Type 0
IsSource network source = IsSender network source.scope source.end
