-- The steps of the graph in which signals flow from a source.
use Rattle.std.specs.Prelude.{◌≡◌, ℕ, ◌⊎◌, ◌&&◌, not, Bool, true, false, List, None, Some, Option, slice_get, get_or, nat_eq, if◌then◌else◌}
use Rattle.build_routes.specs.Each.{ForSome}
use Rattle.build_routes.specs.Nodes.{number}
use Rattle.build_routes.specs.declared.network.graph.Step.{Step}
use Rattle.build_routes.specs.declared.network.list.ListId.{ListId}
use Rattle.build_routes.specs.declared.network.joined.Block.{Block}
use Rattle.sdl_system.specs.declared.id.BlockId.{BlockId}
use Rattle.build_routes.specs.declared.network.joined.ChannelPath.{ChannelPath}
use Rattle.build_routes.specs.declared.network.joined.Connect.{Connect}
use Rattle.build_routes.specs.declared.network.joined.End as end
use Rattle.build_routes.specs.declared.network.joined.End.TheVariants as at
use Rattle.build_routes.specs.declared.network.joined.Network.{Network}
use Rattle.build_routes.specs.declared.network.joined.PathId.{PathId}
use Rattle.build_routes.specs.declared.network.joined.Process.{Process}
use Rattle.build_routes.specs.declared.network.joined.Scope as scope
use Rattle.build_routes.specs.declared.network.joined.Scope.TheVariants as its
use Rattle.build_routes.specs.declared.network.joined.Source.{Source}
use Rattle.build_routes.specs.declared.graph.node.Node as node
use Rattle.build_routes.specs.declared.graph.joint.Side as side
use Rattle.build_routes.specs.declared.graph.joint.Side.TheVariants as which
use Rattle.build_routes.specs.declared.graph.node.Node.TheVariants as to

-- a step between these nodes, if both are there
abbrev pub Link : Option node.Node → Option node.Node → Option ListId → ℕ → Step → Type 0
Link None after only n step = ⊥
Link (Some before) None only n step = ⊥
Link (Some before) (Some after) only n step = (n ≡ number before) × (step ≡ record { to = number after; only = only })

abbrev pub node_if : Bool → node.Node → Option node.Node
node_if true n = Some n
node_if false n = None

abbrev pub same_scope : scope.Scope → scope.Scope → Bool
same_scope its.System its.System = true
same_scope its.System (its.Block b) = false
same_scope (its.Block a) its.System = false
same_scope (its.Block a) (its.Block b) = nat_eq a.0 b.0

abbrev pub same_end : end.End → end.End → Bool
same_end at.Env at.Env = true
same_end at.Env (at.Process q) = false
same_end at.Env (at.Block b) = false
same_end (at.Process p) at.Env = false
same_end (at.Process p) (at.Process q) = nat_eq p.0 q.0
same_end (at.Process p) (at.Block b) = false
same_end (at.Block a) at.Env = false
same_end (at.Block a) (at.Process q) = false
same_end (at.Block a) (at.Block b) = nat_eq a.0 b.0

-- where a path begins, for a signal that comes over the border of a block and wasn't brought by a connect
abbrev pub begin_of : scope.Scope → end.End → Bool → Option node.Node
begin_of its.System at.Env named = None
begin_of its.System (at.Process p) named = None
begin_of its.System (at.Block b) named = Some (to.OutOf b)
begin_of (its.Block b) at.Env named = node_if (not named) (to.Into b)
begin_of (its.Block b) (at.Process p) named = None
begin_of (its.Block b) (at.Block a) named = None

-- where it ends
abbrev pub end_of : scope.Scope → end.End → Bool → Option node.Node
end_of its.System at.Env named = Some to.Env
end_of its.System (at.Process p) named = Some (to.Process p)
end_of its.System (at.Block b) named = Some (to.Into b)
end_of (its.Block b) at.Env named = node_if (not named) (to.OutOf b)
end_of (its.Block b) (at.Process p) named = Some (to.Process p)
end_of (its.Block b) (at.Block a) named = None

abbrev pub PathSteps : Source → Bool → ℕ → ChannelPath → ℕ → Step → Type 0
PathSteps source named n path from step =
    Link (node_if (same_scope path.scope source.scope && same_end path.from source.end) to.Source) (Some (to.Path (record { 0 = n }))) (Some path.signals) from step
    ⊎ (Link (begin_of path.scope path.from named) (Some (to.Path (record { 0 = n }))) (Some path.signals) from step
    ⊎ Link (Some (to.Path (record { 0 = n }))) (end_of path.scope path.to named) None from step)

-- whether the path is one of the channels around a block that ends, at this end, at the block; or of those in it, at its border
abbrev pub touches : side.Side → BlockId → scope.Scope → end.End → Bool
touches which.Outer block scope end = same_scope scope its.System && same_end end (at.Block block)
touches which.Inner block scope end = same_scope scope (its.Block block) && same_end end at.Env

-- where a signal is that comes to the border, to go on by what the connect names
abbrev pub arrives : side.Side → ℕ → node.Node
arrives which.Outer k = to.IntoBy k
arrives which.Inner k = to.OutBy k

-- where a signal is that goes on from there
abbrev pub departs : side.Side → ℕ → node.Node
departs which.Outer k = to.OutBy k
departs which.Inner k = to.IntoBy k

abbrev pub JointSteps : side.Side → ℕ → BlockId → PathId → ChannelPath → ℕ → Step → Type 0
JointSteps side k block id path from step =
    Link (Some (to.Path id)) (node_if (touches side block path.scope path.to) (arrives side k)) None from step
    ⊎ Link (node_if (touches side block path.scope path.from) (departs side k)) (Some (to.Path id)) (Some path.signals) from step

-- so for the path of this number, if there is one
abbrev pub AtPath : List ChannelPath → side.Side → ℕ → BlockId → PathId → ℕ → Step → Type 0
AtPath paths side k block id from step = (path : ChannelPath) × (slice_get paths id.0 ≡ Some path) × JointSteps side k block id path from step

abbrev pub SideSteps : List ChannelPath → side.Side → ℕ → BlockId → List PathId → ℕ → Step → Type 0
SideSteps paths side k block ids from step = ForSome ids (λ j id. AtPath paths side k block id from step)

abbrev pub ConnectSteps : List ChannelPath → ℕ → Connect → ℕ → Step → Type 0
ConnectSteps paths k connect from step =
    SideSteps paths which.Outer k connect.block connect.outer.items from step
    ⊎ SideSteps paths which.Inner k connect.block connect.inner.items from step

-- whether the scope has no channel
abbrev pub is_implied_block : Option Block → Bool
is_implied_block None = false
is_implied_block (Some block) = block.is_implied

abbrev pub is_implied : Network → scope.Scope → Bool
is_implied network its.System = network.is_implied
is_implied network (its.Block block) = is_implied_block (slice_get network.blocks.items block.0)

-- where a signal is on an implied channel of the scope, if it came there from a block, or over the border of the block
abbrev pub on_implied : scope.Scope → node.Node
on_implied its.System = to.Others
on_implied (its.Block b) = to.Into b

-- where a signal is on the first implied channel from the source, if that is in this scope
abbrev pub on_first : scope.Scope → Source → Option node.Node
on_first its.System source = Some to.First
on_first (its.Block b) source = node_if (same_scope (its.Block b) source.scope) to.Source

abbrev pub option_if : Bool → Option node.Node → Option node.Node
option_if true n = n
option_if false n = None

abbrev pub ProcessSteps : Network → Source → ℕ → Process → ℕ → Step → Type 0
ProcessSteps network source q process from step =
    Link (node_if (is_implied network process.scope) (on_implied process.scope)) (Some (to.Process (record { 0 = q }))) (Some process.named) from step
    ⊎ Link (option_if (is_implied network process.scope && not (same_end (at.Process (record { 0 = q })) source.end)) (on_first process.scope source))
    (Some (to.Process (record { 0 = q }))) (Some process.named) from step

-- on which implied channels of the system a signal comes from this block
abbrev pub from_block : BlockId → Source → node.Node
from_block b source = if same_scope (its.Block b) source.scope then to.First else to.Others

abbrev pub BlockSteps : Bool → Source → ℕ → ℕ → Step → Type 0
BlockSteps implied source b from step =
    Link (node_if implied (to.OutOf (record { 0 = b }))) (Some (from_block (record { 0 = b }) source)) None from step
    ⊎ (Link (node_if implied to.Others) (Some (to.Into (record { 0 = b }))) None from step
    ⊎ Link (node_if (implied && not (same_scope (its.Block (record { 0 = b })) source.scope)) to.First) (Some (to.Into (record { 0 = b }))) None from step)

-- where the source's first implied channels begin beside those to processes
abbrev pub first_of : scope.Scope → node.Node
first_of its.System = to.First
first_of (its.Block b) = to.OutOf b

abbrev pub ScopeSteps : Network → Source → ℕ → Step → Type 0
ScopeSteps network source from step =
    Link (node_if (is_implied network source.scope) to.Source) (Some (first_of source.scope)) None from step
    ⊎ (Link (node_if network.is_implied to.Others) (Some to.Env) None from step
    ⊎ Link (node_if (network.is_implied && not (same_end source.end at.Env)) to.First) (Some to.Env) None from step)

-- all of them; for each path a flag says whether a connect names it
abbrev pub AllSteps : Network → List Bool → Source → ℕ → Step → Type 0
AllSteps network named source from step =
    ForSome network.paths.items (λ n path. PathSteps source (get_or named n false) n path from step)
    ⊎ (ForSome network.connects.items (λ k connect. ConnectSteps network.paths.items k connect from step)
    ⊎ (ForSome network.processes.items (λ q process. ProcessSteps network source q process from step)
    ⊎ (ForSome network.blocks.items (λ b block. BlockSteps network.is_implied source b from step)
    ⊎ ScopeSteps network source from step)))
