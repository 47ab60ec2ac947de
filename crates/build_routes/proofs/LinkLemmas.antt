-- Steps between nodes.
use Rattle.std.proofs.Common.{◌≡◌, ℕ, Bool, List, Option, Some, slice_get, ap, ◌∙◌, subst, refl}
use Rattle.build_routes.specs.Graph.{Adds}
use Rattle.build_routes.specs.Steps.{AtPath, JointSteps, Link, node_if, option_if}
use Rattle.build_routes.specs.declared.network.graph.Row.{Row}
use Rattle.build_routes.specs.declared.graph.joint.Side as side
use Rattle.build_routes.specs.declared.network.list.ListId.{ListId}
use Rattle.sdl_system.specs.declared.id.BlockId.{BlockId}
use Rattle.build_routes.specs.declared.network.joined.ChannelPath.{ChannelPath}
use Rattle.build_routes.specs.declared.network.joined.PathId.{PathId}
use Rattle.build_routes.specs.declared.graph.node.Node as node
use Rattle.build_routes.proofs.AddLemmas.{adds_same}
use Rattle.build_routes.proofs.EachLemmas.{same_element}

pub link_with : (o p : Option node.Node) (from to : Option node.Node) (only : Option ListId) (a b : List Row) → Adds (Link o p only) a b
    → o ≡ from → p ≡ to → Adds (Link from to only) a b
link_with o p from to only a b adds e f = subst (λ x. Adds (Link from x only) a b) f (subst (λ x. Adds (Link x p only) a b) e adds)

pub node_if_same : (a b : Bool) (m n : node.Node) → a ≡ b → m ≡ n → node_if a m ≡ node_if b n
node_if_same a b m n e f = ap (λ x. node_if x m) e ∙ ap (λ x. node_if b x) f

pub option_if_same : (a b : Bool) (m n : Option node.Node) → a ≡ b → m ≡ n → option_if a m ≡ option_if b n
option_if_same a b m n e f = ap (λ x. option_if x m) e ∙ ap (λ x. option_if b x) f

pub at_path : (paths : List ChannelPath) (side : side.Side) (k : ℕ) (block : BlockId) (id : PathId) (path : ChannelPath) (a b : List Row)
    → slice_get paths id.0 ≡ Some path → Adds (JointSteps side k block id path) a b → Adds (AtPath paths side k block id) a b
at_path paths side k block id path a b here adds =
    adds_same (JointSteps side k block id path) (AtPath paths side k block id) a b adds
    (λ n step at. subst (λ x. JointSteps side k block id x n step) (same_element paths id.0 id.0 at.0 path here at.1 refl) at.2)
    (λ n step is. (path, here, is))
