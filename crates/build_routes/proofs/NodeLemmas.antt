-- Each node has a number of its own.
use Rattle.std.proofs.Common.{◌≡◌, ℕ, zero, suc, ◌≤◌, ◌+◌, ◌*◌, ◌/◌, ◌%◌, ap, ◌∙◌, sym, arith, refl}
use Rattle.build_routes.specs.Nodes.{number}
use Rattle.build_routes.specs.declared.graph.node.Node as node
use Rattle.build_routes.specs.declared.graph.node.Node.TheVariants as to

special : ℕ → node.Node
special zero = to.Source
special (suc zero) = to.Env
special (suc (suc zero)) = to.First
special (suc (suc (suc n))) = to.Others

decoded : ℕ → ℕ → node.Node
decoded zero n = special n
decoded (suc zero) n = to.Path (record { 0 = n })
decoded (suc (suc zero)) n = to.Into (record { 0 = n })
decoded (suc (suc (suc zero))) n = to.OutOf (record { 0 = n })
decoded (suc (suc (suc (suc zero)))) n = to.IntoBy n
decoded (suc (suc (suc (suc (suc zero))))) n = to.OutBy n
decoded (suc (suc (suc (suc (suc (suc kind)))))) n = to.Process (record { 0 = n })

node_of : ℕ → node.Node
node_of x = decoded (x % 8) (x / 8)

parts : (x kind n : ℕ) → x % 8 ≡ kind → x / 8 ≡ n → node_of x ≡ decoded kind n
unfolding node_of
parts x kind n e f = ap (λ k. decoded k (x / 8)) e ∙ ap (λ i. decoded kind i) f

kind_of : (n k : ℕ) → k ≤ 7 → (8 * n + k) % 8 ≡ k
kind_of n k small = omega arith

index_of : (n k : ℕ) → k ≤ 7 → (8 * n + k) / 8 ≡ n
index_of n k small = omega arith

node_of-number : (m : node.Node) → node_of (number m) ≡ m
unfolding node_of decoded special
node_of-number to.Source = refl
node_of-number to.Env = refl
node_of-number to.First = refl
node_of-number to.Others = refl
node_of-number (to.Path path) = parts _ 1 path.0 (kind_of path.0 1 (omega arith)) (index_of path.0 1 (omega arith))
node_of-number (to.Into block) = parts _ 2 block.0 (kind_of block.0 2 (omega arith)) (index_of block.0 2 (omega arith))
node_of-number (to.OutOf block) = parts _ 3 block.0 (kind_of block.0 3 (omega arith)) (index_of block.0 3 (omega arith))
node_of-number (to.IntoBy connect) = parts _ 4 connect (kind_of connect 4 (omega arith)) (index_of connect 4 (omega arith))
node_of-number (to.OutBy connect) = parts _ 5 connect (kind_of connect 5 (omega arith)) (index_of connect 5 (omega arith))
node_of-number (to.Process process) = parts _ 6 process.0 (kind_of process.0 6 (omega arith)) (index_of process.0 6 (omega arith))

pub number-same : (m n : node.Node) → number m ≡ number n → m ≡ n
number-same m n same = sym (node_of-number m) ∙ ap node_of same ∙ node_of-number n
