-- As what the nodes of a type are written.
use Rattle.std.specs.Prelude.{Option, List, map, option_map}
use Rattle.sdl_tree.specs.Words.{Words}

pub record Form (S : Type 0) : Type 1 where
  -- the grammar's nodes of this kind, and which of them a node is
  pub Node : Type 0
  pub value : S → Node
  -- a node but for places and spellings
  pub erased : Node → Node
  -- the words of a node, before those that come after it
  pub words : Node → Words → Words

abbrev pub written_as : {S N : Type 0} → (S → N) → (N → N) → (N → Words → Words) → Form S
written_as {N = N} value erased words = record { Node = N; value = value; erased = erased; words = words }

-- the nodes that are written
abbrev pub node : {S : Type 0} (f : Form S) → S → f.Node
node f x = f.erased (f.value x)

abbrev pub nodes : {S : Type 0} (f : Form S) → List S → List f.Node
nodes f xs = map f.erased (map f.value xs)

abbrev pub some_node : {S : Type 0} (f : Form S) → Option S → Option f.Node
some_node f o = option_map f.erased (option_map f.value o)
