-- Nodes that are made up to read one argument.
use Rattle.std.specs.Prelude.{ℕ, List, [], None, codes}
use Rattle.oe_graph.specs.Tree.{Argument, from_node, Named, no_named, named, PlainNode}

-- these arguments and one behind them
abbrev pub with_argument : Named → List ℕ → Argument → Named
with_argument no_named name a = named name a no_named
with_argument (named other b rest) name a = named other b (with_argument rest name a)

-- the arguments of a process on one cube, some node as `data`
abbrev pub on_cube : List ℕ → Argument → Named
on_cube name a = named (codes "data") (from_node []) (named name a no_named)

-- a node of a process with these arguments
abbrev pub node_with : List ℕ → Named → PlainNode
node_with process arguments = record { id = []; process_id = process; namespace = None; arguments = arguments }
