-- Worked values, found by hand: a graph that calls a stored process, which calls another.
use Rattle.std.specs.Prelude.{◌≡◌, ℕ, pos, true, false, List, [], ◌∷◌, Some, None, codes, refl}
use Rattle.oe_graph.specs.Printed.{node_count}
use Rattle.oe_graph.specs.Tree.{Argument, null, flag, text, whole, list, object, from_node, from_parameter, callback, argument, no_arguments, Named, no_named, named, Nodes, no_nodes, node, PlainGraph, PlainParameter, PlainStored}
use Rattle.oe_calls.specs.Substituted.{values_given, substituted_nodes}
use Rattle.oe_calls.specs.HasCall.{nodes_call}
use Rattle.oe_calls.specs.Rounds.{round, expanded_by}
use Rattle.oe_resolve.specs.Defaults.{graph_with_defaults}
use Rattle.oe_graph.specs.Valid.{is_valid}

abbrev pub one : List ℕ → Argument → Named
one name a = named name a no_named

-- a node of no namespace
abbrev pub plain_node : List ℕ → List ℕ → Named → Nodes → Nodes
plain_node id process_id arguments rest = node id process_id None arguments rest

abbrev pub needed : List ℕ → PlainParameter
needed name = record { name = name; optional = false; default = None }

abbrev pub add_to : List ℕ → Argument → Nodes
add_to id y = plain_node id (codes "add") (named (codes "x") (from_parameter (codes "x")) (one (codes "y") y)) no_nodes

-- filters the cube `data` and adds it, which no callback can, to each cell
abbrev pub inner : PlainStored
inner = record {
  id = codes "inner";
  parameters = needed (codes "data") ∷ [];
  graph = record {
    nodes =
        plain_node (codes "m") (codes "filter_bbox") (one (codes "data") (from_parameter (codes "data"))) (
        plain_node (codes "n") (codes "apply")
        (named (codes "data") (from_node (codes "m"))
        (one (codes "process") (callback (add_to (codes "k") (from_parameter (codes "data"))) 0)))
        no_nodes);
    result = 1;
  };
  text = [];
}

-- loads the collection `id` and calls `inner` on it
abbrev pub outer : PlainStored
outer = record {
  id = codes "outer";
  parameters = needed (codes "id") ∷ [];
  graph = record {
    nodes =
        plain_node (codes "a") (codes "load_collection") (one (codes "id") (from_parameter (codes "id"))) (
        plain_node (codes "b") (codes "inner") (one (codes "data") (from_node (codes "a"))) no_nodes);
    result = 1;
  };
  text = [];
}

-- a call, a node that reads it, and a node that reads a name which stands beside no node yet
abbrev pub main : PlainGraph
main = record {
  nodes =
      plain_node (codes "c") (codes "outer") (one (codes "id") (text (codes "S2"))) (
      plain_node (codes "c-d") (codes "save_result") (one (codes "data") (from_node (codes "c"))) (
      plain_node (codes "z") (codes "save_result") (one (codes "data") (from_node (codes "c/a"))) no_nodes));
  result = 0;
}

pub is_valid-main : is_valid (callback main.nodes main.result) ≡ true
is_valid-main = refl

-- after one round the call of `inner` stands beside the nodes; `-` is before `/`
pub expanded_by-main : expanded_by 1 (inner ∷ outer ∷ []) main ≡ record {
  nodes =
      plain_node (codes "c-d") (codes "save_result") (one (codes "data") (from_node (codes "c/b"))) (
      plain_node (codes "c/a") (codes "load_collection") (one (codes "id") (text (codes "S2"))) (
      plain_node (codes "c/b") (codes "inner") (one (codes "data") (from_node (codes "c/a"))) (
      plain_node (codes "z") (codes "save_result") (one (codes "data") (from_node [])) no_nodes)));
  result = 2;
}
expanded_by-main = refl

-- after two rounds no call is left; the result is that of `inner`, and what was carried into its callback refers to no node
abbrev pub main_expanded : PlainGraph
main_expanded = record {
  nodes =
      plain_node (codes "c-d") (codes "save_result") (one (codes "data") (from_node (codes "c/b/n"))) (
      plain_node (codes "c/a") (codes "load_collection") (one (codes "id") (text (codes "S2"))) (
      plain_node (codes "c/b/m") (codes "filter_bbox") (one (codes "data") (from_node (codes "c/a"))) (
      plain_node (codes "c/b/n") (codes "apply")
      (named (codes "data") (from_node (codes "c/b/m"))
      (one (codes "process") (callback (add_to (codes "k") (from_node [])) 0))) (
      plain_node (codes "z") (codes "save_result") (one (codes "data") (from_node [])) no_nodes))));
  result = 3;
}

pub expanded_by_two-main : expanded_by 2 (inner ∷ outer ∷ []) main ≡ main_expanded
expanded_by_two-main = refl

-- a round more changes nothing
pub round-main : round (inner ∷ outer ∷ []) main_expanded ≡ main_expanded
round-main = refl

pub node_count-main : node_count main_expanded.nodes ≡ 5
node_count-main = refl

-- a given argument, a default and a null: of an optional parameter without default, and none of one that is needed
pub values_given-each :
    values_given
    (needed (codes "a") ∷ record { name = codes "b"; optional = true; default = Some (whole (pos 7)) }
    ∷ record { name = codes "c"; optional = true; default = None } ∷ needed (codes "d") ∷ [])
    (one (codes "a") (flag true))
    ≡ named (codes "a") (flag true) (named (codes "b") (whole (pos 7)) (one (codes "c") null))
values_given-each = refl

-- at any depth, and once: the value of a parameter is not looked through again
pub substituted-deep :
    substituted_nodes [] (one (codes "v") (from_parameter (codes "v")))
    (plain_node (codes "n") (codes "mask")
    (one (codes "data") (list (argument (object (one (codes "e") (from_parameter (codes "v")))) no_arguments))) no_nodes)
    ≡ plain_node (codes "n") (codes "mask")
    (one (codes "data") (list (argument (object (one (codes "e") (from_parameter (codes "v")))) no_arguments))) no_nodes
substituted-deep = refl

-- in a callback of `apply` its own `x` hides a parameter x of the stored process, and `v` is seen
pub substituted-hidden :
    substituted_nodes [] (named (codes "x") (whole (pos 1)) (one (codes "v") (whole (pos 2))))
    (plain_node (codes "n") (codes "apply")
    (one (codes "process") (callback (add_to (codes "k") (from_parameter (codes "v"))) 0)) no_nodes)
    ≡ plain_node (codes "n") (codes "apply")
    (one (codes "process") (callback (add_to (codes "k") (whole (pos 2))) 0)) no_nodes
substituted-hidden = refl

-- a default is a plain value, and takes the index that its name has in byte order
pub graph_with_defaults-apply :
    graph_with_defaults (record {
      nodes = plain_node (codes "n") (codes "apply")
          (named (codes "data") (from_node (codes "a")) (one (codes "process") null)) no_nodes;
      result = 0;
    })
    ≡ record {
      nodes = plain_node (codes "n") (codes "apply")
          (named (codes "context") null (named (codes "data") (from_node (codes "a")) (one (codes "process") null))) no_nodes;
      result = 0;
    }
graph_with_defaults-apply = refl

-- ---- callbacks that are given to calls

-- applies the callback `f` to a cube
abbrev pub using : PlainStored
using = record {
  id = codes "p";
  parameters = needed (codes "f") ∷ [];
  graph = record {
    nodes = plain_node (codes "m") (codes "apply") (one (codes "process") (from_parameter (codes "f"))) no_nodes;
    result = 0;
  };
  text = [];
}

-- in a callback: the absolute value of `u`, which may hold a callback too
abbrev pub holding : PlainStored
holding = record {
  id = codes "r";
  parameters = needed (codes "u") ∷ [];
  graph = record {
    nodes = plain_node (codes "s") (codes "absolute") (one (codes "x") (from_parameter (codes "u"))) no_nodes;
    result = 0;
  };
  text = [];
}

-- a callback of one node that calls `r`
abbrev pub calling : List ℕ → Argument → Argument
calling id u = callback (plain_node id (codes "r") (one (codes "u") u) no_nodes) 0

abbrev pub given : PlainGraph
given = record {
  nodes = plain_node (codes "c") (codes "p") (one (codes "f") (calling (codes "k") (calling (codes "j") (whole (pos 1))))) no_nodes;
  result = 0;
}

-- after one round the callback stands in `apply`, and its own call is as it was written
pub expanded_by-given : expanded_by 1 (using ∷ holding ∷ []) given ≡ record {
  nodes = plain_node (codes "c/m") (codes "apply")
      (one (codes "process") (calling (codes "k") (calling (codes "j") (whole (pos 1))))) no_nodes;
  result = 0;
}
expanded_by-given = refl

-- two processes need three rounds
pub nodes_call-two : nodes_call (using ∷ holding ∷ []) (expanded_by 2 (using ∷ holding ∷ []) given).nodes ≡ true
nodes_call-two = refl

pub nodes_call-three : nodes_call (using ∷ holding ∷ []) (expanded_by 3 (using ∷ holding ∷ []) given).nodes ≡ false
nodes_call-three = refl
