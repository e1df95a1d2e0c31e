-- The plain value of a graph: a family of mutual types, in which no allocator and no capacity shows. `text` has the
-- bytes of a text, and each list of members stands in the order that the code has.
use Rattle.std.specs.Prelude.{ℕ, ℤ, Bool, List, [], ◌∷◌, Option}

mutual
  -- an argument of a node, or a value inside one
  pub data Argument : Type 0 where
    null : Argument
    flag : Bool → Argument
    whole : ℤ → Argument
    inexact : Argument
    text : List ℕ → Argument
    list : ListValues → Argument
    object : Named → Argument
    from_node : List ℕ → Argument
    from_parameter : List ℕ → Argument
    -- the nodes of a callback, and the index of its result node
    callback : Nodes → ℕ → Argument

  -- the values of a list
  pub data ListValues : Type 0 where
    no_arguments : ListValues
    argument : Argument → ListValues → ListValues

  -- the arguments of a node, or the members of an object, by name
  pub data Named : Type 0 where
    no_named : Named
    named : List ℕ → Argument → Named → Named

  -- the nodes of a graph object: id, process, namespace and arguments of each
  pub data Nodes : Type 0 where
    no_nodes : Nodes
    node : List ℕ → List ℕ → Option (List ℕ) → Named → Nodes → Nodes

-- a graph: its nodes, and the index of its result node
pub record PlainGraph : Type 0 where
  pub nodes : Nodes
  pub result : ℕ

-- one node
pub record PlainNode : Type 0 where
  pub id : List ℕ
  pub process_id : List ℕ
  pub namespace : Option (List ℕ)
  pub arguments : Named

-- a parameter of a process: whether it is optional, and its default
pub record PlainParameter : Type 0 where
  pub name : List ℕ
  pub optional : Bool
  pub default : Option Argument

-- a process of the catalogue, and one that a user has stored
pub record PlainProcess : Type 0 where
  pub id : List ℕ
  pub parameters : List PlainParameter
  pub in_callback : Bool

pub record PlainStored : Type 0 where
  pub id : List ℕ
  pub parameters : List PlainParameter
  pub graph : PlainGraph
  pub text : List ℕ

-- lists as members of the family
abbrev pub values_from_list : List Argument → ListValues
values_from_list [] = no_arguments
values_from_list (a ∷ rest) = argument a (values_from_list rest)

abbrev pub named_from_list : List (List ℕ × Argument) → Named
named_from_list [] = no_named
named_from_list (m ∷ rest) = named m.0 m.1 (named_from_list rest)

abbrev pub nodes_from_list : List PlainNode → Nodes
nodes_from_list [] = no_nodes
nodes_from_list (n ∷ rest) = node n.id n.process_id n.namespace n.arguments (nodes_from_list rest)
