-- What is written for a graph: no float, and one more member or node.
use Rattle.std.proofs.Common.{◌≡◌, ℕ, ℤ, pos, negsuc, suc, ◌+◌, ◌==◌, List, [], ◌∷◌, ◌++◌, Bool, true, false, Option, Some, None, map, length, refl, ap, ◌∙◌, arith}
use Rattle.std.proofs.lemmas.Bool.{or_parts, or_from}
use Rattle.std.specs.Ordering.{nat_cmp, match_ordering}
use Rattle.std.specs.Cmp.Lexicographic.{slice_cmp}
use Rattle.std.proofs.Common.{Ordering, Less, Equal, Greater}
use Rattle.serde_json.specs.Data.{Data, Members, no_members, member, item, number, put}
use Rattle.serde_json.specs.Find.{of_integer}
use Rattle.serde_json.specs.View.{items_of}
use Rattle.serde_json.specs.Written.{has_float, items_have_float, members_have_float}
use Rattle.oe_graph.specs.Tree as tree
use Rattle.oe_graph.specs.Tree.{Argument, ListValues, Named, Nodes, PlainNode}
use Rattle.oe_graph.specs.Plain.{plain_arg, plain_args, plain_named, plain_nodes, plain_node}
use Rattle.oe_graph.specs.Printed.{argument_data, arguments_data, named_data, nodes_data, node_data}
use Rattle.oe_graph.specs.declared.tree.Arg.{Arg}
use Rattle.oe_graph.specs.declared.tree.Node.{Node}

-- ---- one more member

pub arguments_each : (args : List Arg) → items_of (map (λ a. argument_data (plain_arg a)) args) ≡ arguments_data (plain_args args)
arguments_each [] = refl
arguments_each (a ∷ rest) = ap (item (argument_data (plain_arg a))) (arguments_each rest)

pub named_last : (xs : List (List ℕ × Arg)) (x : List ℕ × Arg) (found : Members)
    → named_data (plain_named (xs ++ x ∷ [])) found ≡ put x.0 (argument_data (plain_arg x.1)) (named_data (plain_named xs) found)
named_last [] x found = refl
named_last (y ∷ xs) x found = named_last xs x (put y.0 (argument_data (plain_arg y.1)) found)

-- a node among others
abbrev pub one_node : Bool → PlainNode → Data
one_node is_result n = node_data (named_data n.arguments no_members) n.namespace n.process_id is_result

pub nodes_last : (xs : List Node) (x : Node) (index result : ℕ) (found : Members)
    → nodes_data index result (plain_nodes (xs ++ x ∷ [])) found
    ≡ put (plain_node x).id (one_node (index + length xs == result) (plain_node x)) (nodes_data index result (plain_nodes xs) found)
nodes_last [] x index result found =
    ap (λ i. put (plain_node x).id (one_node (i == result) (plain_node x)) found) (let e : index ≡ index + 0 = omega arith in e)
nodes_last (y ∷ xs) x index result found =
    nodes_last xs x (suc index) result (put (plain_node y).id (one_node (index == result) (plain_node y)) found)
    ∙ ap (λ i. put (plain_node x).id (one_node (i == result) (plain_node x))
    (nodes_data (suc index) result (plain_nodes xs) (put (plain_node y).id (one_node (index == result) (plain_node y)) found)))
    (let e : suc index + length xs ≡ index + suc (length xs) = omega arith in e)

-- ---- no float

no_float_at : (o : Ordering) (a b c : Members) → members_have_float a ≡ false → members_have_float b ≡ false
    → members_have_float c ≡ false → members_have_float (match_ordering o a b c) ≡ false
no_float_at Less a b c p q r = p
no_float_at Equal a b c p q r = q
no_float_at Greater a b c p q r = r

put_no_float : (k : List ℕ) (d : Data) (ms : Members) → has_float d ≡ false → members_have_float ms ≡ false
    → members_have_float (put k d ms) ≡ false
put_no_float k d no_members p q = or_from (has_float d) false p refl
put_no_float k d (member l e ms) p q =
    let parts = or_parts (has_float e) (members_have_float ms) q in
    no_float_at (slice_cmp nat_cmp k l) _ _ _ (or_from _ _ p q) (or_from _ _ p parts.1) (or_from _ _ parts.0 (put_no_float k d ms p parts.1))

whole_no_float : (z : ℤ) → has_float (number (of_integer z)) ≡ false
whole_no_float (pos n) = refl
whole_no_float (negsuc n) = refl

node_no_float : (arguments : Members) (namespace : Option (List ℕ)) (process_id : List ℕ) (is_result : Bool)
    → members_have_float arguments ≡ false → has_float (node_data arguments namespace process_id is_result) ≡ false
node_no_float arguments None process_id true h = or_from _ _ h refl
node_no_float arguments None process_id false h = or_from _ _ h refl
node_no_float arguments (Some s) process_id true h = or_from _ _ h refl
node_no_float arguments (Some s) process_id false h = or_from _ _ h refl

mutual
  pub argument_no_float : (a : Argument) → has_float (argument_data a) ≡ false
  argument_no_float tree.null = refl
  argument_no_float (tree.flag b) = refl
  argument_no_float (tree.whole z) = whole_no_float z
  argument_no_float tree.inexact = refl
  argument_no_float (tree.text s) = refl
  argument_no_float (tree.list rest) = arguments_no_float rest
  argument_no_float (tree.object ms) = named_no_float ms no_members refl
  argument_no_float (tree.from_node id) = refl
  argument_no_float (tree.from_parameter name) = refl
  argument_no_float (tree.callback ns result) = or_from _ _ (nodes_no_float 0 result ns no_members refl) refl

  arguments_no_float : (args : ListValues) → items_have_float (arguments_data args) ≡ false
  arguments_no_float tree.no_arguments = refl
  arguments_no_float (tree.argument a rest) = or_from _ _ (argument_no_float a) (arguments_no_float rest)

  named_no_float : (ms : Named) (found : Members) → members_have_float found ≡ false → members_have_float (named_data ms found) ≡ false
  named_no_float tree.no_named found h = h
  named_no_float (tree.named name a rest) found h =
      named_no_float rest (put name (argument_data a) found) (put_no_float name (argument_data a) found (argument_no_float a) h)

  nodes_no_float : (index result : ℕ) (ns : Nodes) (found : Members) → members_have_float found ≡ false
      → members_have_float (nodes_data index result ns found) ≡ false
  nodes_no_float index result tree.no_nodes found h = h
  nodes_no_float index result (tree.node id process_id namespace arguments rest) found h =
      nodes_no_float (suc index) result rest _
      (put_no_float id (node_data (named_data arguments no_members) namespace process_id (index == result)) found
      (node_no_float (named_data arguments no_members) namespace process_id (index == result) (named_no_float arguments no_members refl)) h)
