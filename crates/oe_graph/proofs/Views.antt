-- A value's entries beside the trees that they are.
use Rattle.std.proofs.Common.{◌≡◌, ℕ, Bool, List, [], ◌∷◌, ◌++◌, map, length, slice_get, String, Global, string_bytes, refl, sym, ap, ◌∙◌, Some, None, arith}
use Rattle.std.proofs.lemmas.List.{map-append}
use Rattle.serde_json.specs.View.{view, items_view, members_view}
use Rattle.serde_json.specs.declared.value.Value.{Value}
use Rattle.serde_json.proofs.Views.{Entry}
use Rattle.oe_graph.specs.Tree.{Argument, argument, named, callback, node, values_from_list, named_from_list, nodes_from_list, PlainGraph, PlainNode}
use Rattle.oe_graph.specs.Plain.{plain_arg, plain_pair, plain_node, plain_named, plain_graph, arg_step, graph_step, node_step}
use Rattle.oe_graph.specs.declared.tree.Arg.{Arg}
use Rattle.oe_graph.specs.declared.tree.Arg.TheFolds.{fold-roll-Arg}
use Rattle.oe_graph.specs.declared.tree.Arg.TheOpen.{Arg-F}
use Rattle.oe_graph.specs.declared.tree.Arg.TheVariants.{Callback, rolls-Callback}
use Rattle.oe_graph.specs.declared.tree.Graph.{Graph}
use Rattle.oe_graph.specs.declared.tree.Node.{Node}
use Rattle.oe_graph.specs.Built as built
use Rattle.oe_graph.specs.Built.{value_of, values_of, members_of, the_member, argument_of, each_argument}
use Rattle.oe_graph.proofs.PartLemmas.{node_parts}

-- a member of an object, under what is made of its value
abbrev pub entry_pair : (Value → Argument) → Entry → List ℕ × Argument
entry_pair f e = (string_bytes e.0, f (e.1))

pub values_each : (plain : Bool) (vs : List Value)
    → values_from_list (map (λ v. value_of plain (view v)) vs) ≡ values_of plain (items_view vs)
values_each plain [] = refl
values_each plain (v ∷ vs) = ap (argument (value_of plain (view v))) (values_each plain vs)

pub members_each : (plain : Bool) (es : List Entry)
    → named_from_list (map (entry_pair (λ v. value_of plain (view v))) es) ≡ members_of plain (members_view es)
members_each plain [] = refl
members_each plain (e ∷ es) = ap (named (string_bytes e.0) (value_of plain (view e.1))) (members_each plain es)

pub arguments_each : (es : List Entry)
    → named_from_list (map (entry_pair (λ v. argument_of (view v))) es) ≡ each_argument (members_view es)
arguments_each [] = refl
arguments_each (e ∷ es) = ap (named (string_bytes e.0) (argument_of (view e.1))) (arguments_each es)

-- a node, as its member makes it
abbrev pub entry_node : Entry → PlainNode
entry_node e = record {
  id = string_bytes e.0;
  process_id = built.process_id_of (view e.1);
  namespace = built.namespace_of (view e.1);
  arguments = built.arguments_from_data (view e.1);
}

pub nodes_each : (es : List Entry) → nodes_from_list (map entry_node es) ≡ built.nodes_from_data (members_view es)
nodes_each [] = refl
nodes_each (e ∷ es) =
    ap (node (string_bytes e.0) (built.process_id_of (view e.1)) (built.namespace_of (view e.1)) (built.arguments_from_data (view e.1)))
    (nodes_each es)

pub not_only : (es : List Entry) → (length es ≡ 1 → ⊥) → None ≡ the_member (members_view es)
not_only [] other = refl
not_only (e ∷ []) other = absurd (other refl)
not_only (e ∷ f ∷ es) other = refl

pub is_only : (es : List Entry) (key : String Global) (value : Value) (name : List ℕ)
    → length es ≡ 1 → slice_get es 0 ≡ Some (key, value) → name ≡ string_bytes key
    → Some (name, view value) ≡ the_member (members_view es)
is_only [] key value name one first same = absurd (omega arith)
is_only (e ∷ []) key value name one first same =
    let is : e ≡ (key, value) = cc in
    let k : e.0 ≡ key = ap (λ (p : Entry). p.0) is in
    let v : e.1 ≡ value = ap (λ (p : Entry). p.1) is in
    rw (same, ← k, ← v) refl
is_only (e ∷ f ∷ es) key value name one first same = absurd (omega arith)

-- one more member of an object
pub one_more : (f : Value → Argument) (args : List (List ℕ × Arg)) (done : List Entry) (n : List ℕ) (a : Arg) (e : Entry)
    → map plain_pair args ≡ map (entry_pair f) done
    → n ≡ string_bytes e.0 → plain_arg a ≡ f (e.1)
    → map plain_pair (args ++ (n, a) ∷ []) ≡ map (entry_pair f) (done ++ e ∷ [])
one_more f args done n a e before name value =
    rw (map-append plain_pair args ((n, a) ∷ []), map-append (entry_pair f) done (e ∷ []), before, name, value) refl

pub plain_callback : (g : Graph) → plain_arg (Callback g) ≡ callback (plain_graph g).nodes (plain_graph g).result
plain_callback g =
    ap plain_arg (sym (rolls-Callback g)) ∙ fold-roll-Arg Argument PlainGraph PlainNode arg_step graph_step node_step (Arg-F.Callback g)

-- a node is the one that its member makes, part by part
pub is_entry_node : (n : Node) (e : Entry) → n.id ≡ string_bytes e.0
    → n.process_id ≡ built.process_id_of (view e.1) → n.namespace ≡ built.namespace_of (view e.1)
    → plain_named n.arguments.items ≡ built.arguments_from_data (view e.1)
    → plain_node n ≡ entry_node e
is_entry_node n e id process namespace arguments =
    node_parts n ∙ (ap (λ i. record { id = i; process_id = n.process_id; namespace = n.namespace; arguments = plain_named n.arguments.items }) id
    ∙ (ap (λ p. record { id = string_bytes e.0; process_id = p; namespace = n.namespace; arguments = plain_named n.arguments.items }) process
    ∙ (ap (λ ns. record { id = string_bytes e.0; process_id = built.process_id_of (view e.1); namespace = ns; arguments = plain_named n.arguments.items }) namespace
    ∙ ap (λ args. record { id = string_bytes e.0; process_id = built.process_id_of (view e.1); namespace = built.namespace_of (view e.1); arguments = args }) arguments)))

pub one_more_node : (nodes : List Node) (done : List Entry) (n : Node) (e : Entry)
    → map plain_node nodes ≡ map entry_node done → plain_node n ≡ entry_node e
    → map plain_node (nodes ++ n ∷ []) ≡ map entry_node (done ++ e ∷ [])
one_more_node nodes done n e before is =
    rw (map-append plain_node nodes (n ∷ []), map-append entry_node done (e ∷ []), before, is) refl
