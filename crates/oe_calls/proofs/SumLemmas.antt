-- Running sums among the nodes of callbacks, member by member.
use Rattle.std.proofs.Common.{◌≡◌, ℕ, ◌+◌, ◌<◌, ◌&&◌, Bool, true, false, not, if◌then◌else◌, List, length, get_or, drop, refl, ap, ◌∙◌}
use Rattle.std.specs.List.{list_all}
use Rattle.std.proofs.lemmas.List.Folds.{list_all-append}
use Rattle.oe_graph.specs.Plain.{plain_arg, plain_args, plain_named, plain_node, plain_nodes}
use Rattle.oe_graph.specs.References.{callbacks_in, callbacks_each, callbacks_named}
use Rattle.oe_graph.specs.Tree.{PlainGraph, PlainStored}
use Rattle.oe_graph.specs.declared.tree.Arg.{Arg}
use Rattle.oe_graph.specs.declared.tree.Arg.TheVariants.{Callback}
use Rattle.oe_graph.specs.declared.tree.Graph.{Graph, out-Graph}
use Rattle.oe_graph.specs.declared.tree.Node.{Node}
use Rattle.oe_calls.specs.Calls.{fits_callback, is_running_sum}
use Rattle.oe_calls.proofs.NodeLemmas.{callback_is}
use Rattle.oe_calls.proofs.Tests.{at_next}

module _ (fits : PlainGraph → Bool) where
  pub named_next : (ms : List (List ℕ × Arg)) (i : ℕ) (m : List ℕ × Arg) → i < length ms → m ≡ get_or ms i m
      → list_all fits (callbacks_named (plain_named (drop i ms)))
      ≡ (list_all fits (callbacks_in (plain_arg m.1)) && list_all fits (callbacks_named (plain_named (drop (i + 1) ms))))
  named_next ms i m more is =
      at_next (λ xs. list_all fits (callbacks_named (plain_named xs))) ms i m more is
      ∙ list_all-append fits (callbacks_in (plain_arg m.1)) (callbacks_named (plain_named (drop (i + 1) ms)))

  pub each_next : (xs : List Arg) (i : ℕ) (x : Arg) → i < length xs → x ≡ get_or xs i x
      → list_all fits (callbacks_each (plain_args (drop i xs)))
      ≡ (list_all fits (callbacks_in (plain_arg x)) && list_all fits (callbacks_each (plain_args (drop (i + 1) xs))))
  each_next xs i x more is =
      at_next (λ ys. list_all fits (callbacks_each (plain_args ys))) xs i x more is
      ∙ list_all-append fits (callbacks_in (plain_arg x)) (callbacks_each (plain_args (drop (i + 1) xs)))

-- ---- node by node

module _ (stored : List PlainStored) (of_dimension : Bool) where
  -- a graph of these nodes fits, whatever its result is
  abbrev pub fit : ℕ → List Node → Bool
  fit index ns = fits_callback stored of_dimension (record { nodes = plain_nodes ns; result = index })

  pub node_next : (index : ℕ) (ns : List Node) (i : ℕ) (n : Node) → i < length ns → n ≡ get_or ns i n
      → fit index (drop i ns)
      ≡ ((if of_dimension then is_running_sum stored (plain_node n) else not (is_running_sum stored (plain_node n))) && fit index (drop (i + 1) ns))
  node_next index ns i n more is = at_next (fit index) ns i n more is

and_true : (b : Bool) → (b && true) ≡ b
and_true true = refl
and_true false = refl

-- one callback
pub one_callback : (fits : PlainGraph → Bool) (a : Arg) (g : Graph) → a ≡ Callback g
    → list_all fits (callbacks_in (plain_arg a)) ≡ fits (record { nodes = plain_nodes (out-Graph g).nodes.items; result = (out-Graph g).result })
one_callback fits a g is =
    ap (λ x. list_all fits (callbacks_in x)) (callback_is a g is)
    ∙ and_true (fits (record { nodes = plain_nodes (out-Graph g).nodes.items; result = (out-Graph g).result }))
