-- The translated graph as the code makes it, node by node from the last to the first.
use Rattle.std.proofs.Common.{◌≡◌, ◌+◌, ◌≤◌, ℕ, suc, false, List, ◌∷◌, drop, length, Some, sym, ap, ◌∙◌, subst, arith, add-one, drop-cons}
use Rattle.std.specs.Prelude.{slice_get}
use Rattle.std.proofs.lemmas.List.{drop_all}
use Rattle.std.proofs.lemmas.Option.{get_or_from_slice_get, slice_get_within}
use Rattle.oe_dims.specs.declared.dims.DimsRow.{DimsRow}
use Rattle.oe_graph.specs.Printed.{node_count}
use Rattle.oe_graph.specs.Read.{IsFault, IsFaultless}
use Rattle.oe_graph.specs.References.{each_node}
use Rattle.oe_graph.specs.Tree.{Nodes, PlainGraph, PlainNode, no_nodes}
use Rattle.oe_graph.specs.declared.code.Code.{Code}
use Rattle.oe_graph.specs.declared.fault.Fault.{Fault}
use Rattle.oe_graph.specs.declared.fault.Refusal.{Refusal}
use Rattle.oe_graph.specs.declared.fault.Refusal.TheVariants as refusal
use Rattle.oe_expr.specs.Nodes.{result_id}
use Rattle.oe_calls.specs.Rounds.{index_of}
use Rattle.oe_graph.proofs.SearchLemmas.{each_count}
use Rattle.oe_translate.specs.Translated.{has_either, put_translated, translated, translated_nodes, translations}
use Rattle.oe_translate.proofs.TranslationLemmas.{none_left}

-- where no fault stands none is refused
pub no_refusal : (Stands : Code → List ℕ → Type 0) (r : Refusal) (fault : Fault) → IsFaultless Stands → r ≡ refusal.Fault fault
    → IsFault Stands r → ⊥
no_refusal Stands r fault none is refused =
    let least = subst (IsFault Stands) is refused in none fault.code fault.node least.stands

module _ (rows : List DimsRow) (all : Nodes) where
  -- before the last node nothing is put
  pub none_yet : (index : ℕ) → index ≡ node_count all → no_nodes ≡ translations rows all (drop index (each_node all))
  none_yet index is =
      let long : length (each_node all) ≤ index = let count = each_count all in omega (arith, is, count) in
      sym (ap (translations rows all) (drop_all index (each_node all) long))

  -- one node more
  pub one_more : (index next : ℕ) (n : PlainNode) (found new : Nodes) → next ≡ index + 1 → slice_get (each_node all) index ≡ Some n
      → found ≡ translations rows all (drop next (each_node all)) → new ≡ put_translated rows all n found
      → new ≡ translations rows all (drop index (each_node all))
  one_more index next n found new follows at before put =
      let parts : drop index (each_node all) ≡ n ∷ drop (index + 1) (each_node all) =
      drop-cons (each_node all) index n (slice_get_within (each_node all) index n at)
      ∙ (ap (λ x. x ∷ drop (suc index) (each_node all)) (get_or_from_slice_get (each_node all) index n n at)
      ∙ ap (λ k. n ∷ drop k (each_node all)) (sym (add-one index))) in
      put
      ∙ (ap (put_translated rows all n) (before ∙ ap (λ k. translations rows all (drop k (each_node all))) follows)
      ∙ sym (ap (translations rows all) parts))

-- a graph of these nodes with this result is the translated one
pub whole : (rows : List DimsRow) (g : PlainGraph) (nodes : Nodes) (result : ℕ) (id : List ℕ) → nodes ≡ translated_nodes rows g.nodes
    → id ≡ result_id g → result ≡ index_of id nodes → record { nodes = nodes; result = result } ≡ translated rows g
whole rows g nodes result id is named at =
    ap (λ k. record { nodes = nodes; result = k }) (at ∙ ap (λ x. index_of x nodes) named)
    ∙ ap (λ (ns : Nodes). record { nodes = ns; result = index_of (result_id g) ns }) is

-- it has neither process
pub neither : (rows : List DimsRow) (g made : PlainGraph) → made ≡ translated rows g → has_either made ≡ false
neither rows g made is = ap has_either is ∙ none_left rows g.nodes (each_node g.nodes)
