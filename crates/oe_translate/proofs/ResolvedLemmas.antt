-- The translation of a graph without a fault is resolved.
use Rattle.std.proofs.Common.{◌≡◌, inl, inr, ℕ, ◌++◌, Bool, true, false, List, [], ◌∷◌, Some, Contains, refl, sym, ap, subst}
use Rattle.std.specs.Prelude.{codes}
use Rattle.std.specs.Option.{option_map_or}
use Rattle.std.proofs.lemmas.List.Elements.{Contains-append_cases}
use Rattle.oe_dims.specs.Names.{names_rise}
use Rattle.oe_dims.proofs.OrderLemmas.{same_name_is}
use Rattle.oe_graph.specs.Catalogue.{Process, process_named}
use Rattle.oe_graph.specs.Printed.{ids_of}
use Rattle.oe_graph.specs.References.{callbacks_each, callbacks_in, callbacks_named, each_node, parameters_each, parameters_in, parameters_named, references_named}
use Rattle.oe_graph.specs.Resolved.{IsResolved, IsResolvedNode, IsResolvedObject, IsResolvedUnder, scope_inside}
use Rattle.oe_graph.specs.Tree as tree
use Rattle.oe_graph.specs.Tree.{Argument, Nodes, PlainGraph, PlainNode}
use Rattle.oe_graph.proofs.ResolvedLemmas.{node_of_id, resolved_callback}
use Rattle.oe_expr.specs.Nodes.{result_id}
use Rattle.oe_expr.proofs.NodeLemmas.{contains_node, node_is}
use Rattle.oe_requests.specs.Parameters.{cube_in}
use Rattle.oe_calls.specs.Rounds.{index_of}
use Rattle.oe_calls.proofs.Along.{there_cases, none_there}
use Rattle.oe_calls.proofs.IdLemmas.{id_has}
use Rattle.oe_check.specs.Checked.{CheckedGraph, AreFaultless}
use Rattle.oe_check.specs.Walked.{IsNodeOf}
use Rattle.oe_check.proofs.LinkLemmas.{object}
use Rattle.oe_translate.specs.Laws.{HasFewNodes, HasRoomForSums}
use Rattle.oe_translate.specs.Translated.{ignores_at, is_of_periods, is_of_sums, labels_at, periods_at, translated}
use Rattle.oe_translate.specs.Written.{aggregated_node, given, growing_intervals, merged_node, sum_callback, sum_name, sums_node}
use Rattle.oe_translate.proofs.ArgumentLemmas.{in_given, of_aggregate, of_callbacks, of_parameters, of_periods}
use Rattle.oe_translate.proofs.CallbackLemmas.{merge_resolved, resolved_node, row_of, sum_resolved, within_resolved}
use Rattle.oe_translate.proofs.NameLemmas.{id_there, index_below, translations_rise}
use Rattle.oe_translate.proofs.PartLemmas as part
use Rattle.oe_translate.proofs.ReadLemmas.{read_given}
use Rattle.oe_translate.proofs.SumLemmas.{merge_graph, sum_graph}
use Rattle.oe_translate.proofs.TranslationLemmas.{Stems, after, after_acyclic, apart, merge_refers, one, one_named, one_of_other, one_of_periods, one_of_sums, periods_refer, stems, sums_named, sums_of, sums_refer}

-- a reference to a cube has no callbacks
no_callbacks : (a : Argument) (id : List ℕ) → cube_in a ≡ Some id → callbacks_in a ≡ []
no_callbacks tree.null id e = refl
no_callbacks (tree.flag b) id e = refl
no_callbacks (tree.whole z) id e = refl
no_callbacks tree.inexact id e = refl
no_callbacks (tree.text s) id e = refl
no_callbacks (tree.list rest) id e = absurd cc
no_callbacks (tree.object ms) id e = absurd cc
no_callbacks (tree.from_node name) id e = refl
no_callbacks (tree.from_parameter name) id e = refl
no_callbacks (tree.callback ns result) id e = absurd cc

module _ (c : CheckedGraph) (f : AreFaultless c) (room : HasRoomForSums c.nodes) where
  abbrev all : Nodes
  all = after c f room

  abbrev checked : PlainGraph
  checked = record { nodes = c.nodes; result = c.result }

  whole : IsResolvedObject false [] c.nodes f.resolved.result
  whole = object c.nodes f.resolved

  -- ---- ids

  id_kept : (n : PlainNode) → IsNodeOf c.nodes n → Contains (ids_of all) n.id
  id_kept n n_in =
      let there = node_is all n.id (one c.rows c.nodes n) (one_named c f room n n_in) in
      subst (Contains (ids_of all)) there.1 (id_has all (one c.rows c.nodes n) there.0)

  ids_kept : (id : List ℕ) → Contains (ids_of c.nodes) id → Contains (ids_of all) id
  ids_kept id has =
      let at = node_of_id c.nodes id has in
      subst (Contains (ids_of all)) at.is_named (id_kept at.node (contains_node c.nodes at.index at.node at.is_there))

  sum_kept : (n : PlainNode) → IsNodeOf c.nodes n → is_of_periods n ≡ false → is_of_sums n ≡ true → Contains (ids_of all) (sum_name n.id)
  sum_kept n n_in periods sums =
      let there = node_is all (sum_name n.id) (sums_of c.rows c.nodes n) (sums_named c f room n n_in periods sums) in
      id_has all (sums_of c.rows c.nodes n) there.0

  refers_kept : (n : PlainNode) → IsNodeOf c.nodes n → (id : List ℕ) → Contains (references_named n.arguments) id → Contains (ids_of all) id
  refers_kept n n_in id has = ids_kept id ((whole.each n n_in).names_nodes id has)

  -- ---- parameters, of which the main graph has none

  sees_none : (n : PlainNode) → IsNodeOf c.nodes n → (name : List ℕ) → Contains (parameters_named n.arguments) name → Contains [] name
  sees_none n n_in name has = (whole.each n n_in).names_parameters name has

  given_sees_none : (n : PlainNode) → IsNodeOf c.nodes n → (key name : List ℕ) → Contains (parameters_in (given key n.arguments)) name → Contains [] name
  given_sees_none n n_in key name has =
      sees_none n n_in name (in_given (List ℕ) parameters_in parameters_each parameters_named of_parameters name key n.arguments has)

  -- ---- each node

  periods_resolved : (n : PlainNode) → IsNodeOf c.nodes n → IsResolvedNode false [] (ids_of all) (aggregated_node (periods_at c.rows c.nodes n) n)
  periods_resolved n n_in =
      let intervals = periods_at c.rows c.nodes n in
      resolved_node false [] (ids_of all) (aggregated_node intervals n) (row_of (codes "aggregate_temporal")) refl refl refl refl refl
      (λ id has. refers_kept n n_in id (periods_refer intervals n id has))
      (λ name has. sees_none n n_in name (of_periods (List ℕ) parameters_in parameters_each parameters_named of_parameters name intervals n has))

  sums_resolved : (n : PlainNode) → IsNodeOf c.nodes n → IsResolvedNode false [] (ids_of all) (sums_of c.rows c.nodes n)
  sums_resolved n n_in =
      let ignore = ignores_at n in
      let labels = labels_at c.rows c.nodes n in
      resolved_node false [] (ids_of all) (sums_node ignore labels n) (row_of (codes "aggregate_temporal")) refl refl refl refl refl
      (λ id has. refers_kept n n_in id (sums_refer ignore labels n id has))
      (λ name has.
      of_aggregate (List ℕ) parameters_in parameters_each parameters_named of_parameters name
      tree.null (given (codes "data") n.arguments) tree.null (sum_callback ignore) (growing_intervals labels) (Contains [] name)
      (λ none. none) (given_sees_none n n_in (codes "data") name) (λ none. none) (λ none. none) has)

  merged_resolved : (n : PlainNode) → IsNodeOf c.nodes n → is_of_periods n ≡ false → is_of_sums n ≡ true
      → IsResolvedNode false [] (ids_of all) (merged_node n)
  merged_resolved n n_in periods sums =
      resolved_node false [] (ids_of all) (merged_node n) (row_of (codes "merge_cubes")) refl refl refl refl refl
      (λ id has. elim (merge_refers n id has) as (λ _. Contains (ids_of all) id) [
        | inl is ↦ subst (Contains (ids_of all)) is (sum_kept n n_in periods sums)
        | inr there ↦ refers_kept n n_in id there
      ])
      (λ name has. elim (Contains-append_cases (parameters_in (given (codes "data") n.arguments)) [] name has) as (λ _. Contains [] name) [
        | inl here ↦ given_sees_none n n_in (codes "data") name here
        | inr none ↦ none
      ])

  other_resolved : (n : PlainNode) → IsNodeOf c.nodes n → IsResolvedNode false [] (ids_of all) n
  other_resolved n n_in =
      let is = whole.each n n_in in
      record {
        names_rise = is.names_rise;
        process = is.process;
        is_process = is.is_process;
        stands = is.stands;
        has_each = is.has_each;
        has_no_other = is.has_no_other;
        names_nodes = refers_kept n n_in;
        names_parameters = is.names_parameters;
      }

  -- what holds of what each node becomes holds of all nodes
  pub of_all : (P : PlainNode → Type 0)
      → ((n : PlainNode) → IsNodeOf c.nodes n → is_of_periods n ≡ true → P (aggregated_node (periods_at c.rows c.nodes n) n))
      → ((n : PlainNode) → IsNodeOf c.nodes n → is_of_periods n ≡ false → is_of_sums n ≡ true → P (merged_node n))
      → ((n : PlainNode) → IsNodeOf c.nodes n → is_of_periods n ≡ false → is_of_sums n ≡ true → P (sums_of c.rows c.nodes n))
      → ((n : PlainNode) → IsNodeOf c.nodes n → is_of_periods n ≡ false → is_of_sums n ≡ false → P n)
      → (z : PlainNode) → IsNodeOf all z → P z
  of_all P of_period of_merge of_sum of_other z has = by (stems c.rows c.nodes (each_node c.nodes) z has)
    where
      one_by : (n : PlainNode) → IsNodeOf c.nodes n → (p : Bool) → is_of_periods n ≡ p → (s : Bool) → is_of_sums n ≡ s → P (one c.rows c.nodes n)
      one_by n n_in true e s g = subst P (sym (one_of_periods c.rows c.nodes n e)) (of_period n n_in e)
      one_by n n_in false e true g = subst P (sym (one_of_sums c.rows c.nodes n e g)) (of_merge n n_in e g)
      one_by n n_in false e false g = subst P (sym (one_of_other c.rows c.nodes n e g)) (of_other n n_in e g)

      by : Stems c.rows c.nodes (each_node c.nodes) z → P z
      by s = elim s.either as (λ _. P z) [
        | inl is ↦ subst P is (one_by s.node s.is_node (is_of_periods s.node) refl (is_of_sums s.node) refl)
        | inr sum ↦ subst P sum.2 (of_sum s.node s.is_node sum.0 sum.1)
      ]

  -- ---- callbacks

  abbrev HasResolvedCallbacks : PlainNode → Type 0
  HasResolvedCallbacks z = (g : PlainGraph) → Contains (callbacks_named z.arguments) g → IsResolvedUnder true (scope_inside z []) g

  before_resolved : (n : PlainNode) → IsNodeOf c.nodes n → HasResolvedCallbacks n
  before_resolved n n_in g has =
      resolved_callback false [] (record { nodes = c.nodes; result = f.resolved.result }) n g f.resolved.resolved n_in has

  periods_call : (n : PlainNode) → IsNodeOf c.nodes n → is_of_periods n ≡ true → HasResolvedCallbacks (aggregated_node (periods_at c.rows c.nodes n) n)
  periods_call n n_in is g has =
      let intervals = periods_at c.rows c.nodes n in
      let named : codes "aggregate_temporal_period" ≡ n.process_id = same_name_is n.process_id (codes "aggregate_temporal_period") is in
      let same : scope_inside n [] ≡ scope_inside (aggregated_node intervals n) [] =
      ap (λ id. option_map_or (λ (p : Process). p.callback_parameters) (process_named id) [] ++ []) (sym named) in
      subst (λ names. IsResolvedUnder true names g) same
      (before_resolved n n_in g (of_periods PlainGraph callbacks_in callbacks_each callbacks_named of_callbacks g intervals n has))

  -- the data of running sums have none
  none_in_data : (n : PlainNode) → IsNodeOf c.nodes n → is_of_sums n ≡ true → (g : PlainGraph) → Contains (callbacks_in (given (codes "data") n.arguments)) g → ⊥
  none_in_data n n_in is g has =
      let p = part.of_sums c f n n_in is in
      let none = no_callbacks (given (codes "data") n.arguments) p.cube (read_given cube_in (codes "data") n.arguments p.cube p.reads_cube) in
      none_there g (subst (λ gs. Contains gs g) none has)

  sums_call : (n : PlainNode) → IsNodeOf c.nodes n → is_of_sums n ≡ true → HasResolvedCallbacks (sums_of c.rows c.nodes n)
  sums_call n n_in is g has =
      let ignore = ignores_at n in
      let names : List (List ℕ) = scope_inside (sums_of c.rows c.nodes n) [] in
      of_aggregate PlainGraph callbacks_in callbacks_each callbacks_named of_callbacks g
      tree.null (given (codes "data") n.arguments) tree.null (sum_callback ignore) (growing_intervals (labels_at c.rows c.nodes n)) (IsResolvedUnder true names g)
      (λ none. absurd (none_there g none)) (λ data_has. absurd (none_in_data n n_in is g data_has)) (λ none. absurd (none_there g none))
      (λ here. elim (there_cases (sum_graph ignore) [] g here) as (λ _. IsResolvedUnder true names g) [
        | inl same ↦ subst (IsResolvedUnder true names) same (sum_resolved ignore names refl)
        | inr none ↦ absurd (none_there g none)
      ])
      has

  merge_call : (n : PlainNode) → IsNodeOf c.nodes n → is_of_sums n ≡ true → HasResolvedCallbacks (merged_node n)
  merge_call n n_in is g has =
      let names : List (List ℕ) = scope_inside (merged_node n) [] in
      elim (Contains-append_cases (callbacks_in (given (codes "data") n.arguments)) (merge_graph ∷ []) g has) as (λ _. IsResolvedUnder true names g) [
        | inl data_has ↦ absurd (none_in_data n n_in is g data_has)
        | inr here ↦ elim (there_cases merge_graph [] g here) as (λ _. IsResolvedUnder true names g) [
          | inl same ↦ subst (IsResolvedUnder true names) same (merge_resolved names refl refl)
          | inr none ↦ absurd (none_there g none)
        ]
      ]

  all_call : (z : PlainNode) → IsNodeOf all z → HasResolvedCallbacks z
  all_call =
      of_all HasResolvedCallbacks periods_call (λ n n_in periods sums. merge_call n n_in sums) (λ n n_in periods sums. sums_call n n_in sums)
      (λ n n_in periods sums. before_resolved n n_in)

  -- ---- the graph

  pub object_resolved : HasFewNodes c.rows c.nodes → IsResolvedObject false [] all (index_of (result_id checked) all)
  object_resolved few = record {
    ids_rise = translations_rise c.rows c.nodes c.nodes whole.ids_rise (λ m n m_in n_in sums. apart c f room m n m_in n_in sums);
    has_result = index_below (result_id checked) all (ids_kept (result_id checked) (id_there c.nodes c.result f.has_result));
    fits = few;
    each = of_all (IsResolvedNode false [] (ids_of all)) (λ n n_in periods. periods_resolved n n_in) merged_resolved
        (λ n n_in periods sums. sums_resolved n n_in) (λ n n_in periods sums. other_resolved n n_in);
    acyclic = after_acyclic c f room;
  }

  pub is_resolved : HasFewNodes c.rows c.nodes → IsResolved (translated c.rows checked)
  is_resolved few in_callback scope nodes result within =
      within_resolved in_callback scope nodes result false [] all (index_of (result_id checked) all) within (object_resolved few)
      (λ n g has calls. all_call n has g calls)
