-- Where the graph or a callback is too large after expansion, by what is counted.
use Rattle.std.proofs.Common.{◌≡◌, ℕ, ◌<◌, ◌≤◌, ◌⊎◌, inl, inr, Bool, true, false, List, [], Contains, length, nat_le, min, refl, sym, ap, ◌∙◌, subst, true≢false, arith}
use Rattle.std.proofs.lemmas.Bool.{leb-false, lt-leb}
use Rattle.oe_graph.specs.Codes.{phase_of}
use Rattle.oe_graph.specs.Printed.{node_count}
use Rattle.oe_graph.specs.References.{each_node}
use Rattle.oe_graph.specs.Tree.{PlainGraph, PlainNode, PlainStored}
use Rattle.oe_graph.specs.declared.code.Code.{Code}
use Rattle.oe_graph.specs.declared.code.Code.TheVariants.{GraphTooLarge}
use Rattle.oe_calls.specs.Calls as calls
use Rattle.oe_calls.specs.NodeCounts.{total, size_by, fit_nodes}
use Rattle.oe_calls.specs.Faults as faults
use Rattle.oe_calls.specs.Faults.{StandsWithStored}
use Rattle.oe_calls.specs.Reached.{index_at, IsReached}
use Rattle.oe_calls.specs.Rounds.{expanded_by}
use Rattle.oe_calls.proofs.Along.{none_there}
use Rattle.oe_calls.proofs.BringLemmas.{nodes_have, nodes_at, brings_more}
use Rattle.oe_calls.proofs.CallFaultLemmas.{callee_at, last_call}
use Rattle.oe_calls.proofs.CountLemmas.{expanded_count}
use Rattle.oe_calls.proofs.FitLemmas.{nodes_fit, nodes_large}

module _ (stored : List PlainStored) (g : PlainGraph) where
  abbrev pub size : PlainStored → ℕ
  size = size_by stored (length stored)

  too_many : (h : PlainGraph) → nat_le (total stored size h.nodes) 64 ≡ false → 64 < node_count (expanded_by (length stored) stored h).nodes
  too_many h larger = omega (arith, leb-false (total stored size h.nodes) 64 larger, expanded_count stored h)

  few_enough : (h : PlainGraph) → nat_le (total stored size h.nodes) 64 ≡ true → 64 < node_count (expanded_by (length stored) stored h).nodes → ⊥
  few_enough h fits more =
      let larger : 64 < total stored size h.nodes = omega (arith, more, expanded_count stored h) in
      true≢false (sym fits ∙ lt-leb (total stored size h.nodes) 64 larger)

  pub main_large : 256 < total stored size g.nodes → StandsWithStored stored g GraphTooLarge []
  main_large larger = faults.graph_too_large (omega (arith, larger, expanded_count stored g))

  pub written_large : fit_nodes stored size g.nodes ≡ false → StandsWithStored stored g GraphTooLarge []
  written_large fits_not =
      let t = nodes_large stored size false g.nodes fits_not in
      elim t.has [
        | inl there ↦ absurd (none_there t.written there)
        | inr h ↦
            let at = nodes_at stored false g.nodes h.holder h.is_held in
            faults.callback_too_large at.is_node at.brings h.is_there (too_many t.written t.fits_not)
      ]

  pub reached_large : (n : PlainNode) (k : ℕ) → Contains (each_node g.nodes) n → (r : IsReached stored n k)
      → fit_nodes stored size r.called.graph.nodes ≡ false → StandsWithStored stored g GraphTooLarge []
  reached_large n k is_node r fits_not =
      let t = nodes_large stored size r.in_callback r.called.graph.nodes fits_not in
      elim t.has [
        | inl there ↦ absurd (none_there t.written there)
        | inr h ↦
            let at = nodes_at stored r.in_callback r.called.graph.nodes h.holder h.is_held in
            faults.callback_too_large is_node (brings_more stored r.brings (calls.by_call r.calls at.is_node at.brings)) h.is_there
            (too_many t.written t.fits_not)
      ]

  module _ (main : total stored size g.nodes ≤ 256) (written : fit_nodes stored size g.nodes ≡ true)
      (reached : (n : PlainNode) (k : ℕ) → Contains (each_node g.nodes) n → (r : IsReached stored n k)
      → fit_nodes stored size r.called.graph.nodes ≡ true) where
    none_by : (code : Code) (at : List ℕ) → StandsWithStored stored g code at → phase_of code ≡ 3 → ⊥
    none_by code at (faults.process_unsupported has brings stands) phase = absurd (omega arith)
    none_by code at (faults.process_recursive has reach reaches) phase = absurd (omega arith)
    none_by code at (faults.graph_too_large more) phase = absurd (omega (arith, more, main, expanded_count stored g))
    none_by code at (faults.callback_too_large {n = n} {m = m} {in_callback = b} {written = h} has brings there more) phase =
        elim (last_call stored brings) [
          | inl held ↦ few_enough h
              (nodes_fit stored size false g.nodes (b, m) h written (nodes_have false g.nodes n (b, m) has held) there) more
          | inr c ↦
              let at_place = callee_at stored c.caller.1.namespace c.caller.1.process_id c.called c.calls in
              few_enough h
              (nodes_fit stored size c.caller.0 c.called.graph.nodes (b, m) h
              (reached n (index_at at_place.0 c.caller.0) has (record {
                in_callback = c.caller.0;
                caller = c.caller.1;
                brings = c.brings;
                called = c.called;
                calls = c.calls;
                has_index = record { place = at_place.0; is_there = at_place.1; is = refl };
              }))
              c.holds there) more
        ]
    none_by code at (faults.argument_unknown times h same there absent) phase = absurd (omega arith)
    none_by code at (faults.process_parameter_missing times h same there default optional absent) phase = absurd (omega arith)
    none_by code at (faults.parameter_unknown h there absent) phase = absurd (omega arith)
    none_by code at (faults.node_unknown times h there absent) phase = absurd (omega arith)
    none_by code at (faults.graph_cycle h leads) phase = absurd (omega arith)

    pub none_large : ¬ StandsWithStored stored g GraphTooLarge []
    none_large stands = none_by GraphTooLarge [] stands refl
