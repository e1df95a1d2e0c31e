-- A graph whose calls were replaced has no node of the name that an aggregation of running sums gets, and few nodes.
use Rattle.std.proofs.Common.{◌≡◌, inl, inr, ℕ, ◌≤◌, List, length, map, Option, Some, None, Contains, refl, sym, ◌∙◌, subst, arith}
use Rattle.std.specs.Prelude.{codes}
use Rattle.std.specs.Option.{option_map}
use Rattle.std.proofs.lemmas.Bool.{cases_lt}
use Rattle.oe_dims.specs.declared.dims.DimsRow.{DimsRow}
use Rattle.oe_graph.specs.Printed.{ids_of, node_count}
use Rattle.oe_graph.specs.Read.{IsFaultless}
use Rattle.oe_graph.specs.References.{each_node}
use Rattle.oe_graph.specs.Tree.{PlainGraph, PlainNode, PlainStored}
use Rattle.oe_graph.specs.Valid.{AreValidStored, IsValidGraph}
use Rattle.oe_calls.specs.Calls.{Calls, CallsReach, ReachesProcess, callee, calls, directly, itself, onwards}
use Rattle.oe_calls.specs.Faults.{StandsWithStored, graph_too_large, process_recursive}
use Rattle.oe_resolve.specs.Defaults.{node_with_defaults, resolved}
use Rattle.oe_calls.specs.Rounds.{expanded, expanded_by, cleared_graph, cleared_stored, most_rounds}
use Rattle.oe_calls.proofs.CountLemmas.{callee_cleared}
use Rattle.oe_resolve.proofs.ExpansionLemmas.{Chained, expanded_in_order, first, next, none_left}
use Rattle.oe_calls.proofs.IdLemmas.{InOrder, id_has}
use Rattle.oe_calls.proofs.PlaceLemmas.{NoCalls, no_calls_in, places_of, settled_after}
use Rattle.oe_resolve.proofs.ResolvingLemmas.{each_node-with_defaults, ids_of-with_defaults, node_count-with_defaults}
use Rattle.oe_calls.proofs.Along.{map_there}
use Rattle.oe_check.specs.Walked.{IsNodeOf}
use Rattle.oe_graph.proofs.SearchLemmas.{each_count}
use Rattle.oe_translate.specs.Laws.{HasFewNodes, LeavesRoom, StaysSmall}
use Rattle.oe_translate.specs.Written.{sum_name}
use Rattle.oe_translate.proofs.NameLemmas.{count_translations}

module _ (stored : List PlainStored) (g : PlainGraph) (stored_valid : AreValidStored stored) (valid : IsValidGraph g) where
  order : InOrder (expanded stored g).nodes (expanded stored g).result
  order = (expanded_in_order stored g stored_valid most_rounds valid).0

  among : (id : List ℕ) → Contains (ids_of (resolved stored g).nodes) id → Contains (ids_of (expanded stored g).nodes) id
  among id has = subst (λ ids. Contains ids id) (ids_of-with_defaults (expanded stored g).nodes) has

  none_there : (n : PlainNode) → IsNodeOf (resolved stored g).nodes n → Contains (ids_of (resolved stored g).nodes) (sum_name n.id) → ⊥
  none_there n has there =
      order.apart n.id (sum_name n.id) (codes "sum") (among n.id (id_has (resolved stored g).nodes n has)) (among (sum_name n.id) there) refl

pub leaves_room : LeavesRoom
leaves_room = record { each = λ stored g stored_valid valid. record { each = λ n has sums. none_there stored g stored_valid valid n has } }

-- ---- how many nodes there are

reaches_on : (stored : List PlainStored) (u s t : PlainStored) (n : PlainNode) → ReachesProcess stored u s
    → Contains (each_node s.graph.nodes) n → Calls stored n t → ReachesProcess stored u t
reaches_on stored u s t n (calls has_first one) has call = onwards has_first one (calls has call)
reaches_on stored u s t n (onwards {t = v} has_first one rest) has call =
    onwards has_first one (reaches_on stored v s t n rest has call)

calls_reach_on : (stored : List PlainStored) (m : PlainNode) (s t : PlainStored) (n : PlainNode) → CallsReach stored m s
    → Contains (each_node s.graph.nodes) n → Calls stored n t → CallsReach stored m t
calls_reach_on stored m s t n (directly one) has call = onwards one (calls has call)
calls_reach_on stored m s t n (onwards {called = v} one rest) has call =
    onwards one (reaches_on stored v s t n rest has call)

-- a node of the graph that a chain of calls begins with
begins : (stored : List PlainStored) (g : PlainGraph) (count : ℕ) (s : PlainStored) → Chained stored g count s
    → (n : PlainNode) × (Contains (each_node g.nodes) n) × CallsReach stored n s
begins stored g count s (first {n = n} has call) = (n, has, directly call)
begins stored g count s (next {count = k} {n = n} {s = v} chain has call) =
    let start = begins stored g k v chain in (start.0, start.1, calls_reach_on stored start.0 v s n start.2 has call)

module _ (stored : List PlainStored) (g : PlainGraph) (stored_valid : AreValidStored stored) (none : IsFaultless (StandsWithStored stored g))
    (uncalled : (n : PlainNode) (s : PlainStored) → IsNodeOf (resolved stored g).nodes n → ¬ Calls stored n s) where
  -- no call is left after as many rounds as there are stored processes, nor after all
  early_none : NoCalls (map cleared_stored stored) (places_of (expanded_by (length stored) stored g).nodes)
  early_none =
      none_left stored g stored_valid (λ count s chain again.
      let start = begins stored g count s chain in none _ _ (process_recursive start.1 start.2 again))

  not_called : (n : PlainNode) → IsNodeOf (expanded stored g).nodes n → (o : Option PlainStored) → callee stored n.namespace n.process_id ≡ o
      → option_map cleared_stored o ≡ None
  not_called n has None is = refl
  not_called n has (Some s) is =
      let there : IsNodeOf (resolved stored g).nodes (node_with_defaults n) =
      subst (λ ns. Contains ns (node_with_defaults n)) (sym (each_node-with_defaults (expanded stored g).nodes)) (map_there node_with_defaults (each_node (expanded stored g).nodes) n has) in
      absurd (uncalled (node_with_defaults n) s there (record { caller = node_with_defaults n; holds = itself; calls = is }))

  last_none : NoCalls (map cleared_stored stored) (places_of (expanded stored g).nodes)
  last_none =
      no_calls_in (map cleared_stored stored) (expanded stored g).nodes
      (λ n has. callee_cleared stored n.namespace n.process_id ∙ not_called n has (callee stored n.namespace n.process_id) refl)

  same_count : node_count (expanded stored g).nodes ≡ node_count (expanded_by (length stored) stored g).nodes
  same_count =
      let cleared = map cleared_stored stored in
      elim (cases_lt most_rounds (length stored))
      as (λ _. node_count (expanded stored g).nodes ≡ node_count (expanded_by (length stored) stored g).nodes) [
        | inl below ↦ sym (settled_after cleared (cleared_graph g) most_rounds (length stored) (omega (arith, below)) last_none).count
        | inr above ↦ (settled_after cleared (cleared_graph g) (length stored) most_rounds above early_none).count
      ]

  few_before : node_count (expanded stored g).nodes ≤ 256
  few_before =
      elim (cases_lt 256 (node_count (expanded_by (length stored) stored g).nodes)) as (λ _. node_count (expanded stored g).nodes ≤ 256) [
        | inl above ↦ absurd (none _ _ (graph_too_large above))
        | inr within ↦ omega (arith, same_count, within)
      ]

  few : (rows : List DimsRow) → HasFewNodes rows (resolved stored g).nodes
  few rows =
      let nodes = (resolved stored g).nodes in
      omega (arith, count_translations rows nodes (each_node nodes), each_count nodes, node_count-with_defaults (expanded stored g).nodes, few_before)

pub stays_small : StaysSmall
stays_small = record { each = λ stored g stored_valid none uncalled rows. few stored g stored_valid none uncalled rows }
