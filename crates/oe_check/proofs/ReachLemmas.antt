-- A reduction of t that goes date by date has the value of its reducer.
use Rattle.std.proofs.Common.{◌≡◌, ℕ, zero, suc, ◌<◌, Bool, true, false, List, [], refl, sym, ap, ◌∙◌, subst, arith, Option, Some, None}
use Rattle.std.specs.Option.{option_and_then}
use Rattle.std.specs.Prelude.{if◌then◌else◌}
use Rattle.oe_cell.specs.declared.cell.Cell.{Cell}
use Rattle.oe_dims.proofs.OrderLemmas.{same_name_refl}
use Rattle.oe_dims.specs.Plain.{PlainLabels}
use Rattle.oe_dims.specs.declared.kind.Kind.TheVariants.{Time}
use Rattle.oe_fold.specs.Value.{reduction_of}
use Rattle.oe_fold.specs.declared.reducer.Reducer.{Reducer}
use Rattle.oe_graph.specs.Printed.{node_count}
use Rattle.oe_graph.specs.Resolved.{IsResolvedUnder, IsResolvedObject, itself}
use Rattle.oe_graph.specs.Tree.{Named, Nodes, no_nodes, node, PlainNode}
use Rattle.oe_expr.specs.Folds.{cell_by_cell, is_median, single_reducer}
use Rattle.oe_expr.specs.Nodes.{down_from, id_at}
use Rattle.oe_expr.specs.Requests as expr
use Rattle.oe_expr.specs.Scope.{Environment, scope_parameters}
use Rattle.oe_expr.specs.Value.{node_value_at}
use Rattle.oe_meanings.specs.Meaning.{value_on_list}
use Rattle.oe_requests.specs.Operations.{reduce}
use Rattle.oe_check.specs.Reach.{time_fold, FoldDateByDate}

-- of what a node asks for it is the reduction of the list of the scope
of_data : (q : expr.CellRequest) (r : Reducer) (ignore : Bool) → cell_by_cell q ≡ Some (r, ignore) → q ≡ expr.reduction r ignore expr.the_data
of_data (expr.unary f x) r ignore h = absurd cc
of_data (expr.binary f x y) r ignore h = absurd cc
of_data (expr.choice x y z) r ignore h = absurd cc
of_data (expr.element items index label missing) r ignore h = absurd cc
of_data (expr.reduction one i (expr.written l)) r ignore h = absurd cc
of_data (expr.reduction one i expr.the_data) r ignore h = by (is_median one) h
  where
    by : (median : Bool) → ◌≡◌ {A = Option (Reducer × Bool)} (if median then None else Some (one, i)) (Some (r, ignore))
        → expr.reduction one i expr.the_data ≡ expr.reduction r ignore expr.the_data
    by true h = absurd cc
    by false h =
        let same : ◌≡◌ {A = Reducer × Bool} (one, i) (r, ignore) = cc in
        ap (λ (p : Reducer × Bool). expr.reduction p.0 p.1 expr.the_data) same

asks_for : (q : Option expr.CellRequest) (r : Reducer) (ignore : Bool) → option_and_then cell_by_cell q ≡ Some (r, ignore) → q ≡ Some (expr.reduction r ignore expr.the_data)
asks_for None r ignore h = absurd cc
asks_for (Some q) r ignore h = ap Some (of_data q r ignore h)

-- the value of a node that stands alone
value_alone : (n : PlainNode) (r : Reducer) (ignore : Bool) (e : Environment) → expr.cell_request_at n ≡ Some (expr.reduction r ignore expr.the_data)
    → node_value_at e (node n.id n.process_id n.namespace n.arguments no_nodes) n.id ≡ reduction_of r ignore e.cells
unfolding down_from
value_alone n r ignore e asks = rw (same_name_refl n.id, asks) refl

of_graph : (nodes : Nodes) (result : ℕ) (r : Reducer) (ignore : Bool) (e : Environment) → single_reducer nodes ≡ Some (r, ignore) → result < node_count nodes
    → node_value_at e nodes (id_at result nodes) ≡ reduction_of r ignore e.cells
of_graph no_nodes result r ignore e h lt = absurd cc
of_graph (node id process_id namespace arguments no_nodes) zero r ignore e h lt =
    let n : PlainNode = record { id = id; process_id = process_id; namespace = namespace; arguments = arguments } in
    value_alone n r ignore e (asks_for (expr.cell_request_at n) r ignore h)
of_graph (node id process_id namespace arguments no_nodes) (suc result) r ignore e h lt = absurd (omega arith)
of_graph (node id process_id namespace arguments (node id2 process_id2 namespace2 arguments2 rest)) result r ignore e h lt = absurd cc

pub fold_date_by_date : FoldDateByDate
fold_date_by_date = record {
  each = λ c r ignore resolved h labels cells.
      let object : IsResolvedObject true (scope_parameters c.scope) c.graph.nodes c.graph.result = resolved true (scope_parameters c.scope) c.graph.nodes c.graph.result itself in
      of_graph c.graph.nodes c.graph.result r ignore _ h object.has_result;
}
