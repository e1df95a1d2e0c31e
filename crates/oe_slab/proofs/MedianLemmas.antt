-- A time cut folds by no median.
use Rattle.std.proofs.Common.{◌≡◌, ◌≢◌, ℕ, Bool, true, false, List, Option, Some, None, refl, sym, ap, ◌∙◌}
use Rattle.std.proofs.lemmas.Bool.{true≢false}
use Rattle.std.specs.Prelude.{if◌then◌else◌}
use Rattle.oe_cell.specs.declared.cell.Cell.{Cell}
use Rattle.oe_expr.specs.Folds.{cell_by_cell, is_median, single_reducer}
use Rattle.oe_expr.specs.Requests as expr
use Rattle.oe_fold.specs.declared.pass.Pass.{Pass}
use Rattle.oe_fold.specs.declared.reducer.Reducer.{Reducer}
use Rattle.oe_fold.specs.declared.reducer.Reducer.TheVariants.{Median}
use Rattle.oe_graph.specs.Tree.{Nodes, no_nodes, node}
use Rattle.oe_check.specs.Checked.{CheckedGraph, operation_of_node}
use Rattle.oe_check.specs.Reach.{time_fold}
use Rattle.oe_meanings.proofs.RequestLemmas.{found}
use Rattle.oe_slab.specs.Cuts.{IsTimeCut}
use Rattle.oe_slab.specs.Folds.{AreNoMedians, HaveSeen}
use Rattle.oe_slab.proofs.FoldLemmas.{folds_reduce}

of_request : (q : expr.CellRequest) (reducer : Reducer) (ignores_nulls : Bool) → cell_by_cell q ≡ Some (reducer, ignores_nulls) → reducer ≢ Median
of_request (expr.unary f x) reducer ignores_nulls h = absurd cc
of_request (expr.binary f x y) reducer ignores_nulls h = absurd cc
of_request (expr.choice x y z) reducer ignores_nulls h = absurd cc
of_request (expr.element items index label missing) reducer ignores_nulls h = absurd cc
of_request (expr.reduction one i (expr.written l)) reducer ignores_nulls h = absurd cc
of_request (expr.reduction one i expr.the_data) reducer ignores_nulls h = by (is_median one) refl h
  where
    by : (median : Bool) → is_median one ≡ median → ◌≡◌ {A = Option (Reducer × Bool)} (if median then None else Some (one, i)) (Some (reducer, ignores_nulls))
        → reducer ≢ Median
    by true is h = absurd cc
    by false is h = λ e.
        let pair : ◌≡◌ {A = Reducer × Bool} (one, i) (reducer, ignores_nulls) = cc in
        let same : one ≡ reducer = ap (λ (p : Reducer × Bool). p.0) pair in
        true≢false (sym (ap is_median (same ∙ e)) ∙ is)

of_nodes : (nodes : Nodes) (reducer : Reducer) (ignores_nulls : Bool) → single_reducer nodes ≡ Some (reducer, ignores_nulls) → reducer ≢ Median
of_nodes no_nodes reducer ignores_nulls h = absurd cc
of_nodes (node id process_id namespace arguments no_nodes) reducer ignores_nulls h =
    let q = found cell_by_cell (expr.cell_request_at (record { id = id; process_id = process_id; namespace = namespace; arguments = arguments })) (reducer, ignores_nulls) h in
    of_request q.0 reducer ignores_nulls q.2
of_nodes (node id process_id namespace arguments (node id2 process_id2 namespace2 arguments2 rest)) reducer ignores_nulls h = absurd cc

pub folds_no_median : (c : CheckedGraph) (fold : ℕ) (cut : IsTimeCut c fold) → cut.lone.reducer ≢ Median
folds_no_median c fold cut =
    let x : Reducer × Bool = (cut.lone.reducer, cut.lone.ignores_nulls) in
    let op = found time_fold (operation_of_node c fold) x cut.lone.folds in
    let by = folds_reduce op.0 x op.2 in
    of_nodes by.0.graph.nodes cut.lone.reducer cut.lone.ignores_nulls (sym (ap time_fold by.1) ∙ op.2)

-- so none of its folds is one
pub no_medians : (folds : List Pass) (reducer : Reducer) (ignores_nulls : Bool) (seen : ℕ → List Cell) → reducer ≢ Median
    → HaveSeen folds reducer ignores_nulls seen → AreNoMedians folds
no_medians folds reducer ignores_nulls seen other have k fold at e = other (sym (have k fold at).reducer ∙ e)
