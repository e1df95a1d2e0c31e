-- The room for an evaluation.
use Rattle.std.proofs.Common.{ℕ, zero, suc, ◌+◌, ◌*◌, ◌<◌, ◌≤◌, List, [], ◌∷◌, length, map, get_or, arith}
use Rattle.oe_dims.specs.declared.kind.Kind.TheVariants.{Time, Bands, Y, X}
use Rattle.oe_dims.specs.declared.kind.Kind.{Kind}
use Rattle.oe_ops.specs.Nodes.{HasScratch}
use Rattle.oe_order.specs.Live.{largest}
use Rattle.oe_plan.specs.Figures.{scratch_of, shape_of_node, steps_of}
use Rattle.oe_check.specs.Checked.{CheckedGraph}
use Rattle.oe_window.specs.Windows.{extent_along}

pub one_of_largest : (f : ℕ → ℕ) (xs : List ℕ) (i : ℕ) → i < length xs → f (get_or xs i 0) ≤ largest (map f xs)
one_of_largest f [] i h = absurd (omega arith)
one_of_largest f (x ∷ xs) zero h = omega arith
one_of_largest f (x ∷ xs) (suc i) h = let rest = one_of_largest f xs i (omega arith) in omega arith

-- the cells besides are enough for a node of the run
pub has_room : (c : CheckedGraph) (i : ℕ) → i < length (steps_of c) → HasScratch (shape_of_node c (get_or (steps_of c) i 0)) (scratch_of c)
has_room c i h along = by along (one_of_largest (λ node. extent_along (shape_of_node c node) along) (steps_of c) i h)
  where
    node : ℕ
    node = get_or (steps_of c) i 0

    most : Kind → ℕ
    most along = largest (map (λ node. extent_along (shape_of_node c node) along) (steps_of c))

    by : (along : Kind) → extent_along (shape_of_node c node) along ≤ most along → 192 + 2 * extent_along (shape_of_node c node) along ≤ scratch_of c
    by Time le = omega arith
    by Bands le = omega arith
    by Y le = omega arith
    by X le = omega arith
