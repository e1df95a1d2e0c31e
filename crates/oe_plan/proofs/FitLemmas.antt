-- How much memory a run of a plan takes.
use Rattle.std.specs.Prelude.{◌≡◌, ◌<◌, ◌≤◌, ◌+◌, ◌*◌, ℕ}
use Rattle.std.proofs.Common.{sym, ap, ◌∙◌, subst, arith}
use Rattle.std.proofs.Math.Nat.{mul-le-mul}
use Rattle.oe_check.specs.Checked.{CheckedGraph}
use Rattle.oe_check.specs.Links.{links_of}
use Rattle.oe_window.specs.declared.grid.ChunkSize.{ChunkSize}
use Rattle.oe_plan.proofs.RunLemmas.{some_width}
use Rattle.oe_plan.specs.Figures.{bound_of, largest_window, most_held_cells, scratch_of, width_of_run}
use Rattle.oe_plan.specs.Fits.{FitMemory, FitsMemory, bench_cells}
use Rattle.oe_plan.specs.Plans.{PlanOf, IsPlan}

-- the parts of a product of two positive numbers are no larger than it
pub parts_fit : (workers width largest scratch most : ℕ) → 1 ≤ workers → 1 ≤ width
    → 2 * workers * (width * largest + scratch) ≤ most
    → (width * largest + scratch ≤ most) × (width * largest ≤ most) × (largest ≤ most) × (scratch ≤ most)
parts_fit workers width largest scratch most some wide whole =
    let bench : 1 * (width * largest + scratch) ≤ 2 * workers * (width * largest + scratch) =
    mul-le-mul (omega arith) (omega arith) in
    let one : 1 * largest ≤ width * largest = mul-le-mul wide (omega arith) in
    (omega arith, omega arith, omega arith, omega arith)

fits_memory : (p : PlanOf) → IsPlan p → FitsMemory p
fits_memory p plan =
    let wide : 1 ≤ p.order.width = some_width (links_of p.graph.nodes) p.graph.result p.order plan.listing plan.slotted in
    let total = ap (λ (width : ℕ). 2 * p.workers * (width * largest_window p.graph p.size + scratch_of p.graph)) plan.width_is in
    let whole : 2 * p.workers * bench_cells p ≤ most_held_cells = subst (λ (cells : ℕ). cells ≤ most_held_cells) (sym total) plan.bounded in
    let parts =
    parts_fit p.workers p.order.width (largest_window p.graph p.size) (scratch_of p.graph) most_held_cells
    plan.ranges.least wide whole in
    record {
      total = total;
      most = whole;
      bench = parts.0;
      buffers = parts.1;
      wide = wide;
      largest = parts.2;
      scratch = parts.3;
    }

-- a plan's buffers have at most as many cells as its bound
pub fit_memory : FitMemory
fit_memory = record { each = fits_memory }

-- a bound over the limit is that of the definition
pub too_large_is : (c : CheckedGraph) (size : ChunkSize) (workers width large scratch bound cells : ℕ) → width ≡ width_of_run c
    → large ≡ largest_window c size → scratch ≡ scratch_of c → bound ≡ 2 * workers * (width * large + scratch)
    → most_held_cells < bound → bound ≡ cells → (cells ≡ bound_of c size workers) × (most_held_cells < cells)
too_large_is c size workers width large scratch bound cells width_is large_is scratch_is is over same = (
  sym same ∙ is ∙ ap (λ (w : ℕ). 2 * workers * (w * large + scratch)) width_is
      ∙ ap (λ (l : ℕ). 2 * workers * (width_of_run c * l + scratch)) large_is
      ∙ ap (λ (s : ℕ). 2 * workers * (width_of_run c * largest_window c size + s)) scratch_is,
  subst (λ (n : ℕ). most_held_cells < n) same over,
)
