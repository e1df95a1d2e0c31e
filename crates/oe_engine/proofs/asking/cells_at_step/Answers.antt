use Rattle.std.proofs.Common.{◌≤◌, ◌*◌, ℕ, sym, ap, subst, arith}
use Rattle.std.proofs.Math.Nat.{mul-le-mul}
use Rattle.oe_plan.proofs.FitLemmas.{fit_memory}
use Rattle.oe_plan.specs.Figures.{largest_window, most_held_cells}
use Rattle.oe_plan.specs.Fits.{bench_cells}
use Rattle.oe_plan.specs.Plans.{IsPlan, PlanOf}
use Rattle.oe_engine.proofs.asking.cells_at_step.Goals as goal

-- two chunks a worker have no more cells at a step than all benches together
fits : (p : PlanOf) (count : ℕ) → IsPlan p → count ≤ 2 * p.workers → count * largest_window p.graph p.size ≤ most_held_cells
fits p count plan le =
    let f = fit_memory.each p plan in
    let largest = largest_window p.graph p.size in
    let one : 1 * largest ≤ p.order.width * largest = mul-le-mul f.wide (omega arith) in
    let all : count * largest ≤ 2 * p.workers * bench_cells p = mul-le-mul le (omega (arith, one)) in
    omega (arith, all, f.most)

pub overflow_mul-result : goal.overflow_mul-result
overflow_mul-result c =
    let most = subst (λ (n : ℕ). c.args.count * n ≤ most_held_cells) (sym c.largest.ensures.value) (fits c.args.plan.now c.args.count c.largest.ensures.valid c.requires) in
    omega (arith, most)

pub returns-clause-value : goal.returns-clause-value
returns-clause-value c = ap (λ (n : ℕ). c.args.count * n) c.largest.ensures.value

pub returns-clause-few : goal.returns-clause-few
returns-clause-few c =
    subst (λ (n : ℕ). c.args.count * n ≤ most_held_cells) (sym c.largest.ensures.value) (fits c.args.plan.now c.args.count c.largest.ensures.valid c.requires)
