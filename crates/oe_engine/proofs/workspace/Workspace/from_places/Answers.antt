use Rattle.std.proofs.Common.{◌≡◌, ◌+◌, ◌*◌, ◌<◌, ◌≤◌, ◌++◌, ◌∷◌, [], List, ℕ, subst, sym, arith}
use Rattle.std.proofs.lemmas.Grind.{common_steps}
use Rattle.oe_plan.specs.Figures.{most_held_cells}
use Rattle.oe_plan.specs.Fits.{bench_cells}
use Rattle.oe_engine.specs.Benches.{BenchOf, held_cells}
use Rattle.oe_engine.proofs.WorkspaceLemmas.{AreSome, cells_of_bench, none_yet, one_more, room}
use Rattle.oe_engine.proofs.workspace.Workspace.from_places.Goals as goal

pub new-requires-clause-some : goal.new-requires-clause-some
new-requires-clause-some c = omega (arith, c.workers-workers.ensures.value, c.workers-workers.ensures.valid.ranges.least)

pub new-requires-clause-most : goal.new-requires-clause-most
new-requires-clause-most c = omega (arith, c.workers-workers.ensures.value, c.workers-workers.ensures.valid.ranges.most)

pub loop-init : goal.loop-init
loop-init c =
    let p = c.args.plan.now in
    let places = c.args.places.now.items in
    subst (λ (benches : List BenchOf). AreSome p benches places 0 0) (sym c.in_ok-benches.ensures.items)
    (none_yet p places c.requires.many c.requires.made)

pub take_bench-requires : goal.take_bench-requires
take_bench-requires c = omega (arith, c.loop.invariant.left, c.loop-test.true, c.workers-workers.ensures.value)

pub cells-cells-requires : goal.cells-cells-requires
cells-cells-requires c = c.in_ok-bench.ensures.bench c.args.plan.now c.loop.invariant.made

pub overflow_add-cells : goal.overflow_add-cells
overflow_add-cells c =
    let p = c.args.plan.now in
    let total = c.loop.invariant.total in
    let held = cells_of_bench p c.in_ok-bench.bench (c.in_ok-bench.ensures.bench p c.loop.invariant.made) in
    let most : c.loop.counter * bench_cells p + bench_cells p ≤ most_held_cells =
    room p c.workers-workers.ensures.valid c.loop.counter (omega (arith, c.loop-test.true, c.workers-workers.ensures.value)) in
    omega (arith, total, held, most, c.cells-cells.ensures)

pub loop-preserved : goal.loop-preserved
loop-preserved c =
    let p = c.args.plan.now in
    let b = c.in_ok-bench.bench in
    let left = c.take_bench.new.places.items in
    let items : c.push.new.self.items ≡ c.loop.benches.items ++ b ∷ [] = c.in_ok-push.ensures.items in
    let more = one_more p c.loop.benches.items c.loop.places.items left b c.loop.counter c.loop.cells c.loop.invariant
    (c.in_ok-bench.ensures.bench p c.loop.invariant.made) (c.in_ok-bench.ensures.idle p c.loop.invariant.made)
    c.in_ok-bench.ensures.fewer
    (c.in_ok-bench.ensures.others p c.loop.invariant.made) in
    subst (λ (n : ℕ). AreSome p c.push.new.self.items left (c.loop.counter + 1) (c.loop.cells + n)) (sym c.cells-cells.ensures)
    (subst (λ (benches : List BenchOf). AreSome p benches left (c.loop.counter + 1) (c.loop.cells + held_cells b)) (sym items) more)

pub returns-clause-cells : goal.returns-clause-cells
returns-clause-cells c = grind (arith, common_steps) steps 2000000
