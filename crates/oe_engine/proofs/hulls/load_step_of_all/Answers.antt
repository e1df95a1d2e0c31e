use Rattle.std.proofs.Common.{◌≡◌, ◌-◌, ◌*◌, ◌∙◌, ℕ, length, refl, ap, arith}
use borrow.Rule.Slice.PartMut.{mid_len, mid_of}
use Rattle.std.proofs.lemmas.List.Elements.{All-drop, All-take}
use Rattle.oe_plan.specs.Figures.{largest_window}
use Rattle.oe_sources.specs.CatalogueRows.{rows_of}
use Rattle.oe_engine.specs.Hulls.{IsBegun}
use Rattle.oe_engine.proofs.HullLemmas.{piece_asked}
use Rattle.oe_engine.proofs.PieceLemmas.{first_all, first_begun, first_more, first_none, first_refused}
use Rattle.oe_engine.proofs.hulls.load_step_of_all.Goals as goal

pub loop-first-init : goal.loop-first-init
loop-first-init g c =
    let rows = rows_of (λ z. (goal.SharedSource-dyn g z).CubeSource.seen z.1) c.args.catalogue.now in
    record { spent = record { left = omega arith; seal = refl }; first = first_none c.args.plan.now c.args.step rows c.args.benches.now }

pub end_of_neighbours-end-requires-clause-step : goal.end_of_neighbours-end-requires-clause-step
end_of_neighbours-end-requires-clause-step g c = λ k d h.
    let rows = rows_of (λ z. (goal.SharedSource-dyn g z).CubeSource.seen z.1) c.args.catalogue.now in
    let begun = first_begun c.args.plan.now c.args.step c.loop-first.first rows c.args.benches.now c.loop-first.benches
    c.loop-first.invariant.first c.requires.begun k d h in
    omega (arith, begun.room.windows, c.requires.step)

pub load_neighbours-requires-clause-begun : goal.load_neighbours-requires-clause-begun
load_neighbours-requires-clause-begun g c =
    let p = c.args.plan.now in
    let rows = rows_of (λ z. (goal.SharedSource-dyn g z).CubeSource.seen z.1) c.args.catalogue.now in
    All-take (IsBegun p) _ _ (All-drop (IsBegun p) c.loop-first.first c.loop-first.benches
    (first_begun p c.args.step c.loop-first.first rows c.args.benches.now c.loop-first.benches c.loop-first.invariant.first c.requires.begun))

pub load_neighbours-requires-clause-asked : goal.load_neighbours-requires-clause-asked
load_neighbours-requires-clause-asked g c =
    let p = c.args.plan.now in
    let largest = largest_window p.graph p.size in
    let from = c.loop-first.first in
    let neighbours = c.end_of_neighbours-end in
    let benches = c.loop-first.benches in
    let many : length benches ≡ length c.args.benches.now = c.loop-first.invariant.first.many in
    let piece = piece_asked from neighbours.result (length c.args.benches.now) largest (omega (arith, neighbours.ensures.some)) (omega (arith, neighbours.ensures.most, many)) in
    let long : length (mid_of from (neighbours.result - from) benches) * largest ≡ (neighbours.result - from) * largest =
    ap (λ (n : ℕ). n * largest) (mid_len from neighbours.result benches neighbours.ensures.most) in
    let spent = c.loop-first.invariant.spent in
    record { enough = omega (arith, piece.0, piece.1, long, c.requires.asked.enough, spent.left); own = spent.seal ∙ c.requires.asked.own }

pub returns-in_err-load_neighbours-clause-loads : goal.returns-in_err-load_neighbours-clause-loads
returns-in_err-load_neighbours-clause-loads g c =
    let rows = rows_of (λ z. (goal.SharedSource-dyn g z).CubeSource.seen z.1) c.args.catalogue.now in
    let neighbours = c.end_of_neighbours-end in
    first_refused c.args.plan.now c.args.step c.loop-first.first rows c.args.benches.now c.loop-first.benches
    c.loop-first.invariant.first neighbours.result (omega (arith, neighbours.ensures.some)) neighbours.ensures.most
    c.load_neighbours.new.benches c.in_err-load_neighbours.field-0.0 c.from_residual.result c.from_residual.ensures.1 c.requires.begun
    c.in_err-load_neighbours.ensures.loads

pub loop-first-preserved : goal.loop-first-preserved
loop-first-preserved g c =
    let rows = rows_of (λ z. (goal.SharedSource-dyn g z).CubeSource.seen z.1) c.args.catalogue.now in
    let p = c.args.plan.now in
    let largest = largest_window p.graph p.size in
    let from = c.loop-first.first in
    let neighbours = c.end_of_neighbours-end in
    let benches = c.loop-first.benches in
    let many : length benches ≡ length c.args.benches.now = c.loop-first.invariant.first.many in
    let piece = piece_asked from neighbours.result (length c.args.benches.now) largest (omega (arith, neighbours.ensures.some)) (omega (arith, neighbours.ensures.most, many)) in
    let long : length (mid_of from (neighbours.result - from) benches) * largest ≡ (neighbours.result - from) * largest =
    ap (λ (n : ℕ). n * largest) (mid_len from neighbours.result benches neighbours.ensures.most) in
    record {
      spent = record {
        left = omega (arith, piece.0, long, c.loop-first.invariant.spent.left, c.in_ok-load_neighbours.ensures.spent.left);
        seal = c.in_ok-load_neighbours.ensures.spent.seal ∙ c.loop-first.invariant.spent.seal;
      };
      first = first_more c.args.plan.now c.args.step c.loop-first.first rows c.args.benches.now c.loop-first.benches
          c.loop-first.invariant.first neighbours.result (omega (arith, neighbours.ensures.some)) neighbours.ensures.most
          c.load_neighbours.new.benches c.in_ok-load_neighbours.ensures.loads;
    }

pub returns-clause-loads : goal.returns-clause-loads
returns-clause-loads g c =
    let rows = rows_of (λ z. (goal.SharedSource-dyn g z).CubeSource.seen z.1) c.args.catalogue.now in
    first_all c.args.plan.now c.args.step c.loop-first.first rows c.args.benches.now c.loop-first.benches
    c.loop-first.invariant.first (omega (arith, c.loop-first-test.false))

pub returns-clause-spent : goal.returns-clause-spent
returns-clause-spent g c =
    let p = c.args.plan.now in
    let largest = largest_window p.graph p.size in
    let first = c.loop-first.invariant.first in
    let end : c.loop-first.first ≡ length c.args.benches.now = omega (arith, first.many, first.within, c.loop-first-test.false) in
    let spent = c.loop-first.invariant.spent in
    record { left = omega (arith, spent.left, ap (λ (n : ℕ). n * largest) end); seal = spent.seal }
