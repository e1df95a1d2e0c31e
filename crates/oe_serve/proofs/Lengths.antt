-- How long the text of a run's result is, by what was counted.
use Rattle.std.proofs.Common.{◌≡◌, ◌≢◌, ◌≤◌, ℕ, length, get_or, List, Option, Some, None, sym, subst, arith}
use Rattle.std.proofs.lemmas.List.Elements.{All-from_get_or}
use Rattle.std.specs.List.{All}
use Rattle.oe_cell.specs.Cells.{IsCell}
use Rattle.oe_cell.specs.declared.cell.Cell.{Cell}
use Rattle.oe_cell.specs.declared.cell.Cell.TheVariants.{Empty, Over}
use Rattle.oe_dims.specs.Cube.{Cube, IsCube}
use Rattle.oe_dims.specs.Dimensions.{IsShape}
use Rattle.oe_dims.specs.Positions.{IsPosition, Position}
use Rattle.oe_dims.proofs.CubeLemmas.{position_there}
use Rattle.oe_engine.specs.Runs.{HasDone, OfRun, RunOf, ShowsDone, chunk_total, chunks_from, result_cube, result_shape}
use Rattle.oe_engine.proofs.RenderLemmas.{result_shape_is, result_whole}
use Rattle.oe_engine.proofs.GridLemmas.{has_sides}
use Rattle.oe_outside.specs.Faults.{last_count}
use Rattle.oe_outside.specs.Visible.{AddsBytes}
use Rattle.oe_plan.specs.Plans.{IsPlan}
use Rattle.oe_render.specs.Laws.{HasText}
use Rattle.oe_render.specs.Text.{cube_text}
use Rattle.oe_render.proofs.LawLemmas.{exact}
use Rattle.oe_meanings.specs.Graphs.{Collections}
use Rattle.oe_check.specs.Laws.{AreCollectionsOf}
use Rattle.oe_check.proofs.CheckedLemmas.{give_cubes}
use Rattle.oe_spool.specs.Least.{IsLeastOver}
use Rattle.oe_spool.specs.Spooled.{IsInSome}
use Rattle.oe_spool.proofs.CubeRecords.{cells_counted}
use Rattle.oe_spool.proofs.ChunkLists.{all_inside}
use Rattle.oe_window.specs.Cells.{cell_at}

-- what is said of bytes that are visible holds of them
pub done_shown : (r : RunOf) (store : Option (List ℕ)) (cube : Cube Cell) → ShowsDone r store cube → HasDone r store cube
done_shown r None cube shows = absurd shows
done_shown r (Some bytes) cube shows = shows

module _ (r : RunOf) (is : IsPlan r.plan) (complete : r.done ≡ chunk_total r.plan) (none : r.over ≡ None) where
  all_done : (q : Position) → IsPosition (result_shape r.plan) q → IsInSome (chunks_from r.plan 0 r.done) q
  all_done q h = subst (λ (n : ℕ). IsInSome (chunks_from r.plan 0 n) q) (sym complete) (all_inside (result_shape r.plan) r.plan.size (has_sides r.plan is) q h)

  module _ (collections : Collections) (are : AreCollectionsOf r.plan.graph collections) (store : Option (List ℕ))
      (done : HasDone r store (result_cube collections r.plan)) where
    abbrev cube : Cube Cell
    cube = result_cube collections r.plan

    whole : IsCube cube
    whole = result_whole r.plan is collections are

    valid : IsShape cube.shape
    valid = (give_cubes.cube r.plan.graph is.faultless collections are r.plan.graph.result is.faultless.has_result).valid

    -- what holds of the cells at all positions holds of all cells
    each : (P : Cell → Type 0) → ((p : Position) → IsInSome (chunks_from r.plan 0 r.done) p → P (cell_at Empty cube p))
        → All P cube.cells
    each P holds =
        let counted = cells_counted cube whole in
        All-from_get_or P cube.cells Empty (λ k h.
        (let found = position_there cube.shape k (omega arith) in
        subst (λ (n : ℕ). P (get_or cube.cells n Empty)) found.1.number_is
        (holds found.0 (all_done found.0 (subst (λ d. IsPosition d found.0) (result_shape_is r.plan is collections are) found.1.inside)))))

    least : IsLeastOver cube (IsInSome (chunks_from r.plan 0 r.done)) None
    least = subst (IsLeastOver cube (IsInSome (chunks_from r.plan 0 r.done))) none done.least

    -- so the result has a text
    has_text : HasText cube
    has_text = record {
      valid = valid;
      whole_cube = whole;
      fit = each IsCell done.valid;
      numbered = each (λ c. c ≢ Over) least;
    }

  -- a counter that began at 0 has counted all its bytes
  pub counts_all : (store : Option (List ℕ)) (first last count : ℕ) → first ≡ 0 → count ≡ last → count ≤ last_count
      → OfRun r store (λ cube. AddsBytes (Some first) (length (cube_text cube)) (Some last))
      → OfRun r store (λ cube. count ≡ length (cube_text cube))
  counts_all store first last count zero same within adds collections are shows =
      exact (result_cube collections r.plan) count
      (has_text collections are store (done_shown r store (result_cube collections r.plan) shows)) within
      (subst (λ (n : ℕ). AddsBytes (Some n) (length (cube_text (result_cube collections r.plan))) (Some count)) zero
      (subst (λ (n : ℕ). AddsBytes (Some first) (length (cube_text (result_cube collections r.plan))) (Some n)) (sym same)
      (adds collections are shows)))
