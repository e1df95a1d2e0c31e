-- The cells of the result that a bench holds once it is done, and cubes that have them on its chunk.
use Rattle.std.proofs.Common.{◌≡◌, ℕ, ◌<◌, List, length, get_or, inl, refl, sym, ap, ◌∙◌, subst, arith}
use Rattle.std.proofs.lemmas.List.{get_or_default}
use Rattle.oe_cell.specs.declared.cell.Cell.{Cell}
use Rattle.oe_cell.specs.declared.cell.Cell.TheVariants.{Empty}
use Rattle.oe_dims.specs.Cube.{Cube}
use Rattle.oe_plan.specs.Plans.{IsPlan, PlanOf, schedule_of}
use Rattle.oe_plan.specs.Windows.{window_at}
use Rattle.oe_plan.proofs.RunLemmas.{only_step}
use Rattle.oe_plan.proofs.ScheduleLemmas.{plan_schedule, plan_windows}
use Rattle.oe_meanings.specs.Graphs.{Collections}
use Rattle.oe_check.specs.Laws.{AreCollectionsOf}
use Rattle.oe_requests.specs.Operations.{Outline}
use Rattle.oe_check.proofs.CheckedLemmas.{give_cubes}
use Rattle.oe_window.specs.Cells.{cells_on}
use Rattle.oe_window.specs.Windows.{Holds, position_count, whole_window}
use Rattle.oe_window.proofs.WholeLemmas.{in_whole}
use Rattle.oe_engine.specs.Benches.{BenchOf, IsDone, KeepsState, buffer_cells_at, chunk_of, node_at}
use Rattle.oe_engine.specs.Chunks.{AreResultOf, HasOnChunk, IsAtDone}
use Rattle.oe_steps.specs.Inputs.{IsInput}
use Rattle.oe_engine.specs.Runs.{result_cube, result_shape}
use Rattle.oe_engine.specs.declared.bench.State.TheVariants.{Done}
use Rattle.oe_engine.proofs.GridLemmas.{has_sides}
use Rattle.oe_steps.proofs.ScheduleLemmas.{is_input}
use Rattle.oe_spool.proofs.CubeLemmas.{given_cube}
use Rattle.oe_spool.proofs.ChunkLists.{chunk_inside}

module _ (p : PlanOf) (is : IsPlan p) where
  -- the step of the result
  result_step : (step : ℕ) × (step < length p.order.steps) × (node_at p step ≡ p.graph.result)
  result_step =
      let has = (is.listing.members p.graph.result).1 (inl refl) in
      let below = has.1 in
      (has.0, has.1, get_or_default p.order.steps has.0 0 p.graph.result below ∙ has.2)

  pub chunk_within : (k : ℕ) → Holds (whole_window (result_shape p)) (chunk_of p k)
  chunk_within k q h = in_whole (result_shape p) q (chunk_inside (result_shape p) p.size (has_sides p is) k q h)

  module _ (k : ℕ) (b : BenchOf) where
    pub same_on_chunk : (cube : Cube Cell) → HasOnChunk p cube k b → (cells : List Cell) → AreResultOf p b cells
        → cells_on Empty cube (chunk_of p k) ≡ cells
    same_on_chunk cube on cells are =
        let s = result_step in on.cells s.0 s.1 s.2 ∙ sym (are s.0 s.1 s.2)

    pub same_result : (cells others : List Cell) → AreResultOf p b cells → AreResultOf p b others → cells ≡ others
    same_result cells others are also = let s = result_step in are s.0 s.1 s.2 ∙ sym (also s.0 s.1 s.2)

    pub on_chunk : (cells : List Cell) → AreResultOf p b cells → (cube : Cube Cell) → cube.shape ≡ result_shape p
        → cells_on Empty cube (chunk_of p k) ≡ cells → HasOnChunk p cube k b
    on_chunk cells are cube of_shape same = record { shape = of_shape; cells = λ step within result. same ∙ are step within result }

    -- over collections it has those of the result's cube
    pub on_result : (collections : Collections) → AreCollectionsOf p.graph collections → IsDone p collections k b
        → HasOnChunk p (result_cube collections p) k b
    on_result collections has done = record {
      shape = ap (λ (o : Outline). o.shape)
          (give_cubes.cube p.graph is.faultless collections has p.graph.result is.faultless.has_result).outline_is;
      cells = λ step within result. sym (done.cells step within result);
    }

    module _ (done : IsAtDone p k b) where
      keeps : KeepsState p b (Done k)
      keeps = subst (KeepsState p b) done.state done.bench.keeps

      input : (cells : List Cell) → AreResultOf p b cells → IsInput p.graph (schedule_of p) b.windows (result_step.0) cells
      input cells are =
          let s = result_step in
          is_input p.graph (schedule_of p) (plan_schedule p is) b.windows
          (plan_windows p is (chunk_of p k) b.windows keeps.0.windows) b.buffers done.bench.room.buffers s.0 s.1 cells
          (are s.0 s.1 s.2) (keeps.1 s.0 s.1 s.2)

      window_is : window_at b.windows (result_step.0) ≡ chunk_of p k
      window_is =
          let s = result_step in
          let long : s.0 < length b.windows = subst (λ n. s.0 < n) (sym done.bench.room.windows) s.1 in
          let of = subst (λ (steps : List ℕ). get_or steps s.0 0 ≡ p.graph.result) is.steps_are s.2 in
          keeps.0.windows.result s.0 long of

      -- one for each position of the chunk
      pub cells_counted : (cells : List Cell) → AreResultOf p b cells → length cells ≡ position_count (chunk_of p k)
      cells_counted cells are = (input cells are).counted ∙ ap position_count window_is

      own_cells : AreResultOf p b (buffer_cells_at p b.windows b.buffers (result_step.0))
      own_cells step within result =
          let s = result_step in
          ap (buffer_cells_at p b.windows b.buffers) (only_step p.order.steps is.listing.once s.0 step s.1 within (s.2 ∙ sym result))

      -- some cube has them there
      pub given_on : (cube : Cube Cell) × HasOnChunk p cube k b
      given_on =
          let cells = buffer_cells_at p b.windows b.buffers (result_step.0) in
          let given = given_cube (result_shape p) (chunk_of p k) (chunk_within k) cells (cells_counted cells own_cells) in
          (given.0, on_chunk cells own_cells given.0 given.1 given.2)
