-- The records of a run that is complete: those of all cells, which rendering reads.
use Rattle.std.proofs.Common.{◌≡◌, ◌≢◌, ℕ, ◌*◌, ◌<◌, List, [], length, take, drop, get_or, Option, Some, None, sym, ap, ◌∙◌, subst, arith}
use Rattle.std.specs.List.{All}
use Rattle.std.proofs.lemmas.List.Elements.{All-from_get_or}
use Rattle.oe_cell.specs.Cells.{IsCell}
use Rattle.oe_cell.specs.Record.{records_of}
use Rattle.oe_cell.specs.declared.cell.Cell.{Cell}
use Rattle.oe_cell.specs.declared.cell.Cell.TheVariants.{Empty, Over}
use Rattle.oe_cell.proofs.ListLemmas.{length-records_of, records_of-injective}
use Rattle.oe_dims.specs.Cube.{Cube, IsCube}
use Rattle.oe_dims.specs.Dimensions.{cell_count}
use Rattle.oe_dims.specs.Positions.{IsPosition, Position, number_of}
use Rattle.oe_dims.proofs.CubeLemmas.{length-tuples, number_below, position_there}
use Rattle.oe_outside.specs.Visible.{AddsBytes, AddsSome, Appends, AppendsPrefix}
use Rattle.oe_plan.specs.Plans.{IsPlan, PlanOf}
use Rattle.oe_render.specs.Rendered.{AppendsCube, AppendsCubePrefix, CountsCube, CountsCubePrefix}
use Rattle.oe_render.specs.Stored.{AreStored, HasCells}
use Rattle.oe_render.specs.Text.{cube_text}
use Rattle.oe_meanings.specs.Graphs.{Collections}
use Rattle.oe_check.specs.Laws.{AreCollectionsOf}
use Rattle.oe_requests.specs.Operations.{Outline}
use Rattle.oe_check.proofs.CheckedLemmas.{give_cubes}
use Rattle.oe_spool.specs.Spooled.{HoldsCube, HoldsRecord, IsInSome}
use Rattle.oe_spool.proofs.CubeRecords.{IsStoredCell, cells_counted, cube_from_positions, cube_from_windows, if_some, list_of}
use Rattle.oe_spool.proofs.ChunkLists.{all_inside}
use Rattle.oe_engine.specs.Runs.{HasDone, HasRunRecords, RunOf, ShowsDone, chunk_total, chunks_from, result_cube, result_shape}
use Rattle.oe_engine.proofs.GridLemmas.{has_sides}

-- ---- lists of cells

-- cells whose records stand in visible bytes where those of a cube's cells stand are the cube's
pub cells_of_cube : (bytes : List ℕ) (base : ℕ) (cube : Cube Cell) → HoldsCube (Some bytes) base cube → All IsCell cube.cells
    → (count : ℕ) → count ≡ cell_count cube.shape → (cells : List Cell) → AreStored (Some bytes) base count cells → cells ≡ cube.cells
cells_of_cube bytes base cube holds valid count same cells are =
    let many : length cells ≡ length cube.cells = are.counted ∙ same ∙ sym holds.counted in
    let long : length (records_of cells) ≡ length (records_of cube.cells) =
    length-records_of cells ∙ ap (λ n. 17 * n) many ∙ sym (length-records_of cube.cells) in
    records_of-injective cells cube.cells are.read.fit valid many
    (sym are.read.held ∙ ap (λ n. take n (drop base bytes)) long ∙ holds.held)

-- ---- a run that is complete

module _ (p : PlanOf) (is : IsPlan p) (r : RunOf) (plan_is : r.plan ≡ p) (complete : r.done ≡ chunk_total p) where
  all_done : (q : Position) → IsPosition (result_shape p) q → IsInSome (chunks_from r.plan 0 r.done) q
  all_done q h =
      subst (λ plan. IsInSome (chunks_from plan 0 r.done) q) (sym plan_is)
      (subst (λ n. IsInSome (chunks_from p 0 n) q) (sym complete) (all_inside (result_shape p) p.size (has_sides p is) q h))

  stored_cell : (store : Option (List ℕ)) → r.over ≡ None → HasRunRecords r store → (k : ℕ) → k < cell_count (result_shape p)
      → (c : Cell) × IsStoredCell store r.base k c
  stored_cell store numbers records k h =
      let found = position_there (result_shape p) k h in
      let some = records found.0 (all_done found.0 found.1.inside) in (
        some.cell,
        record {
          valid = some.valid;
          held = subst (λ n. HoldsRecord store r.base n some.cell) found.1.number_is
              (subst (λ plan. HoldsRecord store r.base (number_of (result_shape plan) found.0) some.cell) plan_is some.held);
          numbered = some.numbered numbers;
        },
      )

  stored : (store : Option (List ℕ)) → r.over ≡ None → HasRunRecords r store
      → (cells : List Cell) × AreStored store r.base (cell_count (result_shape p)) cells
  stored store numbers records =
      let d = result_shape p in
      let listed = list_of (IsStoredCell store r.base) (cell_count d) (stored_cell store numbers records) in
      let cells = listed.cells in
      let many = listed.counted in
      let cube : Cube Cell = record { shape = d; cells = cells } in
      let whole : IsCube cube = many ∙ sym (length-tuples d) in (
        cells,
        record {
          counted = many;
          read = record {
            fit = All-from_get_or IsCell cells Empty (λ k h. (listed.each k (omega arith)).valid);
            held = (cube_from_positions store r.base cube (IsPosition d) whole (λ q h. h)
                (λ q h. (listed.each (number_of d q) (number_below d q h)).held)).held;
          };
          numbered = All-from_get_or (λ c. c ≢ Over) cells Empty (λ k h. (listed.each k (omega arith)).numbered);
        },
      )

  pub has_cells : (store : Option (List ℕ)) → r.over ≡ None → HasRunRecords r store → HasCells store r.base (cell_count (result_shape p))
  has_cells store numbers records =
      if_some ((cells : List Cell) × AreStored store r.base (cell_count (result_shape p)) cells) store (stored store numbers records)

  -- ---- the cells that stand in a store are those of the cube whose records stand there

  module _ (cube : Cube Cell) (of_shape : cube.shape ≡ result_shape p) (whole : IsCube cube) where
    valid_cells : (store : Option (List ℕ)) → HasDone r store cube → All IsCell cube.cells
    valid_cells store done =
        let counted = cells_counted cube whole in
        All-from_get_or IsCell cube.cells Empty (λ k h.
        (let found = position_there cube.shape k (omega arith) in
        subst (λ n. IsCell (get_or cube.cells n Empty)) found.1.number_is
        (done.valid found.0 (all_done found.0 (subst (λ d. IsPosition d found.0) of_shape found.1.inside)))))

    same_cells : (bytes : List ℕ) → HasDone r (Some bytes) cube → (cells : List Cell)
        → AreStored (Some bytes) r.base (cell_count (result_shape p)) cells → cells ≡ cube.cells
    same_cells bytes done cells are =
        cells_of_cube bytes r.base cube
        (cube_from_windows (Some bytes) r.base cube (chunks_from r.plan 0 r.done) whole
        (λ q h. all_done q (subst (λ d. IsPosition d q) of_shape h)) done.records)
        (valid_cells (Some bytes) done) (cell_count (result_shape p)) (ap cell_count (sym of_shape)) cells are

    same_cube : (cells : List Cell) → cells ≡ cube.cells → cube_text (record { shape = result_shape p; cells = cells }) ≡ cube_text cube
    same_cube cells same =
        ap (λ d. cube_text (record { shape = d; cells = cells })) (sym of_shape)
        ∙ ap (λ cs. cube_text (record { shape = cube.shape; cells = cs })) same

    pub text_is : (store before after : Option (List ℕ)) → ShowsDone r store cube
        → AppendsCube store r.base (result_shape p) before after → Appends before (cube_text cube) after
    text_is None before after done h = absurd done
    text_is (Some bytes) before after done h =
        subst (λ text. Appends before text after) (same_cube h.0 (same_cells bytes done h.0 h.1)) h.2

    pub prefix_is : (store before after : Option (List ℕ)) → ShowsDone r store cube
        → AppendsCubePrefix store r.base (result_shape p) before after → AppendsPrefix before (cube_text cube) after
    prefix_is None before after done h = absurd done
    prefix_is (Some bytes) before after done h =
        subst (λ text. AppendsPrefix before text after) (same_cube h.0 (same_cells bytes done h.0 h.1)) h.2

    pub count_is : (store : Option (List ℕ)) (before after : Option ℕ) → ShowsDone r store cube
        → CountsCube store r.base (result_shape p) before after → AddsBytes before (length (cube_text cube)) after
    count_is None before after done h = absurd done
    count_is (Some bytes) before after done h =
        subst (λ text. AddsBytes before (length text) after) (same_cube h.0 (same_cells bytes done h.0 h.1)) h.2

    pub part_count_is : (store : Option (List ℕ)) (before after : Option ℕ) → ShowsDone r store cube
        → CountsCubePrefix store r.base (result_shape p) before after → AddsSome before (length (cube_text cube)) after
    part_count_is None before after done h = absurd done
    part_count_is (Some bytes) before after done h =
        subst (λ text. AddsSome before (length text) after) (same_cube h.0 (same_cells bytes done h.0 h.1)) h.2

-- the cube of the result over collections
pub result_whole : (p : PlanOf) → IsPlan p → (collections : Collections) → AreCollectionsOf p.graph collections
    → IsCube (result_cube collections p)
result_whole p is collections has =
    (give_cubes.cube p.graph is.faultless collections has p.graph.result is.faultless.has_result).counted

pub result_shape_is : (p : PlanOf) → IsPlan p → (collections : Collections) → AreCollectionsOf p.graph collections
    → (result_cube collections p).shape ≡ result_shape p
result_shape_is p is collections has =
    ap (λ (o : Outline). o.shape)
    (give_cubes.cube p.graph is.faultless collections has p.graph.result is.faultless.has_result).outline_is
