-- What a run has written: the records of the chunks that are done, and of one chunk more.
use Rattle.std.proofs.Common.{◌≡◌, ℕ, ◌+◌, ◌≤◌, List, [], ◌∷◌, ◌++◌, length, Option, None, inl, inr, sym, ap, ◌∙◌, subst, arith}
use Rattle.std.specs.List.{All}
use Rattle.oe_cell.specs.Cells.{IsCell}
use Rattle.oe_cell.specs.Record.{record_of}
use Rattle.oe_cell.specs.declared.cell.Cell.{Cell}
use Rattle.oe_cell.specs.declared.cell.Cell.TheVariants.{Empty}
use Rattle.oe_cell.proofs.RecordLemmas.{length-record_of}
use Rattle.oe_dims.specs.Cube.{Cube}
use Rattle.oe_dims.specs.Positions.{IsPosition, Position, number_of}
use Rattle.oe_spool.specs.Least.{IsLeastOver, lesser_of}
use Rattle.oe_spool.specs.Spooled.{ChangesOnly, HoldsRecord, HoldsRecords, IsInSome, IsRecordByte, record_offset}
use Rattle.oe_spool.proofs.KeptLemmas.{change_of_one, in_either, no_common_byte, others_kept, store_piece_kept}
use Rattle.oe_spool.proofs.LeastLemmas.{least_of_lists, least_of_one, none_first, none_second}
use Rattle.oe_spool.proofs.CubeLemmas.{cell_of_window, given_cube}
use Rattle.oe_spool.proofs.ChunkLists.{chunk_inside, chunks_apart, chunks_inside, chunks_more}
use Rattle.oe_window.specs.Cells.{cell_at, cells_on}
use Rattle.oe_window.specs.Windows.{Holds, IsIn, position_count, whole_window}
use Rattle.oe_window.specs.Chunks.{tiling_of}
use Rattle.oe_window.proofs.WholeLemmas.{in_whole}
use Rattle.oe_slab.specs.Plans.{IsSlabPlan, SlabPlanOf}
use Rattle.oe_slab.specs.Results.{AreWritten}
use Rattle.oe_slab.specs.Runs.{HasDone, HasRunRecords, HasSome, SlabRunOf, chunk_of, chunks_from, result_shape}
use Rattle.oe_slab.proofs.GridLemmas.{has_sides}

abbrev pub run : SlabPlanOf → ℕ → ℕ → Option ℕ → SlabRunOf
run p base done over = record { plan = p; base = base; done = done; over = over }

module _ (p : SlabPlanOf) (is : IsSlabPlan p) where
  pub chunk_within : (k : ℕ) → Holds (whole_window (result_shape p)) (chunk_of p k)
  chunk_within k q h = in_whole (result_shape p) q (chunk_inside (result_shape p) p.size (has_sides p is) k q h)

  module _ (base done : ℕ) (over : Option ℕ) (old new : Option (List ℕ))
      (changed : ChangesOnly base (result_shape p) (IsIn (chunk_of p done)) old new) where
    pub changes : ChangesOnly base (result_shape p) (IsInSome (chunks_from p done 1)) old new
    changes = change_of_one base (result_shape p) (chunk_of p done) old new changed

    none_more : 0 + done ≤ done
    none_more = omega arith

    -- ---- what stands stays

    records_left : (cube : Cube Cell) → cube.shape ≡ result_shape p → HoldsRecords old base cube (IsInSome (chunks_from p 0 done))
        → HoldsRecords new base cube (IsInSome (chunks_from p 0 done))
    records_left cube of_shape held =
        others_kept old new base cube (IsInSome (chunks_from p 0 done)) (IsInSome (chunks_from p done 1))
        (λ q h. subst (λ d. IsPosition d q) (sym of_shape) (chunks_inside (result_shape p) p.size (has_sides p is) 0 done q h))
        (λ q h. subst (λ d. IsPosition d q) (sym of_shape) (chunks_inside (result_shape p) p.size (has_sides p is) done 1 q h))
        (chunks_apart (result_shape p) p.size (has_sides p is) 0 done done 1 none_more)
        (subst (λ d. ChangesOnly base d (IsInSome (chunks_from p done 1)) old new) (sym of_shape) changes) held

    some_left : (least : Option ℕ) (q : Position) → (least ≡ None → over ≡ None) → (later : ℕ) → IsInSome (chunks_from p 0 done) q
        → HasSome (run p base done over) old q → HasSome (run p base later least) new q
    some_left least q none later h some = record {
      cell = some.cell;
      valid = some.valid;
      held = store_piece_kept (IsRecordByte base (result_shape p) (IsInSome (chunks_from p done 1))) old new
          (record_offset base (number_of (result_shape p) q)) (record_of some.cell) changes
          (λ k low high. no_common_byte base (result_shape p) (IsInSome (chunks_from p 0 done)) (IsInSome (chunks_from p done 1))
          (chunks_inside (result_shape p) p.size (has_sides p is) 0 done) (chunks_inside (result_shape p) p.size (has_sides p is) done 1) (chunks_apart (result_shape p) p.size (has_sides p is) 0 done done 1 none_more) k
          (record { p = q; inside = h; begun = low; before = omega (arith, length-record_of some.cell) })) some.held;
      numbered = λ e. some.numbered (none e);
    }

    -- the records of a cube, where the run stands at the same chunk
    pub done_stays : (cube : Cube Cell) → cube.shape ≡ result_shape p → HasDone (run p base done over) old cube
        → HasDone (run p base done over) new cube
    done_stays cube of_shape h = record { records = records_left cube of_shape h.records; valid = h.valid; least = h.least }

    -- the records of some cells
    pub records_stay : HasRunRecords (run p base done over) old → HasRunRecords (run p base done over) new
    records_stay records q h = some_left over q (λ e. e) done h (records q h)

    -- ---- one chunk more

    chunks_next : chunks_from p 0 (done + 1) ≡ chunks_from p 0 done ++ chunk_of p done ∷ []
    chunks_next =
        let same : 0 + done ≡ done = omega arith in
        chunks_more (tiling_of (result_shape p) p.size) 0 done ∙ ap (λ k. chunks_from p 0 done ++ chunk_of p k ∷ []) same

    in_next : (q : Position) → IsInSome (chunk_of p done ∷ []) q → IsIn (chunk_of p done) q
    in_next q (inl h) = h
    in_next q (inr h) = absurd h

    module _ (cells : List Cell) (counted : length cells ≡ position_count (chunk_of p done)) (least : Option ℕ)
        (written : AreWritten (result_shape p) new base (chunk_of p done) cells least) where
      -- of a cube that has the cells there
      pub done_more : (cube : Cube Cell) → cube.shape ≡ result_shape p → cells_on Empty cube (chunk_of p done) ≡ cells
          → HasDone (run p base done over) old cube → HasDone (run p base (done + 1) (lesser_of over least)) new cube
      done_more cube of_shape same h = record {
        records = λ q among. elim (in_either (chunks_from p 0 done) (chunk_of p done ∷ []) q (subst (λ ws. IsInSome ws q) chunks_next among)) [
          | inl earlier ↦ records_left cube of_shape h.records q earlier
          | inr later ↦ written.records cube of_shape same q (in_next q later)
        ];
        valid = λ q among. elim (in_either (chunks_from p 0 done) (chunk_of p done ∷ []) q (subst (λ ws. IsInSome ws q) chunks_next among)) [
          | inl earlier ↦ h.valid q earlier
          | inr later ↦ cell_of_window IsCell cube (chunk_of p done) q (in_next q later) (subst (All IsCell) (sym same) written.valid)
        ];
        least = subst (λ ws. IsLeastOver cube (IsInSome ws) (lesser_of over least)) (sym chunks_next)
            (least_of_lists cube (chunks_from p 0 done) (chunk_of p done ∷ []) over least h.least
            (least_of_one cube (chunk_of p done) least (written.least_is cube of_shape same)));
      }

      -- of some cells
      some_more : (q : Position) → IsIn (chunk_of p done) q → HasSome (run p base (done + 1) (lesser_of over least)) new q
      some_more q inside =
          let given = given_cube (result_shape p) (chunk_of p done) (chunk_within done) cells counted in
          record {
            cell = cell_at Empty given.0 q;
            valid = cell_of_window IsCell given.0 (chunk_of p done) q inside (subst (All IsCell) (sym given.2) written.valid);
            held = subst (λ d. HoldsRecord new base (number_of d q) (cell_at Empty given.0 q)) given.1
                (written.records given.0 given.1 given.2 q inside);
            numbered = λ e.
                subst (IsLeastOver given.0 (IsIn (chunk_of p done))) (none_second over least e)
                (written.least_is given.0 given.1 given.2) q inside;
          }

      pub records_more : HasRunRecords (run p base done over) old → HasRunRecords (run p base (done + 1) (lesser_of over least)) new
      records_more records q among =
          elim (in_either (chunks_from p 0 done) (chunk_of p done ∷ []) q (subst (λ ws. IsInSome ws q) chunks_next among)) [
            | inl earlier ↦ some_left (lesser_of over least) q (none_first over least) (done + 1) earlier (records q earlier)
            | inr later ↦ some_more q (in_next q later)
          ]
