-- What a part of a run has written: the records of its chunks that are done, and of those of one round more.
use Rattle.std.proofs.Common.{◌≡◌, ◌≢◌, ℕ, zero, suc, ◌+◌, ◌-◌, ◌<◌, ◌≤◌, List, [], ◌∷◌, ◌++◌, length, Option, Some, None, inl, inr, refl, sym, ap, subst, arith}
use Rattle.std.specs.List.{slice_get}
use Rattle.oe_cell.specs.Cells.{IsCell}
use Rattle.oe_cell.specs.Record.{record_of}
use Rattle.oe_cell.specs.declared.cell.Cell.{Cell}
use Rattle.oe_cell.specs.declared.cell.Cell.TheVariants.{Empty, Over}
use Rattle.oe_cell.proofs.RecordLemmas.{length-record_of}
use Rattle.oe_dims.specs.Cube.{Cube}
use Rattle.oe_dims.specs.Positions.{IsPosition, Position, number_of}
use Rattle.oe_plan.specs.Plans.{IsPlan, PlanOf}
use Rattle.oe_meanings.specs.Graphs.{Collections}
use Rattle.oe_check.specs.Laws.{AreCollectionsOf}
use Rattle.oe_requests.specs.Operations.{Outline}
use Rattle.oe_check.proofs.CheckedLemmas.{give_cubes}
use Rattle.oe_spool.specs.Least.{IsLeastOver, lesser_of}
use Rattle.oe_spool.specs.Spooled.{ChangesOnly, HoldsRecord, HoldsRecords, IsInSome, IsRecordByte, record_offset}
use Rattle.oe_spool.proofs.KeptLemmas.{in_either, no_common_byte, others_kept, store_piece_kept}
use Rattle.oe_spool.proofs.LeastLemmas.{least_of_lists, none_first, none_second}
use Rattle.oe_spool.proofs.ChunkLists.{IsInOne, chunks_apart, chunks_both, chunks_inside, in_one}
use Rattle.oe_spool.proofs.CubeLemmas.{cell_of_window}
use Rattle.oe_window.specs.Cells.{cell_at, cells_on}
use Rattle.oe_window.specs.Chunks.{tiling_of}
use Rattle.oe_engine.specs.Benches.{BenchOf, IsDone, chunk_of}
use Rattle.oe_engine.specs.Chunks.{EachBench, HasNoOver, HasOnChunk, HasRecordsOf, HasValidCells, IsAtDone, IsLeastOf}
use Rattle.oe_engine.specs.Parts.{HasPartDone, HasPartRecords, run_of}
use Rattle.oe_engine.specs.Runs.{HasSome, PartRunOf, chunks_from, result_cube, result_shape}
use Rattle.oe_engine.proofs.DoneLemmas.{given_on, on_result}
use Rattle.oe_engine.proofs.GridLemmas.{has_sides}

abbrev pub part : PlanOf → ℕ → ℕ → ℕ → ℕ → ℕ → Option ℕ → PartRunOf
part p base first total done evaluations over = record {
  plan = p;
  base = base;
  first = first;
  count = total;
  done = done;
  evaluations = evaluations;
  over = over;
}

some_at : (benches : List BenchOf) (i : ℕ) → i < length benches → (b : BenchOf) × (slice_get benches i ≡ Some b)
some_at [] i h = absurd (omega arith)
some_at (b ∷ benches) zero h = (b, refl)
some_at (b ∷ benches) (suc i) h = some_at benches i (omega arith)

-- the bench of a chunk
record HasBench (Holds : ℕ → BenchOf → Type 0) (k : ℕ) : Type 0 where
  bench : BenchOf
  holds : Holds k bench

bench_of : (first : ℕ) (Holds : ℕ → BenchOf → Type 0) (benches : List BenchOf) → EachBench first Holds benches
    → (k : ℕ) → first ≤ k → k < first + length benches → HasBench Holds k
bench_of first Holds benches each k least most =
    let found = some_at benches (k - first) (omega arith) in
    let same : first + (k - first) ≡ k = omega arith in
    record { bench = found.0; holds = subst (λ j. Holds j found.0) same (each (k - first) found.0 found.1) }

-- what a bench has written: the records of its chunk, of valid cells
record HasWritten (p : PlanOf) (store : Option (List ℕ)) (base k : ℕ) (b : BenchOf) : Type 0 where
  records : HasRecordsOf p store base k b
  valid : HasValidCells p k b

module _ (p : PlanOf) (is : IsPlan p) (base first total done before after count : ℕ) (over : Option ℕ) (old new : Option (List ℕ))
    (changes : ChangesOnly base (result_shape p) (IsInSome (chunks_from p (first + done) count)) old new) where
  none_more : first + done ≤ first + done
  none_more = omega arith

  -- ---- what stands stays

  records_left : (cube : Cube Cell) → cube.shape ≡ result_shape p → HoldsRecords old base cube (IsInSome (chunks_from p first done))
      → HoldsRecords new base cube (IsInSome (chunks_from p first done))
  records_left cube of_shape held =
      others_kept old new base cube (IsInSome (chunks_from p first done)) (IsInSome (chunks_from p (first + done) count))
      (λ q h. subst (λ d. IsPosition d q) (sym of_shape) (chunks_inside (result_shape p) p.size (has_sides p is) first done q h))
      (λ q h. subst (λ d. IsPosition d q) (sym of_shape) (chunks_inside (result_shape p) p.size (has_sides p is) (first + done) count q h))
      (chunks_apart (result_shape p) p.size (has_sides p is) first done (first + done) count none_more)
      (subst (λ d. ChangesOnly base d (IsInSome (chunks_from p (first + done) count)) old new) (sym of_shape) changes) held

  some_left : (least : Option ℕ) (q : Position) → (least ≡ None → over ≡ None) → (later : ℕ) → IsInSome (chunks_from p first done) q
      → HasSome (run_of (part p base first total done before over)) old q → HasSome (run_of (part p base first total later after least)) new q
  some_left least q none later h some = record {
    cell = some.cell;
    valid = some.valid;
    held = store_piece_kept (IsRecordByte base (result_shape p) (IsInSome (chunks_from p (first + done) count))) old new
        (record_offset base (number_of (result_shape p) q)) (record_of some.cell) changes
        (λ k low high. no_common_byte base (result_shape p) (IsInSome (chunks_from p first done)) (IsInSome (chunks_from p (first + done) count))
        (chunks_inside (result_shape p) p.size (has_sides p is) first done) (chunks_inside (result_shape p) p.size (has_sides p is) (first + done) count) (chunks_apart (result_shape p) p.size (has_sides p is) first done (first + done) count none_more) k
        (record { p = q; inside = h; begun = low; before = omega (arith, length-record_of some.cell) })) some.held;
    numbered = λ e. some.numbered (none e);
  }

  -- the records of a cube, where the part goes on from the same chunks
  pub done_stays : (cube : Cube Cell) → cube.shape ≡ result_shape p → HasPartDone (part p base first total done before over) old cube
      → HasPartDone (part p base first total done after over) new cube
  done_stays cube of_shape h = record { records = records_left cube of_shape h.records; valid = h.valid; least = h.least }

  -- the records of some cells
  pub records_stay : HasPartRecords (part p base first total done before over) old → HasPartRecords (part p base first total done after over) new
  records_stay records q h = some_left over q (λ e. e) done h (records q h)

  -- ---- the records of one round more

  all_chunks : chunks_from p first (done + count) ≡ chunks_from p first done ++ chunks_from p (first + done) count
  all_chunks = chunks_both (tiling_of (result_shape p) p.size) first done count

  module _ (benches : List BenchOf) (many : length benches ≡ count)
      (written : EachBench (first + done) (HasRecordsOf p new base) benches) (valid : EachBench (first + done) (HasValidCells p) benches)
      (least : Option ℕ) (is_least : IsLeastOf p (first + done) benches least) where
    each_written : EachBench (first + done) (HasWritten p new base) benches
    each_written i b at = record { records = written i b at; valid = valid i b at }

    -- of a cube that has the cells of the benches
    pub done_more : (cube : Cube Cell) → cube.shape ≡ result_shape p → EachBench (first + done) (HasOnChunk p cube) benches
        → HasPartDone (part p base first total done before over) old cube → HasPartDone (part p base first total (done + count) after (lesser_of over least)) new cube
    done_more cube of_shape on h = record {
      records = λ q among. elim (in_either (chunks_from p first done) (chunks_from p (first + done) count) q (subst (λ ws. IsInSome ws q) all_chunks among)) [
        | inl earlier ↦ records_left cube of_shape h.records q earlier
        | inr later ↦
            let one = in_one (tiling_of (result_shape p) p.size) (first + done) count q later in
            let most = one.most in
            let long = many in
            let b = bench_of (first + done) (λ k b. HasWritten p new base k b × HasOnChunk p cube k b) benches
            (λ i b at. (each_written i b at, on i b at)) one.chunk one.least (omega arith) in
            b.holds.0.records cube b.holds.1 q one.inside
      ];
      valid = λ q among. elim (in_either (chunks_from p first done) (chunks_from p (first + done) count) q (subst (λ ws. IsInSome ws q) all_chunks among)) [
        | inl earlier ↦ h.valid q earlier
        | inr later ↦
            let one = in_one (tiling_of (result_shape p) p.size) (first + done) count q later in
            let most = one.most in
            let long = many in
            let b = bench_of (first + done) (λ k b. HasWritten p new base k b × HasOnChunk p cube k b) benches
            (λ i b at. (each_written i b at, on i b at)) one.chunk one.least (omega arith) in
            cell_of_window IsCell cube (chunk_of p one.chunk) q one.inside
            (b.holds.0.valid (cells_on Empty cube (chunk_of p one.chunk)) b.holds.1.cells)
      ];
      least = subst (λ ws. IsLeastOver cube (IsInSome ws) (lesser_of over least)) (sym all_chunks)
          (least_of_lists cube (chunks_from p first done) (chunks_from p (first + done) count) over least h.least
          (subst (λ n. IsLeastOver cube (IsInSome (chunks_from p (first + done) n)) least) many (is_least.of_cubes cube on)));
    }

    -- of the result's cube over collections for which they are done
    pub values_more : (collections : Collections) → AreCollectionsOf p.graph collections → EachBench (first + done) (IsDone p collections) benches
        → HasPartDone (part p base first total done before over) old (result_cube collections p)
        → HasPartDone (part p base first total (done + count) after (lesser_of over least)) new (result_cube collections p)
    values_more collections has each h =
        done_more (result_cube collections p)
        (ap (λ (o : Outline). o.shape)
        (give_cubes.cube p.graph is.faultless collections has p.graph.result is.faultless.has_result).outline_is)
        (λ i b at. on_result p is (first + done + i) b collections has (each i b at)) h

    -- of some cells
    some_more : EachBench (first + done) (IsAtDone p) benches → (q : Position) → IsInOne (tiling_of (result_shape p) p.size) (first + done) count q
        → HasSome (run_of (part p base first total (done + count) after (lesser_of over least))) new q
    some_more each q one =
        let most = one.most in
        let long = many in
        let k = one.chunk in
        let b = bench_of (first + done) (λ k b. IsAtDone p k b × HasWritten p new base k b × (least ≡ None → HasNoOver p k b)) benches
        (λ i b at. (each i b at, each_written i b at, λ e. is_least.none e i b at)) k one.least (omega arith) in
        let given = given_on p is k b.bench b.holds.0 in
        let cells = cells_on Empty given.0 (chunk_of p k) in
        record {
          cell = cell_at Empty given.0 q;
          valid = cell_of_window IsCell given.0 (chunk_of p k) q one.inside (b.holds.1.valid cells given.1.cells);
          held = subst (λ d. HoldsRecord new base (number_of d q) (cell_at Empty given.0 q)) given.1.shape
              (b.holds.1.records given.0 given.1 q one.inside);
          numbered = λ e. cell_of_window (λ c. c ≢ Over) given.0 (chunk_of p k) q one.inside
              (b.holds.2 (none_second over least e) cells given.1.cells);
        }

    pub records_more : EachBench (first + done) (IsAtDone p) benches → HasPartRecords (part p base first total done before over) old
        → HasPartRecords (part p base first total (done + count) after (lesser_of over least)) new
    records_more each records q among =
        elim (in_either (chunks_from p first done) (chunks_from p (first + done) count) q (subst (λ ws. IsInSome ws q) all_chunks among)) [
          | inl earlier ↦ some_left (lesser_of over least) q (none_first over least) (done + count) earlier (records q earlier)
          | inr later ↦ some_more each q (in_one (tiling_of (result_shape p) p.size) (first + done) count q later)
        ]
