-- One chunk more, of a bench that is done: what is written of it, and its least number of a cell that is Over.
use Rattle.std.proofs.Common.{◌≡◌, ◌≢◌, ℕ, ◌+◌, ◌≤◌, List, [], ◌∷◌, get_or, Option, None, sym, subst, arith}
use Rattle.std.specs.List.{All}
use Rattle.std.proofs.lemmas.List.Elements.{All-map}
use Rattle.std.proofs.lemmas.Option.{slice_get-get_or}
use Rattle.oe_cell.specs.Cells.{IsCell}
use Rattle.oe_cell.specs.declared.cell.Cell.{Cell}
use Rattle.oe_cell.specs.declared.cell.Cell.TheVariants.{Empty, Over}
use Rattle.oe_dims.specs.Cube.{Cube}
use Rattle.oe_dims.specs.Positions.{IsPosition, Position}
use Rattle.oe_plan.specs.Plans.{IsPlan, PlanOf}
use Rattle.oe_spool.specs.Least.{IsLeastOver, lesser_of}
use Rattle.oe_spool.specs.Spooled.{ChangesOnly, HoldsWindow, IsInSome}
use Rattle.oe_spool.proofs.KeptLemmas.{change_of_both, change_of_more, change_of_one, window_stays}
use Rattle.oe_spool.proofs.LeastLemmas.{least_of_lists, least_of_one}
use Rattle.oe_spool.proofs.ChunkLists.{chunk_apart, chunk_inside, chunks_more, in_one, in_some}
use Rattle.oe_window.specs.Cells.{cell_at, cells_on}
use Rattle.oe_window.specs.Windows.{IsIn, positions}
use Rattle.oe_window.specs.declared.window.Window.{Window}
use Rattle.oe_window.specs.Chunks.{tiling_of}
use Rattle.oe_window.proofs.WindowLemmas.{position_number}
use Rattle.oe_engine.specs.Benches.{BenchOf, chunk_of}
use Rattle.oe_engine.specs.Chunks.{AreResultOf, HasNoOver, HasOnChunk, HasRecordsOf, HasValidCells, IsAtDone}
use Rattle.oe_engine.specs.Runs.{chunks_from, result_shape}
use Rattle.oe_engine.proofs.ChunkLemmas.{EachBefore}
use Rattle.oe_engine.proofs.DoneLemmas.{given_on, same_on_chunk, same_result}
use Rattle.oe_engine.proofs.GridLemmas.{has_sides}

-- where no cell at a position of a window is Over, none of its cells is
none_on : (cube : Cube Cell) (w : Window) → ((q : Position) → IsIn w q → cell_at Empty cube q ≢ Over)
    → All (λ c. c ≢ Over) (cells_on Empty cube w)
none_on cube w none =
    All-map (λ c. c ≢ Over) (cell_at Empty cube) (positions w) (λ k d h.
    none (get_or (positions w) k d) (position_number w k (get_or (positions w) k d) (slice_get-get_or (positions w) k d h)).0)

-- changes of some chunks are ones of more chunks
pub changes_among : (p : PlanOf) (base first n m : ℕ) (old new : Option (List ℕ)) → n ≤ m
    → ChangesOnly base (result_shape p) (IsInSome (chunks_from p first n)) old new
    → ChangesOnly base (result_shape p) (IsInSome (chunks_from p first m)) old new
changes_among p base first n m old new most changes =
    change_of_more base (result_shape p) (IsInSome (chunks_from p first n)) (IsInSome (chunks_from p first m)) old new
    (λ q h.
    (let one = in_one (tiling_of (result_shape p) p.size) first n q h in
    let before = one.most in
    in_some (tiling_of (result_shape p) p.size) first m q (record { chunk = one.chunk; least = one.least; most = omega arith; inside = one.inside }))) changes

pub changes_more : (p : PlanOf) (base first n : ℕ) (start old new : Option (List ℕ))
    → ChangesOnly base (result_shape p) (IsInSome (chunks_from p first n)) start old
    → ChangesOnly base (result_shape p) (IsIn (chunk_of p (first + n))) old new
    → ChangesOnly base (result_shape p) (IsInSome (chunks_from p first (n + 1))) start new
changes_more p base first n start old new before here =
    subst (λ ws. ChangesOnly base (result_shape p) (IsInSome ws) start new) (sym (chunks_more (tiling_of (result_shape p) p.size) first n))
    (change_of_both base (result_shape p) (chunks_from p first n) (chunk_of p (first + n) ∷ []) start old new before
    (change_of_one base (result_shape p) (chunk_of p (first + n)) old new here))

module _ (p : PlanOf) (is : IsPlan p) (first n : ℕ) where
  -- the records of earlier chunks stay
  pub records_before : (base : ℕ) (old new : Option (List ℕ)) (benches : List BenchOf)
      → ChangesOnly base (result_shape p) (IsIn (chunk_of p (first + n))) old new
      → EachBefore first n (HasRecordsOf p old base) benches → EachBefore first n (HasRecordsOf p new base) benches
  records_before base old new benches kept each i x before at cube on =
      window_stays old new base cube (chunk_of p (first + i)) (chunk_of p (first + n))
      (λ q h. subst (λ d. IsPosition d q) (sym on.shape) (chunk_inside (result_shape p) p.size (has_sides p is) (first + i) q h))
      (λ q h. subst (λ d. IsPosition d q) (sym on.shape) (chunk_inside (result_shape p) p.size (has_sides p is) (first + n) q h))
      (chunk_apart (result_shape p) p.size (has_sides p is) (first + i) (first + n) (omega arith))
      (subst (λ d. ChangesOnly base d (IsIn (chunk_of p (first + n))) old new) (sym on.shape) kept)
      (each i x before at cube on)

  module _ (b : BenchOf) (cells : List Cell) (are : AreResultOf p b cells) where
    pub records_here : (base : ℕ) (new : Option (List ℕ))
        → ((cube : Cube Cell) → cube.shape ≡ result_shape p → cells_on Empty cube (chunk_of p (first + n)) ≡ cells
        → HoldsWindow new base cube (chunk_of p (first + n)))
        → HasRecordsOf p new base (first + n) b
    records_here base new writes cube on =
        writes cube on.shape (same_on_chunk p is (first + n) b cube on cells are)

    pub valid_here : All IsCell cells → HasValidCells p (first + n) b
    valid_here valid others also = subst (All IsCell) (same_result p is (first + n) b cells others are also) valid

    module _ (found : Option ℕ)
        (finds : (cube : Cube Cell) → cube.shape ≡ result_shape p → cells_on Empty cube (chunk_of p (first + n)) ≡ cells
        → IsLeastOver cube (IsIn (chunk_of p (first + n))) found) where
      pub least_more : (cube : Cube Cell) → HasOnChunk p cube (first + n) b → (least : Option ℕ)
          → IsLeastOver cube (IsInSome (chunks_from p first n)) least
          → IsLeastOver cube (IsInSome (chunks_from p first (n + 1))) (lesser_of least found)
      least_more cube on least before =
          subst (λ ws. IsLeastOver cube (IsInSome ws) (lesser_of least found)) (sym (chunks_more (tiling_of (result_shape p) p.size) first n))
          (least_of_lists cube (chunks_from p first n) (chunk_of p (first + n) ∷ []) least found before
          (least_of_one cube (chunk_of p (first + n)) found
          (finds cube on.shape (same_on_chunk p is (first + n) b cube on cells are))))

      pub none_here : IsAtDone p (first + n) b → found ≡ None → HasNoOver p (first + n) b
      none_here done e others also =
          let given = given_on p is (first + n) b done in
          subst (All (λ c. c ≢ Over)) (same_on_chunk p is (first + n) b given.0 given.1 others also)
          (none_on given.0 (chunk_of p (first + n))
          (subst (IsLeastOver given.0 (IsIn (chunk_of p (first + n)))) e
          (finds given.0 given.1.shape (same_on_chunk p is (first + n) b given.0 given.1 cells are))))
